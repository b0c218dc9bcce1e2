-- `longest::receiving::finds` keeps the receiver able. Assumes nothing.
use Rattle.receiver.specs.State.{Able}
use Rattle.longest.proofs.receiving.finds.Given as goal

abbrev pub invariant-loop : goal.invariant-loop
invariant-loop l = Able l.run.receiver
