-- `longest::receiving::blocks` keeps the receiver able. Assumes nothing.
use Rattle.receiver.specs.State.{Able}
use Rattle.longest.proofs.receiving.blocks.Given as goal

abbrev pub invariant-loop : goal.invariant-loop
invariant-loop l = Able l.run.receiver
