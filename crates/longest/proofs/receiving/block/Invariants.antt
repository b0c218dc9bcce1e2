-- `longest::receiving::block` keeps the receiver able. Assumes nothing.
use Rattle.receiver.specs.State.{Able}
use Rattle.longest.proofs.receiving.block.Given as goal

abbrev pub invariant-loop-tp : goal.invariant-loop-tp
invariant-loop-tp l = Able l.run.receiver
