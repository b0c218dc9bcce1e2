-- `Reading::finds` keeps a receiver that can be called.
-- Assumes nothing.
use Rattle.receiver.specs.State.{Able}
use Rattle.c7read.proofs.Reading.finds.Given as goal

abbrev pub invariant-loop : goal.invariant-loop
invariant-loop l = Able l.self.receiver
