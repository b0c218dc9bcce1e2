-- `eps::put_later` meets its contract, by the invariant `Putting`. The measure is what is left of the SP. Assumes nothing.
use lib.ListN.{length}
use Rattle.sender.proofs.PutPieces.{Putting}
use Rattle.sender.proofs.eps.put_later.Given as goal

abbrev pub invariant-loop-rest : goal.invariant-loop-rest
invariant-loop-rest l = Putting l.initial.buf l.initial.t l.content l.sp l.piece l.buf l.t l.rest

abbrev pub decreases-loop-rest : goal.decreases-loop-rest
decreases-loop-rest l = length l.rest
