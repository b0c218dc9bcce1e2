-- `receiver::stride::free` meets its contract.
-- Assumes nothing.
use mathlib.Core.Path.{refl}
use lib.ListN.{length}
use native.Mathlib.Omega.{arith}
use Rattle.receiver.proofs.Standing.{complete_of_lem}
use Rattle.receiver.proofs.Striding.{free_complete, free_on}
use Rattle.receiver.proofs.stride.free.Goals as goal

pub returns-in_default : goal.returns-in_default
returns-in_default c =
    let a = c.args in free_on (length a.room.now) a.stamp a.tp.now a.start _ a.began a.room.now refl c.past_fill-at.ensures

pub taken-requires : goal.taken-requires
taken-requires c =
    let f = complete_of_lem _ _ _ _ _ c.readable_at.ensures c.in-Some.is in (omega (arith, f.0.stands.six), f.1, f.0.kind)

pub returns : goal.returns
returns c =
    let a = c.args in
    let f = complete_of_lem _ _ _ _ _ c.readable_at.ensures c.in-Some.is in
    free_complete (length a.room.now) a.stamp a.tp.now a.start _ a.began a.room.now _ refl (λ i. omega (arith, c.type_inv.tp i)) c.past_fill-at.ensures _ f.0 f.1 _ (rw c.of.ensures at c.taken.ensures.value) c.taken.ensures.room_after
