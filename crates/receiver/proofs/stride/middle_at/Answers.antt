-- `receiver::stride::middle_at` meets its contract.
-- Assumes nothing.
use native.Mathlib.Omega.{arith}
use Rattle.receiver.proofs.Standing.{intact_of, middle_kind, stands_of}
use Rattle.receiver.proofs.stride.middle_at.Goals as goal

pub overflow_sub-tp-2 : goal.overflow_sub-tp-2
overflow_sub-tp-2 c =
    let s = stands_of _ _ _ _ c.header_at.ensures c.in_ok-h.was in omega (arith, s.six)

pub returns : goal.returns
returns c =
    let s = stands_of _ _ _ _ c.header_at.ensures c.in_ok-h.was in (record { stands = s; kind = middle_kind _ c.if-h-lt1.false c.if-h-ne2.false }, c.if-h-content.false, c.if-most-h.false, omega (arith, s.six, c.if-tp-at-2.false), intact_of _ _ _ _ c.header_at.ensures c.in_ok-h.was)
