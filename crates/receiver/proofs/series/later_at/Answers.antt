-- `receiver::series::later_at` meets its contract: what the header says.
-- Assumes nothing.
use mathlib.Core.Logic.{inl, inr}
use native.Mathlib.Omega.{arith}
use Rattle.receiver.proofs.Serially.{last_kind}
use Rattle.receiver.proofs.Standing.{intact_of, middle_kind, stands_of}
use Rattle.receiver.proofs.series.later_at.Goals as goal

pub overflow_sub-tp : goal.overflow_sub-tp
overflow_sub-tp c = let s = stands_of _ _ _ _ c.header_at.ensures c.in_ok-h.was in omega (arith, s.six)

pub returns-then-tp-at : goal.returns-then-tp-at
returns-then-tp-at c =
    let s = stands_of _ _ _ _ c.header_at.ensures c.in_ok-h.was in
    (s, c.if-h-content.false, c.if-most-h.false, intact_of _ _ _ _ c.header_at.ensures c.in_ok-h.was, inr (middle_kind _ (omega (arith, c.if-h-content.false, c.requires.1)) c.if-h-eq2.true, c.if-tp-at.true))

pub returns : goal.returns
returns c =
    let s = stands_of _ _ _ _ c.header_at.ensures c.in_ok-h.was in
    (s, c.if-h-content.false, c.if-most-h.false, intact_of _ _ _ _ c.header_at.ensures c.in_ok-h.was, inl (last_kind _ (omega (arith, c.if-h-content.false, c.requires.1)) (omega (arith, c.if-h-lt2.false, c.if-h-eq2.false))))
