-- `list_loop::lanes::low_part` meets its contract: it goes on within the TP, by calls, and ends, since each LLEP is seven bytes or more.
-- Assumes nothing.
use native.Mathlib.Omega.{arith}
use borrow.Author.Tests.{not-false}
use Rattle.list_loop.proofs.Parting.{brief_few, parts_by, parts_first, parts_steady, parts_then}
use Rattle.list_loop.proofs.lanes.low_part.Goals as goal

pub loop-within-init : goal.loop-within-init
loop-within-init c = let p = c.requires in (parts_first _ _ _ _ _ p.0 p.3, p.1)

pub llep_at-l-requires : goal.llep_at-l-requires
llep_at-l-requires c = c.loop-within.invariant.0.inside

pub overflow_cast-find : goal.overflow_cast-find
overflow_cast-find c = omega (arith, (brief_few c.llep_at-l.result c.args.tp.now c.loop-within.place (not-false _ c.if-not-l.false) c.llep_at-l.ensures).1)

pub overflow_add-find : goal.overflow_add-find
overflow_add-find c = omega (arith, (brief_few c.llep_at-l.result c.args.tp.now c.loop-within.place (not-false _ c.if-not-l.false) c.llep_at-l.ensures).0, c.requires.4)

pub line_in-held-requires : goal.line_in-held-requires
line_in-held-requires c = c.loop-within.invariant.0.ten

pub overflow_add-place : goal.overflow_add-place
overflow_add-place c = omega (arith, (brief_few c.llep_at-l.result c.args.tp.now c.loop-within.place (not-false _ c.if-not-l.false) c.llep_at-l.ensures).0, c.requires.4)

pub loop-within-smaller : goal.loop-within-smaller
loop-within-smaller c = omega (arith, (brief_few c.llep_at-l.result c.args.tp.now c.loop-within.place (not-false _ c.if-not-l.false) c.llep_at-l.ensures).0)

pub loop-within-preserved : goal.loop-within-preserved
loop-within-preserved c =
    let i = c.loop-within.invariant in
    let w = c.line_in-held.ensures in
    (parts_then _ _ _ _ _ _ _ _ _ i.0 c.llep_at-l.result _ _ _ c.loop-within-test.true (not-false _ c.if-not-l.false) c.llep_at-l.ensures i.1 c.requires.2 (omega arith) w.kept w.at_after, c.if-held-ge-FULL.false)

pub returns-after-loop-within : goal.returns-after-loop-within
returns-after-loop-within c = let i = c.loop-within.invariant.0 in record { part_steady = parts_steady _ _ _ _ _ _ _ _ _ i; parted_by = parts_by _ _ _ _ _ _ _ _ _ i }

pub returns-then-not-l : goal.returns-then-not-l
returns-then-not-l c = let i = c.loop-within.invariant.0 in record { part_steady = parts_steady _ _ _ _ _ _ _ _ _ i; parted_by = parts_by _ _ _ _ _ _ _ _ _ i }

pub returns-then-held-ge-FULL : goal.returns-then-held-ge-FULL
returns-then-held-ge-FULL c =
    let i = c.loop-within.invariant in
    let w = c.line_in-held.ensures in
    let h = parts_then _ _ _ _ _ _ _ _ _ i.0 c.llep_at-l.result _ _ _ c.loop-within-test.true (not-false _ c.if-not-l.false) c.llep_at-l.ensures i.1 c.requires.2 (omega arith) w.kept w.at_after in
    record { part_steady = parts_steady _ _ _ _ _ _ _ _ _ h; parted_by = parts_by _ _ _ _ _ _ _ _ _ h }

pub overflow_add-place-in-loop-within : goal.overflow_add-place-in-loop-within
overflow_add-place-in-loop-within c = omega (arith, (brief_few c.llep_at-l.result c.args.tp.now c.loop-within.place (not-false _ c.if-not-l.false) c.llep_at-l.ensures).0, c.requires.4)
