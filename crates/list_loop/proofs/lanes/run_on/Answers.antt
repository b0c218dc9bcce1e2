-- `list_loop::lanes::run_on` meets its contract: it goes on within the TP, by calls, and ends, since each EP is six bytes or more.
-- Assumes nothing.
use Prim.Native.Nat.{◌+◌, ◌-◌, ◌<◌}
use mathlib.Core.Path.{◌≡◌, refl, ap}
use native.Mathlib.Omega.{arith}
use lib.Dec.{eqb}
use lib.ListN.{length}
use borrow.Author.Tests.{eqb-true}
use Rattle.list_loop.proofs.Leading.{Behind, behind_as, head_first, line_behind, none_behind, plain_led, sight_asks, sight_head, sight_led, sight_sort, stays_led}
use Rattle.list_loop.proofs.lanes.run_on.Goals as goal
use Rattle.list_loop.proofs.lanes.run_on.Goals.{Joined-due, then-due+else-held-ge-FULL, else-due}

-- behind the line that was due, if one was
joined : (c : Joined-due)
    → (let a = c.args in Behind a.stamp a.number a.tp.now (eqb a.o.sort 3) a.o.place a.o.content a.o.len a.room.now a.out.now a.first.at c.loop-due.due c.loop-due.place c.loop-due.room c.if-due.out c.if-due.held.at c.if-due.held.ten) × (c.if-due.held.at < 61440)
joined c =
    let i = c.loop-due.invariant in
    elim c.if-due.branch [
      | then-due+else-held-ge-FULL w ↦
          let at = ap (λ x. x.at) w.held-is in
          let long : length w.line_in-held.new.out ≡ length c.loop-due.out = omega arith in
          let p = w.line_in-held.ensures in
          (behind_as _ _ _ _ _ _ _ _ _ _ _ _ _ _ _ _ _ _ _ w.out-is at (ap (λ x. x.ten) w.held-is) (line_behind _ _ _ _ _ _ _ _ _ _ _ _ _ _ _ _ _ _ i _ _ _ w.if-due.true c.requires.kept.2 long p.kept p.at_after), omega (arith, at))
      | else-due w ↦
          let at = ap (λ x. x.at) w.held-is in
          (behind_as _ _ _ _ _ _ _ _ _ _ _ _ _ _ _ _ _ _ _ w.out-is at (ap (λ x. x.ten) w.held-is) (none_behind _ _ _ _ _ _ _ _ _ _ _ _ _ _ _ _ _ _ i w.if-due.false), omega (arith, at))
    ]

pub loop-due-init : goal.loop-due-init
loop-due-init c =
    let a = c.args in
    let p = c.requires in
    head_first _ _ _ _ _ _ _ _ _ _ _ p.kept.0 p.kept.1 p.content_bound.1 (λ e. p.content_bound.0 (eqb-true a.o.sort 3 e))

pub overflow_cast-find : goal.overflow_cast-find
overflow_cast-find c = omega (arith, c.loop-due.invariant.one c.if-due.true)

pub line_in-held-requires : goal.line_in-held-requires
line_in-held-requires c = c.loop-due.invariant.ten

pub returns-then-held-ge-FULL : goal.returns-then-held-ge-FULL
returns-then-held-ge-FULL c =
    let h = line_behind _ _ _ _ _ _ _ _ _ _ _ _ _ _ _ _ _ _ c.loop-due.invariant _ _ _ c.if-due.true c.requires.kept.2 (omega arith) c.line_in-held.ensures.kept c.line_in-held.ensures.at_after in
    plain_led _ _ _ _ _ _ _ _ _ _ _ _ _ _ _ _ h c.args.o.track _ _ _ _ c.if-due.true c.turned.ensures c.requires.content_bound.3 refl

pub ahead-a-requires : goal.ahead-a-requires
ahead-a-requires c = c.loop-due.invariant.within

pub behind-requires : goal.behind-requires
behind-requires c =
    let a = c.ahead-a in
    let x = sight_asks a.result _ _ _ a.ensures (sight_sort a.result a.ensures.sort c.if-a-ne-WHOLE.true c.if-a-ne-OFF.true) in
    let p = c.requires in
    record { flips_bound = (p.content_bound.3, x.0, p.kept.3); fact = x.1 }

pub returns-then-a-ne-OFF : goal.returns-then-a-ne-OFF
returns-then-a-ne-OFF c =
    let a = c.ahead-a in
    sight_led _ _ _ _ _ _ _ _ _ _ _ _ _ _ _ _ (joined (goal.at.returns-then-a-ne-OFF c).Joined-due).0 a.result _ _ _ _ _ a.ensures (sight_sort a.result a.ensures.sort c.if-a-ne-WHOLE.true c.if-a-ne-OFF.true) c.behind.ensures refl

pub returns-then-due-2 : goal.returns-then-due-2
returns-then-due-2 c = plain_led _ _ _ _ _ _ _ _ _ _ _ _ _ _ _ _ (joined (goal.at.returns-then-due-2 c).Joined-due).0 c.args.o.track _ _ _ _ c.if-due-2.true c.turned-then-due-2.ensures c.requires.content_bound.3 refl

pub returns-then-a-ne-WHOLE : goal.returns-then-a-ne-WHOLE
returns-then-a-ne-WHOLE c = let p = c.requires in stays_led _ _ _ _ _ _ _ _ _ _ _ _ _ _ _ _ (joined (goal.at.returns-then-a-ne-WHOLE c).Joined-due).0 _ _ _ c.if-due-2.false (p.content_bound.2 ((joined (goal.at.returns-then-a-ne-WHOLE c).Joined-due).0.same c.if-due-2.false).0) refl

pub overflow_add-start : goal.overflow_add-start
overflow_add-start c = omega (arith, (c.ahead-a.ensures.whole c.if-a-ne-WHOLE.false).within, c.requires.kept.3)

pub overflow_add-place : goal.overflow_add-place
overflow_add-place c = omega (arith, (c.ahead-a.ensures.whole c.if-a-ne-WHOLE.false).within, c.requires.kept.3)

pub slice_bounds-copy_at-count : goal.slice_bounds-copy_at-count
slice_bounds-copy_at-count c = omega arith

pub slice_bounds-copy_at-start : goal.slice_bounds-copy_at-start
slice_bounds-copy_at-start c = omega arith

pub slice_bounds-copy_at-end : goal.slice_bounds-copy_at-end
slice_bounds-copy_at-end c = omega (arith, (c.ahead-a.ensures.whole c.if-a-ne-WHOLE.false).within)

pub loop-due-smaller : goal.loop-due-smaller
loop-due-smaller c = let w = c.ahead-a.ensures.whole c.if-a-ne-WHOLE.false in omega (arith, w.later, w.within)

pub loop-due-preserved : goal.loop-due-preserved
loop-due-preserved c =
    let a = c.ahead-a.result in
    let w = c.ahead-a.ensures.whole c.if-a-ne-WHOLE.false in
    let j = joined (goal.at.loop-due-preserved c).Joined-due in
    let size : (a.from + 6 + a.size) - (a.from + 6) ≡ a.size = omega arith in
    sight_head _ _ _ _ _ _ _ _ _ _ _ _ _ _ _ _ j.0 a (a.from + 6) ((a.from + 6 + a.size) - (a.from + 6)) _ j.1 w c.copy_at.ensures refl size (omega arith)
