-- `list_loop::lanes::pass_all` meets its contract: the receiver is its track's from TP to TP, the lines held are those of the TPs taken, and the
-- loop ends: each TP done moves on in the input block.
-- Assumes nothing.
use Prim.Native.Nat.{ℕ}
use mathlib.Core.Path.{refl, ap, sym, subst⁻¹, ◌∙◌}
use native.Mathlib.Omega.{arith}
use Rattle.console.proofs.Onward.{data_within}
use Rattle.list_loop.proofs.Along.{Along, along_ahead, along_all, along_done, along_first, along_kempt, along_listed, along_same, pause_ahead, pause_listed}
use Rattle.list_loop.proofs.Lists.{listed_none}
use Rattle.receiver.specs.Tracks.{Kempt}
use Rattle.list_loop.proofs.lanes.pass_all.Goals as goal
use Rattle.list_loop.proofs.lanes.pass_all.Goals.{Left-loop-held, else-loop-held-test, then-loop-held-test+in_default, then-loop-held-test+in_default-2, then-loop-held-test+in-Ok-Some+in_default-said, then-loop-held-test+in-Ok-Some+in-Packet+in-All}

-- behind the loop, however it was left
along-out : (c : Left-loop-held)
    → (let a = c.args in let o = c.loop-held-test in Along a.till a.block.now a.first a.room.now a.out.now c.loop-held.count o.t c.loop-held.done o.held.ten o.held.at c.loop-held.from o.room o.out)
along-out c =
    let l = c.loop-held in
    elim c.loop-held-test.branch [
      | else-loop-held-test w ↦ along_same _ _ _ _ _ _ _ _ _ _ _ _ _ l.invariant _ _ _ _ _ w.room-is w.out-is w.t-is (ap (λ x. x.ten) w.held-is) (ap (λ x. x.at) w.held-is)
      | then-loop-held-test+in_default w ↦ along_same _ _ _ _ _ _ _ _ _ _ _ _ _ l.invariant _ _ _ _ _ w.room-is w.out-is w.t-is (ap (λ x. x.ten) w.held-is) (ap (λ x. x.at) w.held-is)
      | then-loop-held-test+in_default-2 w ↦ along_same _ _ _ _ _ _ _ _ _ _ _ _ _ l.invariant _ _ _ _ _ w.room-is w.out-is w.t-is (ap (λ x. x.ten) w.held-is) (ap (λ x. x.at) w.held-is)
      | then-loop-held-test+in-Ok-Some+in_default-said w ↦ along_same _ _ _ _ _ _ _ _ _ _ _ _ _ l.invariant _ _ _ _ _ w.room-is w.out-is w.t-is (ap (λ x. x.ten) w.held-is) (ap (λ x. x.at) w.held-is)
      | then-loop-held-test+in-Ok-Some+in-Packet+in-All w ↦
          let q = w.pass-p in
          along_same _ _ _ _ _ _ _ _ _ _ _ _ _
          (along_all _ _ _ _ _ l.count l.t _ _ _ _ _ _ l.invariant q.result _ _ _ _ _ q.ensures.steady q.ensures.passes_by refl w.counted-counted.ensures w.in-All.is)
          _ _ _ _ _ w.room-is w.out-is w.t-is (ap (λ x. x.ten) w.held-is) (ap (λ x. x.at) w.held-is)
    ]

pub of-t-requires : goal.of-t-requires
of-t-requires c = let p = c.requires in (p.able, p.placed)

pub returns-then-t-eq-NONE : goal.returns-then-t-eq-NONE
returns-then-t-eq-NONE c = let p = c.requires in record { ahead = record { able = p.able; placed = p.placed; ten = p.ten; from = omega arith; end = p.from; count = omega arith }; listed = listed_none _ _ _ _ _ }

pub returns-then-room-room_of : goal.returns-then-room-room_of
returns-then-room-room_of c = let p = c.requires in record { ahead = record { able = p.able; placed = p.placed; ten = p.ten; from = omega arith; end = p.from; count = omega arith }; listed = listed_none _ _ _ _ _ }

pub loop-held-init : goal.loop-held-init
loop-held-init c =
    along_first _ _ c.args.first _ _ _ c.of-t.result c.of-t.ensures c.if-t-eq-NONE.false c.count_of-count.ensures c.requires.ten c.requires.from
    (omega (arith, c.room_of.ensures, c.if-room-room_of.false))

pub slice_bounds-unread-count : goal.slice_bounds-unread-count
slice_bounds-unread-count c = omega (arith, c.loop-held.invariant.end)

pub slice_bounds-unread-start : goal.slice_bounds-unread-start
slice_bounds-unread-start c = omega (arith, c.loop-held.invariant.end, c.requires.end)

pub slice_bounds-unread-end : goal.slice_bounds-unread-end
slice_bounds-unread-end c = omega (arith, c.loop-held.invariant.end, c.requires.end)

pub overflow_add-done : goal.overflow_add-done
overflow_add-done c = let i = c.loop-held.invariant in let p = c.requires in omega (arith, i.count, i.end, p.count, p.end, p.size)

pub pass-p-requires : goal.pass-p-requires
pass-p-requires c =
    let p = c.requires in
    let l = c.loop-held in
    let i = c.loop-held.invariant in
    let w = data_within _ c.args.block.now _ l.from c.args.till _ i.end (sym c.read_record.ensures ∙ (rw c.in-Ok-Some.field-0-is at c.in-Ok-Some.is)) c.data_of-tp.ensures in
    (p.able, i.kept, c.loop-held-test.true, omega (arith, p.room, i.long), i.sort, subst⁻¹ (λ (n : ℕ). Kempt n l.t) i.full i.kempt, i.full, omega (arith, w, p.end, p.size))

pub back-requires : goal.back-requires
back-requires c =
    let l = c.loop-held in
    let q = c.pass-p in
    along_kempt _ _ _ _ _ l.count l.t _ _ _ _ _ _ l.invariant q.result _ _ _ _ _ q.ensures.steady q.ensures.passes_by refl c.counted-counted.ensures

pub returns-in-From : goal.returns-in-From
returns-in-From c =
    let l = c.loop-held in
    let q = c.pass-p in
    let k = c.counted-counted in
    let whole = sym c.read_record.ensures ∙ (rw c.in-Ok-Some.field-0-is at c.in-Ok-Some.is) in
    let is = c.in-Packet.is in
    let tp = c.data_of-tp.ensures in
    let b = c.back.ensures in
    record {
      ahead = pause_ahead _ _ _ _ _ l.count l.t _ _ _ _ _ _ l.invariant q.result _ _ _ _ _ q.ensures.steady q.ensures.passes_by refl k.ensures _ _ whole is tp _ _ c.in-From.is _ b;
      listed = pause_listed _ _ _ _ _ l.count l.t _ _ _ _ _ _ l.invariant q.result _ _ _ _ _ q.ensures.steady q.ensures.passes_by refl k.ensures _ _ whole is tp _ _ c.in-From.is _ b;
    }

pub overflow_add-done-in-loop-held : goal.overflow_add-done-in-loop-held
overflow_add-done-in-loop-held c = let i = c.loop-held.invariant in let p = c.requires in omega (arith, i.count, i.end, p.count, p.end, p.size)

pub overflow_add-from : goal.overflow_add-from
overflow_add-from c =
    let l = c.loop-held in
    let w = data_within _ c.args.block.now _ l.from c.args.till _ l.invariant.end (sym c.read_record.ensures ∙ (rw c.in-Ok-Some.field-0-is at c.in-Ok-Some.is)) c.data_of-tp.ensures in
    omega (arith, w, c.requires.end, c.requires.size)

pub overflow_add-from-in-loop-held : goal.overflow_add-from-in-loop-held
overflow_add-from-in-loop-held c =
    let l = c.loop-held in
    let w = data_within _ c.args.block.now _ l.from c.args.till _ l.invariant.end (sym c.read_record.ensures ∙ (rw c.in-Ok-Some.field-0-is at c.in-Ok-Some.is)) c.data_of-tp.ensures in
    omega (arith, w, c.requires.end, c.requires.size)

pub loop-held-smaller : goal.loop-held-smaller
loop-held-smaller c =
    let l = c.loop-held in
    let w = data_within _ c.args.block.now _ l.from c.args.till _ l.invariant.end (sym c.read_record.ensures ∙ (rw c.in-Ok-Some.field-0-is at c.in-Ok-Some.is)) c.data_of-tp.ensures in
    omega (arith, w)

pub loop-held-preserved : goal.loop-held-preserved
loop-held-preserved c =
    let l = c.loop-held in
    let q = c.pass-p in
    let whole = sym c.read_record.ensures ∙ (rw c.in-Ok-Some.field-0-is at c.in-Ok-Some.is) in
    let is = c.in-Packet.is in
    let tp = c.data_of-tp.ensures in
    let w = data_within _ c.args.block.now _ l.from c.args.till _ l.invariant.end whole tp in
    along_done _ _ _ _ _ l.count l.t _ _ _ _ _ _ l.invariant q.result _ _ _ _ _ q.ensures.steady q.ensures.passes_by refl c.counted-counted.ensures _ _ whole is tp c.in-Done.is w (omega arith) (omega arith)

pub back-requires-2 : goal.back-requires-2
back-requires-2 c = (along-out (goal.at.back-requires-2 c).Left-loop-held).kempt

pub returns : goal.returns
returns c =
    let a = along-out (goal.at.returns c).Left-loop-held in
    record { ahead = along_ahead _ _ _ _ _ _ _ _ _ _ _ _ _ a c.requires.able _ c.back-2.ensures; listed = along_listed _ _ _ _ _ _ _ _ _ _ _ _ _ a c.requires.able _ c.back-2.ensures }
