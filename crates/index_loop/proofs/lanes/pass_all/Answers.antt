-- `index_loop::lanes::pass_all` meets its contract: the lane stays tidy, and each TP is taken by its calls.
-- Assumes nothing.
use Prim.Native.Nat.{◌≤◌}
use mathlib.Core.Path.{◌≡◌, refl, ap, sym, subst, ◌∙◌}
use native.Mathlib.Omega.{arith}
use Rattle.std.specs.Prelude.{Ok}
use Rattle.console.proofs.Onward.{data_within}
use Rattle.receiver.specs.declared.lane.Lane.TheVariants as L
use Rattle.index_loop.specs.Lanes.{LeftFits}
use Rattle.index_loop.specs.Walking.{stays}
use Rattle.index_loop.proofs.Between.{between_first, between_run, between_all, between_on, between_pause, for_index}
use Rattle.index_loop.proofs.Passing.{laned}
use Rattle.index_loop.proofs.lanes.pass_all.Goals as goal

pub returns-in_default-clause-taken : goal.returns-in_default-clause-taken
returns-in_default-clause-taken c = stays

pub returns-then-room-room_of-clause-taken : goal.returns-then-room-room_of-clause-taken
returns-then-room-room_of-clause-taken c = stays

pub returns-in-Other-clause-taken : goal.returns-in-Other-clause-taken
returns-in-Other-clause-taken c = stays

pub loop-init : goal.loop-init
loop-init c =
    let b = c.args.first.receiver in
    let p = c.requires in
    let q = c.lane_of-lane in
    let other : (q.result ≡ L.Other → 1 ≤ 0) = λ e. absurd (c.in_default-lane.not-Other e) in
    record {
      tidy = laned q.result b q.ensures other;
      from = omega arith;
      end = p.from;
      limit = omega (arith, c.room_of.ensures, c.if-room-room_of.false);
      room = refl;
      out = refl;
      taken = between_first _ _ _ _ b _ q.result _ _ _ _ _ q.ensures other c.count_of-count.ensures;
    }

pub returns-in-All-clause-taken : goal.returns-in-All-clause-taken
returns-in-All-clause-taken c =
    let b = c.args.first.receiver in
    let l = c.loop in
    let i = c.loop.invariant in
    let whole = sym c.read_record.ensures ∙ c.in-Ok-Some.is ∙ ap Ok c.in-Ok-Some.field-0-is in
    let q = c.pass-passed in
    let all = between_all _ _ _ _ _ b l.count l.lane _ _ _ _ _ i.taken _ _ _ _ q.result _ _ whole c.in-Packet.is c.data_of-tp.ensures c.sum.ensures q.ensures.passed_by c.in-All.is in
    for_index _ _ _ _ _ _ _ c.in-Index.is (between_run _ _ _ _ _ b l.count l.lane _ _ _ _ _ all _ c.before-in-All.ensures)

pub run_of-requires-clause-able : goal.run_of-requires-clause-able
run_of-requires-clause-able c = (subst (LeftFits c.args.first.receiver) c.in-From.is c.pass-passed.ensures.left_fits).1 _

pub returns-in-From-clause-taken : goal.returns-in-From-clause-taken
returns-in-From-clause-taken c =
    let b = c.args.first.receiver in
    let l = c.loop in
    let i = c.loop.invariant in
    let whole = sym c.read_record.ensures ∙ c.in-Ok-Some.is ∙ ap Ok c.in-Ok-Some.field-0-is in
    let q = c.pass-passed in
    for_index _ _ _ _ _ _ _ c.in-Index.is
    (between_pause _ _ _ _ _ b l.count l.lane _ _ _ _ _ i.taken _ _ _ _ q.result _ _ whole c.in-Packet.is c.data_of-tp.ensures c.sum.ensures q.ensures.passed_by _ _ _ _ _ c.in-From.is c.counted-counted.ensures c.run_of.ensures)

pub loop-preserved : goal.loop-preserved
loop-preserved c =
    let b = c.args.first.receiver in
    let l = c.loop in
    let i = c.loop.invariant in
    let whole = sym c.read_record.ensures ∙ c.in-Ok-Some.is ∙ ap Ok c.in-Ok-Some.field-0-is in
    let tp = c.data_of-tp.ensures in
    let q = c.pass-passed in
    record {
      tidy = subst (LeftFits b) c.in-Nothing.is q.ensures.left_fits;
      from = omega (arith, i.from);
      end = omega (arith, data_within _ c.args.block.now _ l.from c.args.till _ i.end whole tp);
      limit = omega (arith, i.limit);
      room = omega (arith, i.room);
      out = omega (arith, i.out);
      taken = between_on _ _ _ _ _ b l.count l.lane _ _ _ _ _ i.taken _ _ _ _ q.result _ _ whole c.in-Packet.is tp c.sum.ensures q.ensures.passed_by _ _ _ _ c.in-Nothing.is c.counted-count.ensures c.sum-record.ensures refl;
    }
