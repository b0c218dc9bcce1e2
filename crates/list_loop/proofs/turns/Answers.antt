-- `list_loop::turns` holds the lines of the records taken, and ends: each record that is turned moves on in the input block or fills the output
-- block, and the TPs taken in tracks before it give nothing back.
-- Assumes nothing.
use mathlib.Core.Path.{ap, sym, ◌∙◌}
use Rattle.std.specs.Prelude.{Ok}
use native.Mathlib.Omega.{arith}
use Rattle.console.proofs.Onward.{data_within}
use Rattle.list_loop.proofs.Lists.{ahead_on, listed_more, listed_none, listed_on, listed_then}
use Rattle.list_loop.proofs.turns.Goals as goal

pub loop-run-init : goal.loop-run-init
loop-run-init c =
    let p = c.requires in
    record { ahead = record { able = p.able; placed = p.placed; ten = p.ten; from = omega arith; end = p.from; count = omega arith }; listed = listed_none _ _ _ _ _ }

pub pass_all-run-requires : goal.pass_all-run-requires
pass_all-run-requires c =
    let p = c.requires in
    let i = c.loop-run.invariant.ahead in
    record { able = i.able; placed = i.placed; ten = i.ten; room = omega arith; from = i.end; end = p.end; size = p.size; count = omega (arith, p.count, i.count) }

pub slice_bounds-unread-count : goal.slice_bounds-unread-count
slice_bounds-unread-count c = omega (arith, c.pass_all-run.ensures.ahead.end)

pub slice_bounds-unread-start : goal.slice_bounds-unread-start
slice_bounds-unread-start c = omega (arith, c.pass_all-run.ensures.ahead.end, c.requires.end)

pub slice_bounds-unread-end : goal.slice_bounds-unread-end
slice_bounds-unread-end c = omega (arith, c.pass_all-run.ensures.ahead.end, c.requires.end)

pub returns-in_default : goal.returns-in_default
returns-in_default c =
    let i = c.loop-run.invariant in
    let r = c.pass_all-run.ensures in
    record { ahead = ahead_on i.ahead r.ahead; listed = listed_on _ _ _ _ _ _ _ _ i.listed _ _ _ r.listed }

pub returns-in_default-2-clause-listed : goal.returns-in_default-2-clause-listed
returns-in_default-2-clause-listed c = listed_on _ _ _ _ _ _ _ _ c.loop-run.invariant.listed _ _ _ c.pass_all-run.ensures.listed

pub returns-then-run-ge-FULL : goal.returns-then-run-ge-FULL
returns-then-run-ge-FULL c =
    let i = c.loop-run.invariant in
    let r = c.pass_all-run.ensures in
    record { ahead = ahead_on i.ahead r.ahead; listed = listed_on _ _ _ _ _ _ _ _ i.listed _ _ _ r.listed }

pub turn-run-requires : goal.turn-run-requires
turn-run-requires c =
    let p = c.requires in
    let i = c.loop-run.invariant in
    let q = c.pass_all-run in
    let r = c.pass_all-run.ensures.ahead in
    let w = data_within _ c.args.block.now _ q.result.from c.args.till _ r.end (sym c.read_record.ensures ∙ c.in-Ok-Some.is ∙ ap Ok c.in-Ok-Some.field-0-is) c.data_of.ensures in
    record {
      able = r.able;
      placed = r.placed;
      ten = r.ten;
      room = omega arith;
      held = omega (arith, c.if-run-ge-FULL.false);
      count = omega (arith, p.count, p.end, p.size, i.ahead.count, r.count, r.end);
      end = omega (arith, w, p.end, p.size);
    }

pub loop-run-smaller : goal.loop-run-smaller
loop-run-smaller c =
    let q = c.pass_all-run in
    let r = c.pass_all-run.ensures.ahead in
    let o = c.turn-run.ensures.onward in
    let w = data_within _ c.args.block.now _ q.result.from c.args.till _ r.end (sym c.read_record.ensures ∙ c.in-Ok-Some.is ∙ ap Ok c.in-Ok-Some.field-0-is) c.data_of.ensures in
    let more = listed_more _ _ _ _ _ _ _ _ q.ensures.listed (omega arith) in
    omega (arith, w, r.from, more, o.from, o.end, o.held, o.progress, c.loop-run-test.true, c.if-run-ge-FULL.false)

pub loop-run-preserved : goal.loop-run-preserved
loop-run-preserved c =
    let i = c.loop-run.invariant in
    let q = c.pass_all-run in
    let r = ahead_on i.ahead q.ensures.ahead in
    let o = c.turn-run.ensures in
    let whole = sym c.read_record.ensures ∙ c.in-Ok-Some.is ∙ ap Ok c.in-Ok-Some.field-0-is in
    let tp = c.data_of.ensures in
    let w = data_within _ c.args.block.now _ q.result.from c.args.till _ r.end whole tp in
    let l = listed_on _ _ _ _ _ _ _ _ i.listed _ _ _ q.ensures.listed in
    record {
      ahead = record { able = o.onward.able; placed = o.onward.placed; ten = o.onward.ten; from = omega (arith, r.from, o.onward.from); end = omega (arith, w, o.onward.end); count = omega (arith, r.count, o.onward.count) };
      listed = listed_then _ _ _ _ _ _ _ _ l _ _ _ _ _ whole tp o.does;
    }

pub returns : goal.returns
returns c = c.loop-run.invariant
