-- `list_loop::finds` is safe and ends: a find that goes on puts a line, so the block fills. The invariant: the receiver can be called and
-- keeps its own, the ten is kept, no less is held than before, and what is held are the lines of the calls so far.
-- Assumes nothing.
use Prim.Native.Nat.{◌+◌, ◌≤◌}
use mathlib.Core.Path.{refl, sym, ◌∙◌}
use native.Mathlib.Omega.{arith}
use lib.ListN.{length}
use Rattle.receiver.proofs.Owning.{placed_next}
use Rattle.listing.proofs.Laws.{no_less, grows, line_held}
use Rattle.list_loop.proofs.Lists.{heard_none, heard_then, found_done, found_on}
use Rattle.list_loop.proofs.finds.Goals as goal

pub loop-at-init : goal.loop-at-init
loop-at-init c = let p = c.requires in record { able = p.able; ten = p.ten; placed = p.placed; more = omega arith; heard = heard_none _ _ _ _ }

pub step-listed-requires : goal.step-listed-requires
step-listed-requires c = let i = c.loop-at.invariant in record { able = i.able; kept = i.ten }

pub returns-then-not-lasts : goal.returns-then-not-lasts
returns-then-not-lasts c =
    let l = c.loop-at in
    let q = c.step-listed in
    let more = no_less (c.args.first.done + 1) q.result.step.find l.out _ l.at q.result.at (omega arith) q.ensures.at_after in
    let line = line_held (c.args.first.done + 1) q.result.step.find l.out _ l.at q.result.at (omega arith) q.ensures.at_after in record {
      onward = record {
        able = q.ensures.gives.able;
        placed = placed_next l.room l.invariant.able l.invariant.placed q.ensures.gives;
        ten = q.ensures.kept_2;
        held = omega arith;
        from = omega arith;
        end = omega arith;
        count = omega arith;
        progress = omega arith;
      };
      found = found_done _ _ _ _ _ _ _ _ l.invariant.heard _ _ _ _ q.ensures.gives line _ (sym c.lasts.ensures ∙ c.if-not-lasts.true) refl refl refl refl;
    }

pub loop-at-smaller : goal.loop-at-smaller
loop-at-smaller c =
    let l = c.loop-at in
    let q = c.step-listed in
    let room : l.at + 80 ≤ length l.out = omega arith in
    omega (arith, c.loop-at-test.true, grows (c.args.first.done + 1) q.result.step.find l.out _ l.at q.result.at room q.ensures.at_after (sym c.lasts.ensures ∙ c.if-not-lasts.false))

pub loop-at-preserved : goal.loop-at-preserved
loop-at-preserved c =
    let l = c.loop-at in
    let q = c.step-listed in
    let more = no_less (c.args.first.done + 1) q.result.step.find l.out _ l.at q.result.at (omega arith) q.ensures.at_after in
    let line = line_held (c.args.first.done + 1) q.result.step.find l.out _ l.at q.result.at (omega arith) q.ensures.at_after in
    let on = sym c.lasts.ensures ∙ c.if-not-lasts.false in
    record {
      able = q.ensures.gives.able;
      ten = q.ensures.kept_2;
      placed = placed_next l.room l.invariant.able l.invariant.placed q.ensures.gives;
      more = omega arith;
      heard = heard_then _ _ _ _ _ _ _ _ l.invariant.heard _ _ _ _ q.ensures.gives line on;
    }

pub returns : goal.returns
returns c =
    let l = c.loop-at in record {
      onward = record {
        able = l.invariant.able;
        placed = l.invariant.placed;
        ten = l.invariant.ten;
        held = l.invariant.more;
        from = omega arith;
        end = omega arith;
        count = omega arith;
        progress = omega (arith, c.requires.held, c.loop-at-test.false);
      };
      found = found_on _ _ _ _ _ _ _ _ l.invariant.heard _ refl refl refl refl;
    }
