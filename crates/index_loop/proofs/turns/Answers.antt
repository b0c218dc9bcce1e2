-- `index_loop::turns` meets its contract: what lanes take and what turns take follow each other.
-- Assumes nothing.
use mathlib.Core.Path.{refl, ap, sym, ◌∙◌}
use native.Mathlib.Omega.{arith}
use Rattle.std.specs.Prelude.{Ok}
use Rattle.index_loop.specs.Walking.{stays}
use Rattle.index_loop.proofs.Hearing.{takes_on, taken_then}
use Rattle.console.proofs.Onward.{data_within}
use Rattle.index_loop.proofs.turns.Goals as goal

pub loop-init : goal.loop-init
loop-init c = let p = c.requires in record { ahead = record { able = p.able; from = omega arith; end = p.from }; taken = stays; room = refl; out = refl }

pub returns-in_default-clause-taken : goal.returns-in_default-clause-taken
returns-in_default-clause-taken c = takes_on _ _ _ _ c.loop.invariant.taken c.pass_all-run.ensures.taken

pub returns-in_default-2-clause-taken : goal.returns-in_default-2-clause-taken
returns-in_default-2-clause-taken c = takes_on _ _ _ _ c.loop.invariant.taken c.pass_all-run.ensures.taken

pub loop-preserved : goal.loop-preserved
loop-preserved c =
    let i = c.loop.invariant in
    let q = c.pass_all-run in
    let b = c.pass_all-run.ensures.ahead in
    let whole = sym c.read_record.ensures ∙ c.in-Ok-Some.is ∙ ap Ok c.in-Ok-Some.field-0-is in
    let d = c.data_of-data.ensures in
    let t = c.turn-run.ensures in
    record {
      ahead = record {
        able = t.onward.able;
        from = omega (arith, i.ahead.from, b.from, t.onward.from);
        end = omega (arith, data_within _ c.args.block.now _ q.result.from c.args.till _ b.end whole d, t.onward.end);
      };
      taken = taken_then _ _ _ _ _ _ _ _ _ _ (takes_on _ _ _ _ i.taken q.ensures.taken) _ _ _ _ _ whole d t.does;
      room = omega (arith, i.room);
      out = omega (arith, i.out);
    }
