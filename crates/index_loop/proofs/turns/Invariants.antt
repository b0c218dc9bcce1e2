-- `index_loop::turns` meets its contract: what lanes take and what turns take follow each other.
-- Assumes nothing.
use mathlib.Core.Path.{◌≡◌}
use lib.ListN.{length}
use Rattle.index_loop.specs.Walking.{Ahead, Taken}
use Rattle.index_loop.proofs.turns.Given as goal

abbrev pub invariant-loop : goal.invariant-loop
invariant-loop l = record {
  ahead : Ahead l.initial.run l.till l.run;
  taken : Taken l.task l.gone l.till l.block l.initial.run l.initial.room l.initial.out l.run l.room l.out;
  room : length l.room ≡ length l.initial.room;
  out : length l.out ≡ length l.initial.out;
}
