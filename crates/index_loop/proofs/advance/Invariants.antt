-- `index_loop::advance` meets its contract: each block's records are taken, and reading goes on.
-- Assumes nothing.
use mathlib.Core.Path.{◌≡◌}
use lib.ListN.{length}
use Rattle.index_loop.specs.Advancing.{Advances, reached}
use Rattle.index_loop.specs.Walking.{Walked}
use Rattle.index_loop.proofs.advance.Given as goal

abbrev pub invariant-loop : goal.invariant-loop
invariant-loop l = record {
  walked : Walked (length l.block) l.walk;
  block : length l.block ≡ length l.initial.block;
  room : length l.room ≡ length l.initial.room;
  out : length l.out ≡ length l.initial.out;
  taken : Advances l.task (reached l.initial.walk l.initial.block l.initial.room l.initial.out) (reached l.walk l.block l.room l.out);
}
