-- `c7index::grow::onward` is safe.
-- Assumes nothing.
use mathlib.Core.Path.{◌≡◌}
use lib.ListN.{length}
use Rattle.index_loop.specs.Walking.{Walked}
use Rattle.c7index.proofs.grow.onward.Given as goal

abbrev pub invariant-loop : goal.invariant-loop
invariant-loop l = record {
  walked : Walked (length l.block) l.walk;
  block : length l.block ≡ length l.initial.block;
  room : length l.room ≡ length l.initial.room;
  out : length l.out ≡ length l.initial.out;
}
