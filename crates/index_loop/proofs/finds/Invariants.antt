-- `index_loop::finds` meets its contract: what is put are its calls' finds.
-- Assumes nothing.
use mathlib.Core.Path.{◌≡◌}
use lib.ListN.{length}
use Rattle.receiver.specs.State.{Able}
use Rattle.index_loop.specs.Walking.{Hears, block_of}
use Rattle.index_loop.proofs.finds.Given as goal

abbrev pub invariant-loop : goal.invariant-loop
invariant-loop l = record {
  able : Able l.run.receiver;
  number : l.run.record ≡ l.initial.run.record;
  from : l.run.from ≡ l.initial.run.from;
  room : length l.room ≡ length l.initial.room;
  out : length l.out ≡ length l.initial.out;
  hears : Hears l.task l.stamp l.tp l.initial.run.receiver l.initial.room (block_of l.initial.out l.initial.run.at) l.run.receiver l.room (block_of l.out l.run.at);
}
