-- `index_loop::lanes::pass_all` meets its contract: the lane stays tidy, and each TP is taken by its calls.
-- Assumes nothing.
use Prim.Native.Nat.{◌≤◌}
use mathlib.Core.Path.{◌≡◌}
use lib.ListN.{length}
use Rattle.receiver.specs.Lanes.{Tidy}
use Rattle.index_loop.specs.Walking.{block_of}
use Rattle.index_loop.proofs.Between.{Between}
use Rattle.index_loop.proofs.lanes.pass_all.Given as goal

abbrev pub invariant-loop : goal.invariant-loop
invariant-loop l = record {
  tidy : Tidy l.base.limit l.lane;
  from : l.initial.from ≤ l.from;
  end : l.from ≤ l.till;
  limit : length l.room ≡ l.base.limit;
  room : length l.room ≡ length l.initial.room;
  out : length l.out ≡ length l.initial.out;
  taken : Between l.covered l.gone l.till l.block (record { from = l.initial.from; number = l.initial.record; receiver = l.base; room = l.initial.room; out = block_of l.initial.out l.initial.at }) l.base l.count l.lane l.record l.at l.from l.room l.out;
}
