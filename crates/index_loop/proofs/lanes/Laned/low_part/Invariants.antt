-- `index_loop::lanes::Laned::low_part` meets its contract: it goes on within the TP, by calls.
-- Assumes nothing.
use Prim.Native.Nat.{◌≤◌}
use mathlib.Core.Path.{◌≡◌}
use lib.ListN.{length}
use Rattle.index_loop.proofs.Leading.{RanLow}
use Rattle.index_loop.proofs.lanes.Laned.low_part.Given as goal

abbrev pub invariant-loop : goal.invariant-loop
invariant-loop l = record {
  four : 4 ≤ l.place;
  end : l.place ≤ length l.self.tp.now;
  ran : RanLow l.self.covered l.self.stamp l.self.tp.now l.initial.out l.held l.place l.out l.at;
  out : length l.out ≡ length l.initial.out;
}
