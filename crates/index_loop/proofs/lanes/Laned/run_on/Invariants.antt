-- `index_loop::lanes::Laned::run_on` meets its contract: it goes on within the TP, by calls.
-- Assumes nothing.
use mathlib.Core.Path.{◌≡◌}
use lib.ListN.{length}
use Rattle.index_loop.proofs.Leading.{Ran}
use Rattle.index_loop.proofs.Passing.{Lent}
use Rattle.index_loop.proofs.lanes.Laned.run_on.Given as goal

abbrev pub invariant-loop : goal.invariant-loop
invariant-loop l = record {
  lent : Lent l.begin l.self.tp.now l.initial.room l.place l.room;
  ran : Ran l.self.covered l.self.stamp l.begin l.self.tp.now l.initial.room l.initial.out l.held l.place l.room l.out l.at;
  room : length l.room ≡ length l.initial.room;
  out : length l.out ≡ length l.initial.out;
}
