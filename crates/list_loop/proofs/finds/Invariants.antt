-- `list_loop::finds` is safe and ends: a find that goes on puts a line, so the block fills. The invariant: the receiver can be called and
-- keeps its own, the ten is kept, no less is held than before, and what is held are the lines of the calls so far.
-- Assumes nothing.
use Prim.Native.Nat.{◌-◌, ◌≤◌}
use Rattle.receiver.specs.State.{Able}
use Rattle.receiver.specs.Tracks.{Placed}
use Rattle.listing.specs.Tens.{Kept}
use Rattle.list_loop.proofs.Lists.{Heard}
use Rattle.list_loop.proofs.finds.Given as goal

abbrev pub invariant-loop-at : goal.invariant-loop-at
invariant-loop-at l = record {
  able : Able l.receiver;
  ten : Kept l.ten;
  placed : Placed l.receiver;
  more : l.first.at ≤ l.at;
  heard : Heard l.tp l.first l.initial.room l.initial.out l.receiver l.at l.room l.out;
}

abbrev pub decreases-loop-at : goal.decreases-loop-at
decreases-loop-at l = 61440 - l.at
