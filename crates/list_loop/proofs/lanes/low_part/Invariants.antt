-- `list_loop::lanes::low_part` goes on within the TP, by calls, and ends, since each LLEP is seven bytes or more. Assumes nothing.
use Prim.Native.Nat.{◌-◌, ◌<◌}
use lib.ListN.{length}
use Rattle.list_loop.proofs.Parting.{Parts}
use Rattle.list_loop.proofs.lanes.low_part.Given as goal

abbrev pub invariant-loop-within : goal.invariant-loop-within
invariant-loop-within l = Parts l.number l.tp l.initial.out l.initial.held.at l.within l.place l.out l.held.at l.held.ten × (l.held.at < 61440)

abbrev pub decreases-loop-within : goal.decreases-loop-within
decreases-loop-within l = length l.tp - l.place
