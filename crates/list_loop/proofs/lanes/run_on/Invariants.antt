-- `list_loop::lanes::run_on` goes on within the TP, by calls, and ends, since each EP is six bytes or more. Assumes nothing.
use Prim.Native.Nat.{◌-◌}
use lib.ListN.{length}
use Rattle.list_loop.proofs.Leading.{Head}
use Rattle.list_loop.proofs.lanes.run_on.Given as goal

abbrev pub invariant-loop-due : goal.invariant-loop-due
invariant-loop-due l = Head l.stamp l.number l.tp l.initial.due l.initial.place l.initial.content l.initial.len l.initial.room l.initial.out l.initial.held.at l.due l.place l.content l.len l.room l.out l.held.at l.held.ten

abbrev pub decreases-loop-due : goal.decreases-loop-due
decreases-loop-due l = length l.tp - l.place
