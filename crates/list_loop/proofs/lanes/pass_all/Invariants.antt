-- `list_loop::lanes::pass_all`: the receiver is its track's from TP to TP, the lines held are those of the TPs taken, and the loop ends: each TP
-- done moves on in the input block. Assumes nothing.
use Prim.Native.Nat.{◌-◌}
use Rattle.list_loop.proofs.Along.{Along}
use Rattle.list_loop.proofs.lanes.pass_all.Given as goal

abbrev pub invariant-loop-held : goal.invariant-loop-held
invariant-loop-held l =
    Along l.till l.block (record { receiver = l.base; done = l.initial.done; ten = l.initial.held.ten; at = l.initial.held.at; from = l.initial.from }) l.initial.room l.initial.out l.count l.t l.done l.held.ten l.held.at l.from l.room l.out

abbrev pub decreases-loop-held : goal.decreases-loop-held
decreases-loop-held l = l.till - l.from
