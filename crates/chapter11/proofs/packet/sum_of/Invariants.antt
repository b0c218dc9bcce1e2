-- `chapter11::packet::sum_of` meets its contract: after i words the sum is that of the first i.
-- Assumes nothing.
use Rattle.std.proofs.Common.{◌≡◌, ◌-◌, ◌≤◌}
use Rattle.chapter11.specs.Packet.{sum_of}
use Rattle.chapter11.proofs.packet.sum_of.Given as goal

abbrev pub invariant-loop-i : goal.invariant-loop-i
invariant-loop-i l = (l.i ≤ 11) × (l.sum ≡ sum_of l.i l.header)

abbrev pub decreases-loop-i : goal.decreases-loop-i
decreases-loop-i l = 11 - l.i
