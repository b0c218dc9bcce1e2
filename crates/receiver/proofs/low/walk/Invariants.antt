-- `receiver::low::walk` meets its contract: the invariant: the walk from here says what the walk from the start says. The measure is what is left of the TP.
-- Assumes nothing.
use Prim.Native.Nat.{◌-◌, ◌≤◌}
use lib.ListN.{length}
use Rattle.receiver.proofs.Walking.{Goes}
use Rattle.receiver.proofs.low.walk.Given as goal

abbrev pub invariant-loop-lows : goal.invariant-loop-lows
invariant-loop-lows l = (l.at ≤ length l.tp) × Goes l.tp l.start l.at

abbrev pub decreases-loop-lows : goal.decreases-loop-lows
decreases-loop-lows l = length l.tp - l.at
