-- `part::low_part` meets its contract, by the invariant `Walk`. The measure is what is left of the TP. Assumes nothing.
use Prim.Native.Nat.{◌+◌, ◌-◌}
use Rattle.sender.proofs.Lows.{Walk}
use Rattle.sender.proofs.part.low_part.Given as goal

abbrev pub invariant-loop-n : goal.invariant-loop-n
invariant-loop-n l = Walk l.payload l.buf l.initial.t l.initial.tp l.tp l.t l.at

abbrev pub decreases-loop-n : goal.decreases-loop-n
decreases-loop-n l = l.payload + 4 - l.at
