-- `receiver::walk::gather` meets its contract: the invariant: the bytes read, then those left, make the same number.
-- Assumes nothing.
use mathlib.Core.Path.{◌≡◌}
use Prim.Native.Nat.{◌+◌, ◌<◌, ◌^◌, ◌≤◌}
use lib.ListN.{drop, take}
use Rattle.digits.specs.Digits.{number}
use Rattle.receiver.proofs.walk.gather.Given as goal

abbrev pub invariant-loop-i : goal.invariant-loop-i
invariant-loop-i l = (l.i ≤ l.n) × (l.w < 256 ^ (l.have + l.i)) × (number l.w (drop l.i (take l.n (drop l.at l.tp))) ≡ number l.word (take l.n (drop l.at l.tp)))
