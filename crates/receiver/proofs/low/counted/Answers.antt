-- `receiver::low::counted` meets its contract: the sum is small.
-- Assumes nothing.
use Prim.Native.Nat.{ℕ, ◌-◌, ◌≤◌, min}
use native.Mathlib.Omega.{arith}
use lib.Count.{ones_in}
use Rattle.golay.specs.Answers.{end_flips}
use Rattle.receiver.proofs.low.counted.Goals as goal

few : (b : ℕ) → end_flips b ≤ 4
unfolding end_flips
few b = least (ones_in 8 b)
  where
    least : (n : ℕ) → min n (8 - n) ≤ 4
    least n = omega arith

pub overflow_add-result : goal.overflow_add-result
overflow_add-result c = let e = c.end_flips.ensures in omega (arith, few c.args.b)

pub returns : goal.returns
returns c = rw c.end_flips.ensures
