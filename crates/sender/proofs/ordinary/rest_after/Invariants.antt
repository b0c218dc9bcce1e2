-- `ordinary::rest_after` meets its contract: from place `at` on the count is the same. The measure is what is left of n. Assumes nothing.
use mathlib.Core.Path.{◌≡◌}
use Prim.Native.Nat.{◌-◌, ◌≤◌}
use lib.ListN.{drop}
use Rattle.queue.specs.Ring.{held}
use Rattle.sender.specs.Drawing.{rest_after}
use Rattle.sender.proofs.ordinary.rest_after.Given as goal

abbrev pub invariant-loop-at : goal.invariant-loop-at
invariant-loop-at l = (l.at ≤ l.q.len) × (rest_after l.n (held l.buf l.q) l.rest ≡ rest_after (l.n - l.at) (drop l.at (held l.buf l.q)) (l.at - l.n))

abbrev pub decreases-loop-at : goal.decreases-loop-at
decreases-loop-at l = l.n - l.at
