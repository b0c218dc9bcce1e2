-- How many zeros there are, said once for any number of them, since counting a million of them takes antt too deep. Assumes nothing.
use Prim.Native.Nat.{ℕ}
use mathlib.Core.Path.{◌≡◌, sym}
use lib.ListN.{length, replicate, length-replicate}

pub counted : (n : ℕ) → n ≡ length (replicate {A = ℕ} n 0)
counted n = sym (length-replicate n 0)
