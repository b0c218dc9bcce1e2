-- "d starts at 0; for each byte x, d = (d × 65,599 + x) mod 4,294,967,291". Assumes nothing.
use Rattle.std.specs.Prelude.{ℕ, ◌+◌, ◌*◌, ◌%◌, List, [], ◌∷◌}

abbrev pub digest : ℕ → List ℕ → ℕ
digest d [] = d
digest d (x ∷ xs) = digest ((d * 65599 + x) % 4294967291) xs
