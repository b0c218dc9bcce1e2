-- A word of decimal digits as a number of 64 bits. Assumes nothing.
use Rattle.std.specs.Prelude.{ℕ, ◌+◌, ◌-◌, ◌*◌, Bool, cond, ◌&&◌, List, [], ◌∷◌, leb, Option, Some, None}

-- 0 to 9 are 30 to 39 (hex)
abbrev pub is_digit : ℕ → Bool
is_digit b = leb 48 b && leb b 57

-- the number that digits make behind those of n
abbrev pub number_on : ℕ → List ℕ → Option ℕ
number_on n [] = Some n
number_on n (b ∷ bs) =
    cond (is_digit b)
    (cond (leb (n * 10 + (b - 48)) 18446744073709551615) (number_on (n * 10 + (b - 48)) bs) None)
    None

-- "decimal digits only", and at least one
abbrev pub word_of : List ℕ → Option ℕ
word_of [] = None
word_of (b ∷ bs) = number_on 0 (b ∷ bs)
