-- Line 0 of an index (R-8): "Line 0 states how many records are covered and at which record the unfinished EP or held series (the
-- older, if any) began". It says beside that where in the files to go on, and has always 133 bytes. Assumes nothing.
use Rattle.std.specs.Prelude.{ℕ, ◌+◌, ◌*◌, ◌%◌, ◌<◌, cond, List, [], ◌∷◌, ◌++◌, eqb, leb, take, drop, Option, Some, None}
use Rattle.std.specs.Cmp.Lexicographic.{pointwise}
use Rattle.block.specs.Decimal.{padded}
use Rattle.line_zero.specs.declared.Top.{Top}

unfoldable pub digits20 : ℕ → List ℕ
digits20 n = padded 20 n

-- "covered "
abbrev pub covered_word : List ℕ
covered_word = 0x63 ∷ 0x6F ∷ 0x76 ∷ 0x65 ∷ 0x72 ∷ 0x65 ∷ 0x64 ∷ 0x20 ∷ []

-- " since "
abbrev pub since_word : List ℕ
since_word = 0x20 ∷ 0x73 ∷ 0x69 ∷ 0x6E ∷ 0x63 ∷ 0x65 ∷ 0x20 ∷ []

-- " end "
abbrev pub end_word : List ℕ
end_word = 0x20 ∷ 0x65 ∷ 0x6E ∷ 0x64 ∷ 0x20 ∷ []

-- " from "
abbrev pub from_word : List ℕ
from_word = 0x20 ∷ 0x66 ∷ 0x72 ∷ 0x6F ∷ 0x6D ∷ 0x20 ∷ []

-- " size "
abbrev pub size_word : List ℕ
size_word = 0x20 ∷ 0x73 ∷ 0x69 ∷ 0x7A ∷ 0x65 ∷ 0x20 ∷ []

-- a word and a number of 20 digits
abbrev pub field : List ℕ → ℕ → List ℕ → List ℕ
field word n more = word ++ (digits20 n ++ more)

-- `covered D since D end D from D size D` and a line end (0A)
unfoldable pub top_text : Top → List ℕ
top_text t =
    field covered_word t.covered
    (field since_word t.since
    (field end_word t.end
    (field from_word t.from
    (field size_word t.size (0x0A ∷ [])))))

-- a byte as a digit: 30 to 39 (hex) are 0 to 9
abbrev pub digit_of : ℕ → ℕ
digit_of b = (b + 2) % 10

abbrev pub value_of : ℕ → List ℕ → ℕ
value_of n [] = n
value_of n (b ∷ bs) = value_of (n * 10 + digit_of b) bs

-- where 64 bits hold it
abbrev pub held : ℕ → ℕ
held n = cond (leb n 18446744073709551615) n 0

-- the number at this place
abbrev pub number_at : ℕ → List ℕ → ℕ
number_at i s = held (value_of 0 (take 20 (drop i s)))

unfoldable pub numbers_in : List ℕ → Top
numbers_in s = record { covered = number_at 8 s; since = number_at 35 s; end = number_at 60 s; from = number_at 86 s; size = number_at 112 s }

-- what the first 133 bytes say: exactly these numbers' line 0, or they are no line 0
unfoldable pub top_in : List ℕ → Option Top
unfolding top_text numbers_in
top_in s = cond (pointwise eqb (take 133 s) (top_text (numbers_in s))) (Some (numbers_in s)) None

-- numbers that line 0 gives back
pub record Small (t : Top) : Type 0 where
  pub covered : t.covered < 18446744073709551616
  pub since : t.since < 18446744073709551616
  pub end : t.end < 18446744073709551616
  pub from : t.from < 18446744073709551616
  pub size : t.size < 18446744073709551616
