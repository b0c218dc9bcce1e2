-- What the decoders must answer (document 01, "The Golay word").
-- Stricter than A.4, which reads an end byte of four ones as 00. Assumes nothing.
use Rattle.std.specs.Prelude.{◌≡◌, ◌⊎◌, cond, ℕ, zero, suc, ◌+◌, ◌-◌, ◌*◌, ◌/◌, ◌%◌, ◌^◌, ◌≤◌, ◌<◌, min, leb, eqb, Option, Some, None}
use Rattle.std.proofs.Math.Option as math
use Rattle.std.specs.Int.Count.{ones_in}
use Rattle.golay.specs.Golay.{code_word, weight, distance, places_to, syndrome}
use Rattle.golay.specs.declared.Word.{Word}
use Rattle.golay.specs.declared.Mended.{Mended}
use Rattle.golay.specs.declared.End.{End}
use Rattle.golay.specs.declared.End.TheVariants.{Zeros, Ones, Neither}

-- the nearest code word is c flips away
abbrev pub Nearest : ℕ → ℕ → Type 0
Nearest w c =
    ((n : ℕ) → n < 4096 → c ≤ distance w (code_word n))
    × ((n : ℕ) × (n < 4096) × (distance w (code_word n) ≡ c))

-- the answer that is the number n, c flips away, with a one in e at each flipped bit; beyond repair, the answer is none
abbrev pub found : ℕ → ℕ → ℕ → Option Word
found n c e = Some (record { number = n; flips = c; places = e })

-- document 01's count for each answer
abbrev pub count : Option Word → ℕ
count (Some x) = x.flips
count None = 4

-- which of the word's 24 bits were flipped (R-2): bit i for bit i; beyond repair tells none
abbrev pub places : Option Word → ℕ
places (Some x) = x.places
places None = 0

-- the number and the count of flipped bits, 0 to 3, of the one code word within three flips, and which bits they are;
-- if there is none, beyond repair: the count is then the true distance to the nearest code word
unfoldable pub Decodes : ℕ → Option Word → Type 0
Decodes w (Some x) =
    (x.number < 4096)
    × (distance w (code_word x.number) ≡ count (Some x))
    × (count (Some x) ≤ 3)
    × (places (Some x) ≡ places_to w x.number)
Decodes w None = Nearest w (count None)

-- the same without the places
unfoldable pub Mends : ℕ → Option Mended → Type 0
Mends w (Some x) = Decodes w (found x.number x.flips (places_to w x.number))
Mends w None = Decodes w None

-- the same as a function, for the crates above: the number below k whose code word lies within three flips
unfoldable pub reading_below : ℕ → ℕ → Option Word
reading_below zero w = None
reading_below (suc k) w =
    cond (leb (distance w (code_word k)) 3) (found k (distance w (code_word k)) (places_to w k)) (reading_below k w)

unfoldable pub reading : ℕ → Option Word
reading w = reading_below 4096 w

-- A.3's rule for the entry x at the syndrome s: the number's half of the error of at most three flips with that syndrome;
-- FFFF where the lightest error with that syndrome has four
abbrev pub Corrects : ℕ → ℕ → Type 0
Corrects s x =
    ((e : ℕ) × (e < 2 ^ 24) × (syndrome e ≡ s) × (weight e ≤ 3) × (x ≡ e / 4096))
    ⊎ ((x ≡ 0xFFFF) × ((e : ℕ) × (e < 2 ^ 24) × (syndrome e ≡ s) × (weight e ≡ 4)))

-- the table's entry y at the syndrome s: above what to flip in the number, that error's count of flips in bits 13 and 12
abbrev pub Enters : ℕ → ℕ → Type 0
Enters s y =
    ((e : ℕ) × (e < 2 ^ 24) × (syndrome e ≡ s) × (weight e ≤ 3) × (y ≡ weight e * 4096 + e / 4096))
    ⊎ ((y ≡ 0xFFFF) × ((e : ℕ) × (e < 2 ^ 24) × (syndrome e ≡ s) × (weight e ≡ 4)))

-- A.3's entry in it
abbrev pub correction_of : ℕ → ℕ
correction_of y = cond (eqb y 0xFFFF) 0xFFFF (y % 4096)

-- document 01's byte for each answer; none beyond repair
abbrev pub end_byte : End → math.Option ℕ
end_byte Zeros = math.some 0x00
end_byte Ones = math.some 0xFF
end_byte Neither = math.none

-- an end byte with at most three ones means 00, with at least five means FF, and four ones means beyond repair
unfoldable pub end_meant : ℕ → math.Option ℕ
end_meant b = cond (leb (ones_in 8 b) 3) (math.some 0x00) (cond (leb 5 (ones_in 8 b)) (math.some 0xFF) math.none)

-- the same as an answer, for the crates above
unfoldable pub end_of : ℕ → End
end_of b = cond (leb (ones_in 8 b) 3) Zeros (cond (leb 5 (ones_in 8 b)) Ones Neither)

-- how many bits of an end byte differ from the nearer of the two
unfoldable pub end_flips : ℕ → ℕ
end_flips b = min (ones_in 8 b) (8 - ones_in 8 b)
