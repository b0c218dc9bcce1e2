-- The extended Golay code (document 01, "The Golay word"; IRIG 106-23 Chapter 7, A.2 and A.3).
-- Assumes nothing.
use Rattle.std.specs.Prelude.{List, [], ◌∷◌, ℕ, ◌+◌, ◌*◌, ◌/◌, ◌%◌, ◌^◌, length, take, drop}
use Rattle.std.specs.Int.Bits.{bit_xor}
use Rattle.std.specs.Int.Count.{ones_in}

-- the generator rows (A.2)
abbrev pub rows : List ℕ
rows =
    0xC75 ∷ 0x63B ∷ 0xF68 ∷ 0x7B4 ∷ 0x3DA ∷ 0xD99 ∷ 0x6CD ∷ 0x367 ∷ 0xDC6 ∷ 0xA97 ∷ 0x93E ∷ 0x8EB ∷ []

-- the exclusive or of the rows chosen by the one bits of n, most significant bit first: the last row goes by n's lowest bit
unfoldable pub chosen : List ℕ → ℕ → ℕ
chosen [] n = 0
chosen (r ∷ rs) n = bit_xor (n / 2 ^ length rs % 2 * r) (chosen rs n)

abbrev pub parity : ℕ → ℕ
parity n = chosen rows n

-- a 12-bit number becomes 24 bits: the number, then 12 parity bits
unfoldable pub code_word : ℕ → ℕ
code_word n = n % 4096 * 4096 + parity n

-- how many of the 24 bits of a word are ones
unfoldable pub weight : ℕ → ℕ
weight w = ones_in 24 w

-- how many of the 24 bits must be flipped to make one word of the other
unfoldable pub distance : ℕ → ℕ → ℕ
distance v w = weight (bit_xor v w)

-- which of the 24 bits of a word must be flipped to make the code word of n: bit i for bit i
abbrev pub places_to : ℕ → ℕ → ℕ
places_to w n = bit_xor (w % 2 ^ 24) (code_word n)

-- how many of the 8 bits of two bytes differ
unfoldable pub byte_distance : ℕ → ℕ → ℕ
byte_distance a b = ones_in 8 (bit_xor a b)

-- four rows, from row i on: what four bits choose of them stands in a table of sixteen
abbrev pub four : List ℕ → ℕ → List ℕ
four rs i = take 4 (drop i rs)

-- ---- the syndrome, by which the table of corrections is indexed (A.3)

-- the parity check rows
abbrev pub checks : List ℕ
checks =
    0xA4F ∷ 0xF68 ∷ 0x7B4 ∷ 0x3DA ∷ 0x1ED ∷ 0xAB9 ∷ 0xF13 ∷ 0xDC6 ∷ 0x6E3 ∷ 0x93E ∷ 0x49F ∷ 0xC75 ∷ []

-- the two halves of a word: the number and its parity
abbrev pub high : ℕ → ℕ
high w = w / 4096 % 4096

abbrev pub low : ℕ → ℕ
low w = w % 4096

-- of a word, or of an error: a word with a one at each flipped bit
unfoldable pub syndrome : ℕ → ℕ
syndrome w = bit_xor (chosen checks (low w)) (high w)
