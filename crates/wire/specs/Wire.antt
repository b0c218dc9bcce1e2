-- EP header and TP header as they are sent (document 01, "Layouts").
-- Assumes nothing.
use Rattle.std.specs.Prelude.{Bool, cond, List, ◌∷◌, ◌++◌, ℕ, ◌+◌, ◌*◌, ◌/◌, ◌%◌, length}
use Rattle.digits.specs.Digits.{digits}
use Rattle.golay.specs.Golay.{code_word}

-- the code word of a 12-bit number, most significant byte first
unfoldable pub word : ℕ → List ℕ
word n = digits 3 (code_word n)

-- word 0: bits 11 and 10 zero, content in 9 to 6, fragment in 5 to 4, length bits 15 to 12 in 3 to 0
unfoldable pub first_number : ℕ → ℕ → ℕ → ℕ
first_number content fragment size = content % 16 * 64 + fragment % 4 * 16 + size / 4096 % 16

-- EP header, two Golay words; word 1: length bits 11 to 0
unfoldable pub header : ℕ → ℕ → ℕ → List ℕ
header content fragment size = word (first_number content fragment size) ++ word (size % 4096)

-- an EP: the length counts the data after the header
unfoldable pub ep : ℕ → ℕ → List ℕ → List ℕ
ep content fragment data' = header content fragment (length data') ++ data'

-- stream in bits 7 to 4, bits 3 and 2 zero, version 0 in bits 1 and 0
unfoldable pub stream_byte : ℕ → ℕ
stream_byte stream = stream % 16 * 16

-- bit 11: low-latency part present; bits 10 to 0: offset
unfoldable pub offset_number : Bool → ℕ → ℕ
offset_number low offset = cond low 2048 0 + offset % 2048

-- one stream byte, one Golay word
unfoldable pub tp_header : ℕ → Bool → ℕ → List ℕ
tp_header stream low offset = stream_byte stream ∷ word (offset_number low offset)
