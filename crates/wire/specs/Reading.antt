-- EP header and TP header as they are read, from any maker (document 01, "Layouts").
-- Bits 11 and 10 of word 0, and bits 3 and 2 of the stream byte, are ignored. Assumes nothing.
use Rattle.std.specs.Prelude.{cond, ◌&&◌, List, ℕ, ◌+◌, ◌*◌, ◌/◌, ◌%◌, ◌^◌, eqb, leb, Option, Some, None}
use Rattle.digits.specs.Digits.{number}
use Rattle.golay.specs.declared.Word.{Word}
use Rattle.golay.specs.Golay.{high, syndrome}
use Rattle.golay.specs.Answers.{reading}
use Rattle.wire.specs.declared.Header.{Header}
use Rattle.wire.specs.declared.TpWord.{TpWord}
use Rattle.wire.specs.declared.Sort.{Sort}
use Rattle.wire.specs.declared.Sort.TheVariants.{Fill, Known, Reserved}

-- the number of a word; none beyond repair
abbrev pub number_of : Option Word → Option ℕ
number_of (Some x) = Some x.number
number_of None = None

-- content in bits 9 to 6 of word 0, fragment in 5 to 4, length bits 15 to 12 in 3 to 0 and 11 to 0 in word 1
abbrev pub fields_of : ℕ → ℕ → ℕ → Header
fields_of a b flips = record { content = a / 64 % 16; fragment = a / 16 % 4; size = a % 16 * 4096 + b; flips = flips }

-- a header is whole if both its words are; it carries "the total repaired" in them
abbrev pub header_from : Option Word → Option Word → Option Header
header_from (Some x) (Some y) = Some (fields_of x.number y.number (x.flips + y.flips))
header_from (Some x) None = None
header_from None y = None

-- six bytes as a number, and the header that they hold; none if one of its words is beyond repair
unfoldable pub header_in : ℕ → Option Header
header_in w = header_from (reading (w / 2 ^ 24 % 2 ^ 24)) (reading (w % 2 ^ 24))

-- the same if both words are intact: no bit of them is flipped
unfoldable pub intact_in : ℕ → Option Header
intact_in w =
    cond (eqb (syndrome (w / 2 ^ 24 % 2 ^ 24)) 0 && eqb (syndrome (w % 2 ^ 24)) 0)
    (Some (fields_of (high (w / 2 ^ 24 % 2 ^ 24)) (high (w % 2 ^ 24)) 0))
    None

unfoldable pub header_of : List ℕ → Option Header
header_of bytes = header_in (number 0 bytes)

-- three bytes as a number, and the low-latency flag with the offset that they hold; none beyond repair
unfoldable pub tp_number_in : ℕ → Option ℕ
tp_number_in w = number_of (reading w)

-- bit 11 is the flag, and bits 10 to 0 are the offset
abbrev pub tp_word_from : ℕ → TpWord
tp_word_from n = record { low = leb 2048 n; offset = n % 2048 }

abbrev pub tp_word_of : Option ℕ → Option TpWord
tp_word_of (Some n) = Some (tp_word_from n)
tp_word_of None = None

-- the stream byte's stream and version
abbrev pub stream_of : ℕ → ℕ
stream_of b = b / 16

abbrev pub version_of : ℕ → ℕ
version_of b = b % 4

-- content: 0 fill, 1 to 6 known, 7 to 15 reserved
unfoldable pub sort_of : ℕ → Sort
sort_of c = cond (eqb c 0) Fill (cond (leb c 6) Known Reserved)
