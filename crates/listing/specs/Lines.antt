-- The listing (document 01, 'Listing'): a header line, then a line for each find. Assumes nothing.
use Rattle.std.specs.Prelude.{ℕ, Option, None, Some, List, [], ◌∷◌, ◌++◌}
use Rattle.block.specs.Decimal.{decimal}
use Rattle.receiver.specs.Call.{find_number}
use Rattle.receiver.specs.declared.Find.{Find}
use Rattle.receiver.specs.declared.Find.TheVariants.{Nothing, Refused, Notice, Low, Ordinary}

-- "tp what content bytes" and a line end, in ASCII
abbrev pub header_line : List ℕ
header_line = 0x74 ∷ 0x70 ∷ 0x20 ∷ 0x77 ∷ 0x68 ∷ 0x61 ∷ 0x74 ∷ 0x20 ∷ 0x63 ∷ 0x6F ∷ 0x6E ∷ 0x74 ∷ 0x65 ∷ 0x6E ∷ 0x74 ∷ 0x20 ∷ 0x62 ∷ 0x79 ∷ 0x74 ∷ 0x65 ∷ 0x73 ∷ 0x0A ∷ []

-- " low "
abbrev pub low_word : List ℕ
low_word = 0x20 ∷ 0x6C ∷ 0x6F ∷ 0x77 ∷ 0x20 ∷ []

-- " ordinary "
abbrev pub ordinary_word : List ℕ
ordinary_word = 0x20 ∷ 0x6F ∷ 0x72 ∷ 0x64 ∷ 0x69 ∷ 0x6E ∷ 0x61 ∷ 0x72 ∷ 0x79 ∷ 0x20 ∷ []

-- " notice "
abbrev pub notice_word : List ℕ
notice_word = 0x20 ∷ 0x6E ∷ 0x6F ∷ 0x74 ∷ 0x69 ∷ 0x63 ∷ 0x65 ∷ 0x20 ∷ []

-- "number .. of the TP that gave it .., sort .., content or notice number, data bytes", with a space (20) between and a line end (0A)
unfoldable pub line_with : ℕ → List ℕ → ℕ → ℕ → List ℕ
line_with tp word c n = decimal tp ++ word ++ decimal c ++ (0x20 ∷ []) ++ decimal n ++ (0x0A ∷ [])

-- "notice number", which document 01 gives an answer, "(0 for a notice)"
abbrev pub notice_line : ℕ → Option ℕ → List ℕ
notice_line tp None = []
notice_line tp (Some k) = line_with tp notice_word k 0

-- "(low, ordinary, notice)"; nothing has no line
abbrev pub line_of : ℕ → Find → List ℕ
line_of tp Nothing = []
line_of tp Refused = notice_line tp (find_number Refused)
line_of tp (Notice k) = notice_line tp (find_number (Notice k))
line_of tp (Low c start n) = line_with tp low_word c n
line_of tp (Ordinary c n) = line_with tp ordinary_word c n

-- what stands behind the TP's number
abbrev pub behind : List ℕ → ℕ → ℕ → List ℕ
behind word c n = word ++ (decimal c ++ (0x20 ∷ []) ++ decimal n ++ (0x0A ∷ []))

abbrev pub rest_of : Find → List ℕ
rest_of Nothing = []
rest_of Refused = behind notice_word 1 0
rest_of (Notice k) = behind notice_word k 0
rest_of (Low c start n) = behind low_word c n
rest_of (Ordinary c n) = behind ordinary_word c n
