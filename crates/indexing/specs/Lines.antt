-- The lines of an index (R-8): "one line for each handed-out packet, in order: record number (the setup is 0) of the TP where it
-- began, place, sort, content, length". Assumes nothing.
use Rattle.std.specs.Prelude.{ℕ, Bool, true, false, cond, List, [], ◌∷◌, ◌++◌, eqb, leb, ltb}
use Rattle.block.specs.Decimal.{decimal}
use Rattle.listing.specs.Lines.{low_word, ordinary_word, rest_of}
use Rattle.receiver.specs.declared.Find.{Find}
use Rattle.receiver.specs.declared.Find.TheVariants.{Nothing, Refused, Notice, Low, Ordinary}
use Rattle.receiver.specs.declared.Place.{Place}

-- what a line says of a packet; is_low: its sort
pub record Line : Type 0 where
  pub begun : ℕ
  pub place : ℕ
  pub is_low : Bool
  pub content : ℕ
  pub bytes : ℕ

-- `RECORD PLACE low|ordinary CONTENT LENGTH`, with a space (20) between and a line end (0A)
unfoldable pub line_with : ℕ → ℕ → List ℕ → ℕ → ℕ → List ℕ
line_with r p word c n = decimal r ++ (0x20 ∷ []) ++ decimal p ++ word ++ decimal c ++ (0x20 ∷ []) ++ decimal n ++ (0x0A ∷ [])

abbrev pub sort_word : Bool → List ℕ
sort_word true = low_word
sort_word false = ordinary_word

abbrev pub line_text : Line → List ℕ
line_text l = line_with l.begun l.place (sort_word l.is_low) l.content l.bytes

-- "at or after that place": record n, place j, seen from record k, place i
abbrev pub at_or_after : ℕ → ℕ → ℕ → ℕ → Bool
at_or_after k i n j = cond (eqb n k) (leb i j) (ltb k n)

-- the line of a find that began at this place; only packets have one
abbrev pub find_text : Place → Find → List ℕ
find_text p Nothing = []
find_text p Refused = []
find_text p (Notice k) = []
find_text p (Low c start n) = line_with p.stamp.number p.at low_word c n
find_text p (Ordinary c n) = line_with p.stamp.number p.at ordinary_word c n

abbrev pub is_packet : Find → Bool
is_packet Nothing = false
is_packet Refused = false
is_packet (Notice k) = false
is_packet (Low c start n) = true
is_packet (Ordinary c n) = true

-- a packet's line is its record, its place and what a listing says behind a TP's number
abbrev pub packet_text : Place → Find → List ℕ
packet_text p f = decimal p.stamp.number ++ (0x20 ∷ []) ++ decimal p.at ++ rest_of f

-- "lists nothing twice": a covered record is only read again
abbrev pub new_text : ℕ → ℕ → Place → Find → List ℕ
new_text covered r p f = cond (ltb r covered) [] (find_text p f)
