-- House records: document 01, 'Records and programs'. A record is its head of eight bytes and its data.
-- A head that breaks several rules is told by the first in the document's order: mark, kind, content, length. Assumes nothing.
use Rattle.std.specs.Prelude.{ℕ, Bool, cond, ◌&&◌, ◌||◌, List, [], ◌∷◌, ◌++◌, eqb, leb, get_or, Result, Ok, Err}
use Rattle.digits.specs.Digits.{digits, number}
use Rattle.house.specs.declared.Record.{Record}
use Rattle.house.specs.declared.Record.TheVariants.{Setup, Ordinary, Low, Draw, Packet, Gap}
use Rattle.house.specs.declared.Place.{Place}
use Rattle.house.specs.declared.Place.TheVariants.{Start, Sending, Listing}
use Rattle.house.specs.declared.Fault.{Fault}
use Rattle.house.specs.declared.Fault.TheVariants.{Mark, Kind, Content, Length}

-- "Kinds: 0 setup, 1 ordinary SP, 2 low-latency SP, 3 draw, 4 TP, 5 gap."
abbrev pub kind_of : Record → ℕ
kind_of Setup = 0
kind_of (Ordinary c n) = 1
kind_of (Low c n) = 2
kind_of Draw = 3
kind_of (Packet n) = 4
kind_of Gap = 5

-- "Content is 0 except in kinds 1 and 2."
abbrev pub content_of : Record → ℕ
content_of Setup = 0
content_of (Ordinary c n) = c
content_of (Low c n) = c
content_of Draw = 0
content_of (Packet n) = 0
content_of Gap = 0

-- "Data are 5 bytes in kind 0, none in 3 and 5"
abbrev pub length_of : Record → ℕ
length_of Setup = 5
length_of (Ordinary c n) = n
length_of (Low c n) = n
length_of Draw = 0
length_of (Packet n) = n
length_of Gap = 0

-- "mark C7 07, kind byte, content byte, 4-byte length (most significant first)"
abbrev pub head_of : Record → List ℕ
head_of r = 0xC7 ∷ 0x07 ∷ kind_of r ∷ content_of r ∷ digits 4 (length_of r)

-- "House record: .. data."
abbrev pub record_bytes : Record → List ℕ → List ℕ
record_bytes r d = head_of r ++ d

-- "The sending program reads 0, then 1 to 3"; "The listing program reads 0, then 4 and 5"
abbrev pub is_read : Place → ℕ → Bool
is_read Start k = eqb k 0
is_read Sending k = leb 1 k && leb k 3
is_read Listing k = leb 4 k && leb k 5

-- "Content is 0 except in kinds 1 and 2."
abbrev pub content_fits : ℕ → ℕ → Bool
content_fits k c = (eqb k 1 || eqb k 2) || eqb c 0

-- "Data are 5 bytes in kind 0, none in 3 and 5, at most 32,768 in the others."
abbrev pub length_fits : ℕ → ℕ → Bool
length_fits k n = cond (eqb k 0) (eqb n 5) (cond (eqb k 3 || eqb k 5) (eqb n 0) (leb n 32768))

-- the record of this kind, content and length
abbrev pub record_of : ℕ → ℕ → ℕ → Record
record_of k c n =
    cond (eqb k 0) Setup
    (cond (eqb k 1) (Ordinary c n)
    (cond (eqb k 2) (Low c n)
    (cond (eqb k 3) Draw
    (cond (eqb k 4) (Packet n) Gap))))

-- what a head with a mark says, by its kind, content and length
unfoldable pub ruled : Place → ℕ → ℕ → ℕ → Result Record Fault
ruled p k c n =
    cond (is_read p k)
    (cond (content_fits k c)
    (cond (length_fits k n) (Ok (record_of k c n)) (Err Length))
    (Err Content))
    (Err Kind)

-- what the first eight bytes say at a place
unfoldable pub judged_of : Place → List ℕ → Result Record Fault
judged_of p h =
    cond (eqb (number 0 (get_or h 0 0 ∷ get_or h 1 0 ∷ [])) 0xC707)
    (ruled p (get_or h 2 0) (get_or h 3 0) (number 0 (get_or h 4 0 ∷ get_or h 5 0 ∷ get_or h 6 0 ∷ get_or h 7 0 ∷ [])))
    (Err Mark)
