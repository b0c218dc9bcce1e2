-- Document 01's starred examples, as a single list: each stands in the document's order, with its own numbers.
-- Assumes nothing.
use Rattle.std.specs.Prelude.{◌≡◌, List, [], ◌∷◌, ◌++◌, ℕ, replicate, Option, None}
use Rattle.golay.specs.Golay.{code_word}
use Rattle.golay.specs.Answers.{Decodes, end_of, found}
use Rattle.golay.specs.declared.Word.{Word}
use Rattle.golay.specs.declared.End.{End}
use Rattle.golay.specs.declared.End.TheVariants.{Zeros, Ones, Neither}
use Rattle.sender.specs.Opening.{fresh}
use Rattle.sender.specs.Offering.{pieces}
use Rattle.sender.specs.Run.{Call, ordinary, low, draw, World, Tp, deeds, tps}
use Rattle.receiver.specs.Frame.{lost}
use Rattle.receiver.specs.Join as J
use Rattle.receiver.specs.Join.{Finding, free}
use Rattle.receiver.specs.Low.{Tag, wire}
use Rattle.receiver.specs.Tp.{Input, tp_in, listing_all}
use Rattle.house.specs.Series.{Item}
use Rattle.house.specs.declared.Record.TheVariants as R
use Rattle.listing.specs.Recordings.{listed}
use Rattle.sending.specs.Scripts.{recording}

-- a sender of TP length 16, stream 0, F of 65,535, with two queues of 32 bytes
abbrev pub opened : World
opened = record { sender = fresh 16 0 65535 32 32; low = replicate 32 0; ordinary = replicate 32 0 }

-- a draw into a cleared buffer
abbrev pub drawn : Call
drawn = draw (replicate 16 0)

-- the bytes of the TPs that it gives in a run of calls
abbrev pub bytes_of : List Tp → List (List ℕ)
bytes_of [] = []
bytes_of (t ∷ ts) = t.bytes ∷ bytes_of ts

-- the finds of a receiver of the same settings, with a room of one byte
abbrev pub inputs : List (List ℕ) → List Input
inputs [] = []
inputs (b ∷ bs) = tp_in b ∷ inputs bs

abbrev pub read : List (List ℕ) → List (Finding wire)
read bs = (listing_all (record { size = 16; stream = 0; room = 1 }) 0 (record { frame = lost; held = free }) (inputs bs)).0

-- the listing of a recording of TP length 16, stream 0, by a program whose room has 32,768 bytes
abbrev pub listing : List (List ℕ) → List ℕ
listing bs = listed (record { size = 16; stream = 0; room = 32768 }) (inputs bs)

-- what an example can say: a number's code word; what a word is read as; what an end byte means; the EPs of an SP with fragment
-- size F; the TPs that calls give; the finds that TPs give; their listing; the recording that a script gives
pub data Example : Type 0 where
  encodes : ℕ → ℕ → Example
  decodes : ℕ → Option Word → Example
  ends : ℕ → End → Example
  cuts : ℕ → ℕ → List ℕ → List (List ℕ) → Example
  sends : List Call → List (List ℕ) → Example
  reads : List (List ℕ) → List (Finding wire) → Example
  lists : List (List ℕ) → List ℕ → Example
  records : List ℕ → List Item → List ℕ → Example

abbrev pub Holds : Example → Type 0
Holds (encodes n w) = code_word n ≡ w
Holds (decodes w r) = Decodes w r
Holds (ends b r) = end_of b ≡ r
Holds (cuts F c d es) = pieces F c d ≡ es
Holds (sends cs bs) = bytes_of (tps (deeds opened cs)) ≡ bs
Holds (reads bs fs) = read bs ≡ fs
Holds (lists bs t) = listing bs ≡ t
Holds (records s xs t) = recording 16 s opened xs ≡ t

-- all of a list hold
infixr 5 ◌and◌
pub data Hold : List Example → Type 0 where
  done : Hold []
  ◌and◌ : {x : Example} {xs : List Example} → Holds x → Hold xs → Hold (x ∷ xs)

-- a packet of this content, in which nothing was repaired, begun in TP t at payload place p
abbrev pub intact : ℕ → ℕ → ℕ → Tag
intact c t p = record { content = c; repaired = 0; at = record { stamp = record { number = t; byte = 0 }; at = p } }

-- the TPs of example 6
abbrev pub first_tp : List ℕ
first_tp = 0x00 ∷ 0x80 ∷ 0x99 ∷ 0x58 ∷ 0x04 ∷ 0x0D ∷ 0x99 ∷ 0x00 ∷ 0x29 ∷ 0x3E ∷ 0x11 ∷ 0x22 ∷ 0x00 ∷ 0x10 ∷ 0x07 ∷ 0xB4 ∷ []

abbrev pub second_tp : List ℕ
second_tp = 0x00 ∷ 0x00 ∷ 0x4A ∷ 0x97 ∷ 0x00 ∷ 0x18 ∷ 0xEB ∷ 0x33 ∷ 0x00 ∷ 0x00 ∷ 0x00 ∷ 0x00 ∷ 0x29 ∷ 0x3E ∷ 0xAA ∷ 0xAA ∷ []

abbrev pub sixth : List (List ℕ)
sixth = first_tp ∷ second_tp ∷ []

-- "tp what content bytes", "1 low 1 2", "2 ordinary 4 1", each with its line end
abbrev pub sixth_listing : List ℕ
sixth_listing =
    (0x74 ∷ 0x70 ∷ 0x20 ∷ 0x77 ∷ 0x68 ∷ 0x61 ∷ 0x74 ∷ 0x20 ∷ 0x63 ∷ 0x6F ∷ 0x6E ∷ 0x74 ∷ 0x65 ∷ 0x6E ∷ 0x74 ∷ 0x20 ∷ 0x62 ∷ 0x79 ∷ 0x74 ∷ 0x65 ∷ 0x73 ∷ 0x0A ∷ [])
    ++ (0x31 ∷ 0x20 ∷ 0x6C ∷ 0x6F ∷ 0x77 ∷ 0x20 ∷ 0x31 ∷ 0x20 ∷ 0x32 ∷ 0x0A ∷ [])
    ++ (0x32 ∷ 0x20 ∷ 0x6F ∷ 0x72 ∷ 0x64 ∷ 0x69 ∷ 0x6E ∷ 0x61 ∷ 0x72 ∷ 0x79 ∷ 0x20 ∷ 0x34 ∷ 0x20 ∷ 0x31 ∷ 0x0A ∷ [])

-- "setup 00 10 00 FF FF"
abbrev pub sixth_setup : List ℕ
sixth_setup = 0x00 ∷ 0x10 ∷ 0x00 ∷ 0xFF ∷ 0xFF ∷ []

-- "Offer low-latency content 1, data 11 22; offer ordinary content 4, data 33; draw twice", as records
abbrev pub sixth_script : List Item
sixth_script =
    record { said = R.Low 1 2; bytes = 0x11 ∷ 0x22 ∷ [] }
    ∷ record { said = R.Ordinary 4 1; bytes = 0x33 ∷ [] }
    ∷ record { said = R.Draw; bytes = [] }
    ∷ record { said = R.Draw; bytes = [] }
    ∷ []

-- the setup, "and these as kind 4 records"
abbrev pub sixth_recording : List ℕ
sixth_recording =
    (0xC7 ∷ 0x07 ∷ 0x00 ∷ 0x00 ∷ 0x00 ∷ 0x00 ∷ 0x00 ∷ 0x05 ∷ sixth_setup)
    ++ (0xC7 ∷ 0x07 ∷ 0x04 ∷ 0x00 ∷ 0x00 ∷ 0x00 ∷ 0x00 ∷ 0x10 ∷ first_tp)
    ++ (0xC7 ∷ 0x07 ∷ 0x04 ∷ 0x00 ∷ 0x00 ∷ 0x00 ∷ 0x00 ∷ 0x10 ∷ second_tp)

abbrev pub examples : List Example
examples =
    encodes 0x000 0x000000
    ∷ encodes 0x001 0x0018EB
    ∷ encodes 0x7FF 0x7FF38A
    ∷ encodes 0xFFF 0xFFFFFF
    ∷ decodes 0x000007 (found 0x000 3 0x000007)
    ∷ decodes 0x00000F None
    ∷ decodes 0x7FF38D (found 0x7FF 3 0x000007)
    ∷ ends 0x07 Zeros
    ∷ ends 0x0F Neither
    ∷ ends 0x1F Ones
    ∷ cuts 2 1 (0x11 ∷ 0x22 ∷ 0x33 ∷ [])
    ((0x05 ∷ 0x0E ∷ 0xFE ∷ 0x00 ∷ 0x29 ∷ 0x3E ∷ 0x11 ∷ 0x22 ∷ []) ∷ (0x07 ∷ 0x08 ∷ 0x33 ∷ 0x00 ∷ 0x18 ∷ 0xEB ∷ 0x33 ∷ []) ∷ [])
    ∷ sends (low 1 (0x11 ∷ 0x22 ∷ []) ∷ ordinary 4 (0x33 ∷ []) ∷ drawn ∷ drawn ∷ []) sixth
    ∷ reads sixth (J.low (intact 1 1 0) (0x11 ∷ 0x22 ∷ []) ∷ J.ordinary (intact 4 1 9) (0x33 ∷ []) ∷ [])
    ∷ lists sixth sixth_listing
    ∷ records sixth_setup sixth_script sixth_recording
    ∷ sends (ordinary 1 (0x11 ∷ 0x22 ∷ []) ∷ drawn ∷ drawn ∷ [])
    ((0x00 ∷ 0x00 ∷ 0x00 ∷ 0x00 ∷ 0x04 ∷ 0x0D ∷ 0x99 ∷ 0x00 ∷ 0x29 ∷ 0x3E ∷ 0x11 ∷ 0x22 ∷ 0x00 ∷ 0x00 ∷ 0x00 ∷ 0x00 ∷ [])
    ∷ (0x00 ∷ 0x00 ∷ 0x29 ∷ 0x3E ∷ 0x00 ∷ 0x00 ∷ 0x00 ∷ 0x00 ∷ 0x00 ∷ 0x00 ∷ 0x4A ∷ 0x97 ∷ 0xAA ∷ 0xAA ∷ 0xAA ∷ 0xAA ∷ [])
    ∷ [])
    ∷ []
