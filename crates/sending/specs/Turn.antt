-- What the sending program does with each record (document 01, 'Records and programs'): one record in, records out.
-- The output block takes what is written; a draw that finds no room in it waits, so the program empties it first. Assumes nothing.
use Rattle.std.specs.Prelude.{ℕ, ◌+◌, cond, List, leb, length, take, drop, Option, Some, None, Result, Ok, Err}
use Rattle.block.specs.Block.{Block, placed, put}
use Rattle.house.specs.Records.{record_bytes}
use Rattle.house.specs.declared.Record.{Record}
use Rattle.house.specs.declared.Record.TheVariants.{Setup, Ordinary, Low, Draw, Packet, Gap}
use Rattle.house.specs.declared.Unwritten.{Unwritten}
use Rattle.house.specs.Slices.{written_in}
use Rattle.sender.specs.Answers.{Given, done, refusal, Left}
use Rattle.sender.specs.Offering.{ordinary_offered, low_offered}
use Rattle.sender.specs.Drawing.{drew}
use Rattle.sender.specs.Run.{kept}
use Rattle.sender.specs.declared.Sender.{Sender}

-- "A refused offer is skipped" (`kept`); document 01's number where it is refused
abbrev pub refused_by : Given → Option ℕ
refused_by (done t) = None
refused_by (refusal n) = Some n

-- the draw is lent the block's bytes behind its record's head, and leaves b there; a drawn TP goes out as a record of kind 4
abbrev pub wrote : Given → List ℕ → ℕ → List ℕ → ℕ → Block
wrote (done t) b tp out at = put out at (record_bytes (Packet tp) b)
wrote (refusal n) b tp out at = record { bytes = placed out (at + 8) b; at = at }

-- (no draw is refused here, so none is told)
pub record Drawn : Type 0 where
  pub sender : Sender
  pub block : Block
  pub refused : Option ℕ

abbrev pub drawn_by : Left → Sender → ℕ → List ℕ → ℕ → Drawn
drawn_by l s tp out at = record { sender = kept s l.given; block = wrote l.given l.buffer tp out at; refused = None }

unfoldable pub drawn_of : Sender → List ℕ → List ℕ → ℕ → List ℕ → ℕ → Drawn
drawn_of s low ordinary tp out at =
    cond (leb (at + 8 + tp) (length out))
    (drawn_by (drew s low ordinary (take tp (drop (at + 8) out))) s tp out at)
    (record { sender = s; block = record { bytes = out; at = at }; refused = None })

-- what a turn leaves: the sender, both queues, the output block, and whether an offer was refused
pub record After : Type 0 where
  pub sender : Sender
  pub low : List ℕ
  pub ordinary : List ℕ
  pub block : Block
  pub refused : Option ℕ

-- an SP is offered; a draw draws one TP; the other kinds do nothing, and are not read here
abbrev pub turn_of : Record → Sender → List ℕ → List ℕ → List ℕ → ℕ → Block → After
turn_of Setup s d low ordinary tp o = record { sender = s; low = low; ordinary = ordinary; block = o; refused = None }
turn_of (Ordinary c n) s d low ordinary tp o =
    let l = ordinary_offered s low ordinary c d in
    record { sender = kept s l.given; low = low; ordinary = l.buffer; block = o; refused = refused_by l.given }
turn_of (Low c n) s d low ordinary tp o =
    let l = low_offered s low ordinary c d in
    record { sender = kept s l.given; low = l.buffer; ordinary = ordinary; block = o; refused = refused_by l.given }
turn_of Draw s d low ordinary tp o =
    let l = drawn_of s low ordinary tp o.bytes o.at in
    record { sender = l.sender; low = low; ordinary = ordinary; block = l.block; refused = l.refused }
turn_of (Packet n) s d low ordinary tp o = record { sender = s; low = low; ordinary = ordinary; block = o; refused = None }
turn_of Gap s d low ordinary tp o = record { sender = s; low = low; ordinary = ordinary; block = o; refused = None }

-- how many bytes the block holds then
abbrev pub till : Result ℕ Unwritten → ℕ
till (Ok n) = n
till (Err e) = 0

-- the setup record is written again as it was, or the block stays empty
abbrev pub begun : List ℕ → List ℕ → Block
begun setup out = let l = written_in Setup setup out 0 in record { bytes = l.bytes; at = till l.answer }
