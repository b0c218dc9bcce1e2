-- What c7pack does with each record of a script (R-1 of document 02): the packets of content 3 in kinds 1 and 2 are composed,
-- all else stays as it is. A refused packet is left out, and its number told. Assumes nothing.
use Rattle.std.specs.Prelude.{ℕ, Bool, false, cond, List, ◌++◌, eqb, length, drop, Option, Some, None, Result, Ok, Err}
use Rattle.block.specs.Block.{Block}
use Rattle.chapter11.specs.declared.Refusal.{Refusal}
use Rattle.chapter11.specs.Source.{Outcome, gives, refuses, composed_of}
use Rattle.house.specs.Slices as W
use Rattle.house.specs.Slices.{written_in}
use Rattle.house.specs.declared.Record.{Record}
use Rattle.house.specs.declared.Record.TheVariants.{Setup, Ordinary, Low, Draw, Packet, Gap}
use Rattle.house.specs.declared.Unwritten.{Unwritten}

-- an SP of content 3 is a Chapter 11 packet
abbrev pub is_chapter11 : Record → Bool
is_chapter11 Setup = false
is_chapter11 (Ordinary c n) = eqb c 3
is_chapter11 (Low c n) = eqb c 3
is_chapter11 Draw = false
is_chapter11 (Packet n) = false
is_chapter11 Gap = false

-- the record with other data, of n bytes
abbrev pub of_length : Record → ℕ → Record
of_length Setup n = Setup
of_length (Ordinary c m) n = Ordinary c n
of_length (Low c m) n = Low c n
of_length Draw n = Draw
of_length (Packet m) n = Packet m
of_length Gap n = Gap

-- how many bytes the output block holds then
abbrev pub held_by : Result ℕ Unwritten → ℕ → ℕ
held_by (Ok n) at = n
held_by (Err e) at = at

abbrev pub block_by : W.Left → ℕ → Block
block_by l at = record { bytes = l.bytes; at = held_by l.answer at }

-- the record behind what the block holds, or nothing if it has no room
abbrev pub recorded : Record → List ℕ → Block → Block
recorded r d o = block_by (written_in r d o.bytes o.at) o.at

-- what a turn leaves: the buffer for the source packet, the output block, and a refusal, if there was one
pub record After : Type 0 where
  pub sp : List ℕ
  pub block : Block
  pub refused : Option Refusal

abbrev pub packed : Outcome → Record → List ℕ → Block → After
packed (gives s) r sp o = record { sp = s ++ drop (length s) sp; block = recorded (of_length r (length s)) s o; refused = None }
packed (refuses k) r sp o = record { sp = sp; block = o; refused = Some k }

unfoldable pub turn_of : Record → List ℕ → List ℕ → Block → After
turn_of r d sp o =
    cond (is_chapter11 r)
    (packed (composed_of d (length sp)) r sp o)
    (record { sp = sp; block = recorded r d o; refused = None })
