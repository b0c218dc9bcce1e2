-- What c7unpack does with each find of a recording (R-1 of document 02): the packets of content 3, of either sort, are
-- reassembled and put one behind the other. A refused one is left out, and its number told. Assumes nothing.
use Rattle.std.specs.Prelude.{ℕ, ◌+◌, ◌-◌, Bool, false, cond, List, eqb, leb, length, Option, Some, None}
use Rattle.block.specs.Block.{Block, placed}
use Rattle.chapter11.specs.declared.Refusal.{Refusal}
use Rattle.chapter11.specs.declared.Refusal.TheVariants.{Unfit}
use Rattle.chapter11.specs.Source.{Outcome, gives, refuses, reassembled_of}
use Rattle.receiver.specs.declared.Find.{Find}
use Rattle.receiver.specs.declared.Find.TheVariants as F

-- an SP of content 3 is a Chapter 11 source packet
abbrev pub is_chapter11 : Find → Bool
is_chapter11 F.Nothing = false
is_chapter11 F.Refused = false
is_chapter11 (F.Notice n) = false
is_chapter11 (F.Low c start n) = eqb c 3
is_chapter11 (F.Ordinary c n) = eqb c 3

-- what a find leaves: the output block, and a refusal, if there was one
pub record After : Type 0 where
  pub block : Block
  pub refused : Option Refusal

abbrev pub unpacked : Outcome → Block → After
unpacked (gives p) o = record { block = record { bytes = placed o.bytes o.at p; at = o.at + length p }; refused = None }
unpacked (refuses k) o = record { block = o; refused = Some k }

-- the packet is put behind what the block holds, if it fits there
unfoldable pub find_of : Find → List ℕ → Block → After
find_of f sp o =
    cond (is_chapter11 f)
    (cond (leb o.at (length o.bytes))
    (unpacked (reassembled_of sp (length o.bytes - o.at)) o)
    (record { block = o; refused = Some Unfit }))
    (record { block = o; refused = None })
