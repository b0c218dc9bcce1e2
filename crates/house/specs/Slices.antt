-- A record in a slice (document 01, 'Records and programs'): read from the slice's start, or written into a buffer.
-- A bad record gives its fault and none of its numbers. Assumes nothing.
use Rattle.std.specs.Prelude.{ℕ, ◌+◌, cond, List, eqb, leb, length, take, drop, Option, Some, None, Result, Ok, Err}
use Rattle.block.specs.Block.{placed}
use Rattle.house.specs.declared.Record.{Record}
use Rattle.house.specs.declared.Place.{Place}
use Rattle.house.specs.declared.Fault.{Fault}
use Rattle.house.specs.declared.Unwritten.{Unwritten}
use Rattle.house.specs.declared.Unwritten.TheVariants.{NoRoom, OtherLength}
use Rattle.house.specs.Records.{length_of, record_bytes, judged_of}

-- a fault is told as soon as the head shows it; a good head's record is whole once n bytes hold its data too
abbrev pub behind_head : Result Record Fault → ℕ → Result (Option Record) Fault
behind_head (Err f) n = Err f
behind_head (Ok r) n = cond (leb (8 + length_of r) n) (Ok (Some r)) (Ok None)

-- what the bytes at hand hold at a place: a bad record, not all of one yet, or a whole one with its data
unfoldable pub at_hand : Place → List ℕ → Result (Option Record) Fault
at_hand p s = cond (leb 8 (length s)) (behind_head (judged_of p s) (length s)) (Ok None)

-- "House record: mark .., kind byte, content byte, 4-byte length .., data."
abbrev pub data_in : Record → List ℕ → List ℕ
data_in r s = take (length_of r) (drop 8 s)

-- what writing leaves: the answer, which says where the record ends, and the buffer
pub record Left : Type 0 where
  pub answer : Result ℕ Unwritten
  pub bytes : List ℕ

-- the record is written whole from index at on, and no other byte; or nothing is
unfoldable pub written_in : Record → List ℕ → List ℕ → ℕ → Left
written_in r d out at =
    cond (eqb (length d) (length_of r))
    (cond (leb (at + 8 + length d) (length out))
    (record { answer = Ok (at + 8 + length d); bytes = placed out at (record_bytes r d) })
    (record { answer = Err NoRoom; bytes = out }))
    (record { answer = Err OtherLength; bytes = out })
