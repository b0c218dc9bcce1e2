-- WHAT THE INDEX PROGRAM'S LOOP WRITES (R-8): over what `index_loop::advance` promises, its output blocks hold the lines that `indexed.Index`
-- defines for the records taken. Assumes nothing; `Of` says what is assumed of the operating system.
use Rattle.std.specs.Prelude.{ℕ, ◌+◌, ◌≤◌, ◌<◌, ◌≡◌, ◌⊎◌, cond, List, [], ◌∷◌, ◌++◌, ltb, length, take, drop, Option, None, Some, Ok}
use Rattle.block.specs.Block.{Block}
use Rattle.console.specs.Taking.{stretch}
use Rattle.console.specs.declared.Unread.{Unread}
use Rattle.house.specs.Series.{unread_in}
use Rattle.house.specs.Slices.{at_hand, data_in}
use Rattle.house.specs.declared.Place.TheVariants.{Listing}
use Rattle.house.specs.declared.Record.{Record}
use Rattle.house.specs.declared.Record.TheVariants.{Packet, Gap}
use Rattle.receiver.specs.Call.{fresh_of, pending_of}
use Rattle.receiver.specs.State.{Able}
use Rattle.receiver.specs.Tp.{Setting, Stand, Input, tp_in, gap_told}
use Rattle.receiver.specs.declared.Stamp.{Stamp}
use Rattle.receiver.specs.declared.Place.{Place}
use Rattle.indexing.specs.Lines.{Line}
use Rattle.index_loop.specs.Advancing.{Reached, Advances, begun, takes, reads}
use Rattle.index_loop.specs.declared.Task.{Task}
use Rattle.index_loop.specs.declared.Task.TheVariants.{Index}
use Rattle.indexed.specs.Index.{start_stamp, behind, behind_all, fresh, packets, record_of, stand_at, since_of, index_of}
use Rattle.indexed.specs.File.{lines_text, top_of, grown_lines}

-- "lists nothing twice": the records before the one with the number `covered` are only read
abbrev pub lines_since : ℕ → Setting → Stamp → Stand → List Input → List Line
lines_since covered s p t [] = []
lines_since covered s p t (x ∷ xs) =
    cond (ltb p.number covered) [] (packets (record_of s p t x).0) ++ lines_since covered s (behind p x) (record_of s p t x).1 xs

-- ---- the recording, and what is read of it

-- its whole records, one behind the other, from one byte of it to another
abbrev pub Records : List ℕ → ℕ → List Input → ℕ → Type 0
Records recording i [] k = i ≡ k
Records recording i (tp_in d ∷ xs) k =
    (at_hand Listing (drop i recording) ≡ Ok (Some (Packet (length d)))) × ((data_in (Packet (length d)) (drop i recording) ≡ d) × Records recording (i + 8 + length d) xs k)
Records recording i (gap_told ∷ xs) k = (at_hand Listing (drop i recording) ≡ Ok (Some Gap)) × Records recording (i + 8) xs k

-- the stretch of a block is the recording's, so many bytes of which were before the block
abbrev pub Shows : List ℕ → List ℕ → Unread → Type 0
Shows recording d u = unread_in d u.from u.till ≡ unread_in (drop u.gone recording) u.from u.till

-- ASSUMED of the operating system: what it reads at a byte of the recording are the recording's bytes from there on
abbrev pub Of : (recording : List ℕ) {task : Task} {a b : Reached} → Advances task a b → Type 0
Of recording begun = Unit {0}
Of recording (takes k t) = Of recording k
Of recording (reads {v = v} {d = d} k g) = Of recording k × Shows recording d v

-- ---- the output block

abbrev pub held_in : Block → List ℕ
held_in o = take o.at o.bytes

-- one line more has room, so that each line before had: a line has at most 93 bytes. c7index stops 4,096 bytes before the block's end
abbrev pub Roomy : Block → Type 0
Roomy o = o.at + 93 ≤ length o.bytes

-- what is held is written out
abbrev pub emptied : Reached → Reached
emptied b = record {
  block = b.block;
  unread = b.unread;
  number = b.number;
  receiver = b.receiver;
  room = b.room;
  out = record { bytes = b.out.bytes; at = 0 };
}

-- ---- the loop

-- at the record p, with a fresh receiver of these settings and its room; nothing is read, and nothing held
pub record Begins (s : Setting) (p : Stamp) (a : Reached) : Type 0 where
  pub receiver : a.receiver ≡ fresh_of s.size s.stream s.room 0
  pub able : Able a.receiver
  pub room : length a.room ≡ s.room
  pub number : a.number ≡ p.number
  pub unread : a.unread ≡ record { gone = p.byte; from = 0; till = 0 }
  pub out : a.out.at ≡ 0

-- THE LOOP of c7index over a recording, from its beginning on: it advances, and appends what is then held
pub data Writes (covered : ℕ) (recording : List ℕ) (a : Reached) : List ℕ → Reached → Type 0 where
  starts : Writes covered recording a [] a
  onward : {w : List ℕ} {b c : Reached} → Writes covered recording a w b → (k : Advances (Index covered) b c) → Of recording k → Roomy c.out
      → Writes covered recording a (w ++ held_in c.out) (emptied c)

-- the byte of the recording where it stands
abbrev pub byte_at : Reached → ℕ
byte_at b = b.unread.gone + b.unread.from

-- where no number of 64 bits was too small
abbrev pub Counted : Reached → Type 0
Counted b = (b.number < 0xFFFFFFFFFFFFFFFF) × (byte_at b < 0xFFFFFFFFFFFFFFFF)

-- ---- what was written

-- what `receiver::pending` tells, as line 0 names it
abbrev pub stamp_by : Option Place → Option Stamp
stamp_by None = None
stamp_by (Some g) = Some g.stamp

-- between two TPs: the lines of the records taken, the next record's number and byte, and where what is unfinished began
pub record Written (covered : ℕ) (s : Setting) (recording : List ℕ) (p : Stamp) (w : List ℕ) (b : Reached) : Type 0 where
  pub inputs : List Input
  pub records : Records recording p.byte inputs (byte_at b)
  pub next : behind_all p inputs ≡ record { number = b.number; byte = byte_at b }
  pub since : stamp_by (pending_of b.receiver.walk) ≡ since_of (stand_at s p fresh inputs)
  pub lines : w ≡ lines_text (lines_since covered s p fresh inputs)

-- within a TP, where the output block was full: its first lines too, and the others are still to come
pub record Within (covered : ℕ) (s : Setting) (recording : List ℕ) (p : Stamp) (w : List ℕ) (b : Reached) : Type 0 where
  pub inputs : List Input
  pub records : Records recording p.byte inputs (byte_at b)
  pub next : behind_all p inputs ≡ record { number = b.number; byte = byte_at b }
  pub size : ℕ
  pub tp_at_hand : at_hand Listing (drop (byte_at b) recording) ≡ Ok (Some (Packet size))
  pub first : List ℕ
  pub others : List ℕ
  pub begun : w ≡ lines_text (lines_since covered s p fresh inputs) ++ first
  pub whole : w ++ others ≡ lines_text (lines_since covered s p fresh (inputs ++ tp_in (data_in (Packet size) (drop (byte_at b) recording)) ∷ []))

-- no whole record is at hand: the recording ends there or cannot be read, or a bad record follows
abbrev pub Ended : Reached → Type 0
Ended b = (r : Record) → at_hand Listing (stretch b.block b.unread) ≡ Ok (Some r) → ⊥

-- THE STATEMENT: wherever it stops, and between two TPs where it ended
abbrev pub Lists : Type 0
Lists = (covered : ℕ) (s : Setting) (recording : List ℕ) (p : Stamp) (a b : Reached) (w : List ℕ) → Begins s p a → Writes covered recording a w b → Counted b
    → Written covered s recording p w b ⊎ Within covered s recording p w b

abbrev pub ListsAll : Type 0
ListsAll = (covered : ℕ) (s : Setting) (recording : List ℕ) (p : Stamp) (a b : Reached) (w : List ℕ) → Begins s p a → Writes covered recording a w b → Counted b
    → Ended b → Written covered s recording p w b

-- ---- made and grown

-- "growing reads from there, else from the first new record"
abbrev pub reads_from : Option Stamp → Stamp → Stamp
reads_from None p = p
reads_from (Some q) p = q

-- the index of the records xs and of new ones: what was written is what a growth adds, and with it these are its lines; the first record that
-- is not covered, and the one that line 0 names
pub record Grew (s : Setting) (recording : List ℕ) (xs : List Input) (w : List ℕ) (b : Reached) : Type 0 where
  pub new : List Input
  pub records : Records recording start_stamp.byte (xs ++ new) (byte_at b)
  pub next : (index_of s (xs ++ new)).next ≡ record { number = b.number; byte = byte_at b }
  pub since : (index_of s (xs ++ new)).since ≡ stamp_by (pending_of b.receiver.walk)
  pub added : w ≡ lines_text (grown_lines s (top_of (index_of s xs)) (xs ++ new))
  pub lines : lines_text (index_of s (xs ++ new)).lines ≡ lines_text (index_of s xs).lines ++ w

-- THE STATEMENT for c7index: from the index of the recording's records xs, of none where it is made, until it ended, the
-- covered records behind it
abbrev pub Grows : Type 0
Grows = (s : Setting) (recording : List ℕ) (xs : List Input) (a b : Reached) (w : List ℕ) → Records recording start_stamp.byte xs (index_of s xs).next.byte
    → Begins s (reads_from (index_of s xs).since (index_of s xs).next) a → Writes (index_of s xs).next.number recording a w b → Counted b
    → Ended b → (index_of s xs).next.number ≤ b.number → Grew s recording xs w b
