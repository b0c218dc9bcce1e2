-- From block to block of a recording: the records at hand are taken, and where the next is not whole it is read anew with what follows it.
-- The operating system decides which bytes those are, so no contract says them. Assumes nothing.
use Rattle.std.specs.Prelude.{ℕ, ◌≡◌, List, Some, None, Ok, Err}
use Rattle.block.specs.Block.{Block}
use Rattle.console.specs.Taking.{begin_of, stretch}
use Rattle.console.specs.declared.Unread.{Unread}
use Rattle.house.specs.Slices.{at_hand}
use Rattle.house.specs.declared.Fault.{Fault}
use Rattle.house.specs.declared.Place.TheVariants.{Listing}
use Rattle.house.specs.declared.Record.{Record}
use Rattle.receiver.specs.declared.Receiver.{Receiver}
use Rattle.index_loop.specs.declared.Stop.{Stop}
use Rattle.index_loop.specs.declared.Stop.TheVariants.{More, End, Bad, Unreadable}
use Rattle.index_loop.specs.declared.Task.{Task}
use Rattle.index_loop.specs.declared.Walk.{Walk}
use Rattle.index_loop.specs.Walking.{Standing, Takes, block_of}

-- before the stretch u of the block d, whose records are taken as far as they are whole: a whole one is at hand all the same; a bad one; or part of one,
-- which is read anew at its byte of the recording, unless the recording ends there or cannot be read
pub data GoesOn (d : List ℕ) (u : Unread) : Stop → Unread → List ℕ → Type 0 where
  whole : {r : Record} → at_hand Listing (stretch d u) ≡ Ok (Some r) → GoesOn d u More u d
  bad : {f : Fault} → at_hand Listing (stretch d u) ≡ Err f → GoesOn d u (Bad f) u d
  read : {n : ℕ} {b : List ℕ} → at_hand Listing (stretch d u) ≡ Ok None → GoesOn d u More (record { gone = begin_of u; from = 0; till = n }) b
  ended : {b : List ℕ} → at_hand Listing (stretch d u) ≡ Ok None → GoesOn d u End u b
  unreadable : {b : List ℕ} → at_hand Listing (stretch d u) ≡ Ok None → GoesOn d u Unreadable u b

-- where part of a record is at hand
abbrev pub ReadsOn : List ℕ → Unread → Stop → Unread → List ℕ → Type 0
ReadsOn d u s v b = at_hand Listing (stretch d u) ≡ Ok None → GoesOn d u s v b

-- where reading stands: the block with its stretch that is not yet taken, before the record with this number, with receiver, room and
-- output block
pub record Reached : Type 0 where
  pub block : List ℕ
  pub unread : Unread
  pub number : ℕ
  pub receiver : Receiver
  pub room : List ℕ
  pub out : Block

abbrev pub reached : Walk → List ℕ → List ℕ → List ℕ → Reached
reached w d m out = record { block = d; unread = w.unread; number = w.record; receiver = w.receiver; room = m; out = block_of out w.at }

abbrev pub stands_at : Reached → Standing
stands_at a = record { from = a.unread.from; number = a.number; receiver = a.receiver; room = a.room; out = a.out }

-- BLOCK BY BLOCK
pub data Advances (task : Task) (a : Reached) : Reached → Type 0 where
  begun : Advances task a a
  takes : {b : Reached} {s : Standing} → Advances task a b → Takes task b.unread.gone b.unread.till b.block (stands_at b) s
      → Advances task a (record { block = b.block; unread = record { gone = b.unread.gone; from = s.from; till = b.unread.till }; number = s.number; receiver = s.receiver; room = s.room; out = s.out })
  reads : {b : Reached} {v : Unread} {d : List ℕ} → Advances task a b → GoesOn b.block b.unread More v d
      → Advances task a (record { block = d; unread = v; number = b.number; receiver = b.receiver; room = b.room; out = b.out })

-- why no more is read of the stretch u of d, which leaves the block d'
abbrev pub StopsAt : List ℕ → Unread → Stop → List ℕ → Type 0
StopsAt d u More d' = d' ≡ d
StopsAt d u End d' = at_hand Listing (stretch d u) ≡ Ok None
StopsAt d u (Bad f) d' = at_hand Listing (stretch d u) ≡ Err f
StopsAt d u Unreadable d' = at_hand Listing (stretch d u) ≡ Ok None

-- from walk to walk; in the last block nothing more came in unless there is more
pub record Advanced (task : Task) (first : Walk) (d m o : List ℕ) (r : Walk) (d' m' o' : List ℕ) : Type 0 where
  pub last : List ℕ
  pub taken : Advances task (reached first d m o) (reached r last m' o')
  pub stop : StopsAt last r.unread r.stop d'

-- before the record n, whose first byte this is: nothing is read, and nothing held
pub record Starts (x : Receiver) (n byte : ℕ) (w : Walk) : Type 0 where
  pub receiver : w.receiver ≡ x
  pub number : w.record ≡ n
  pub at : w.at ≡ 0
  pub unread : w.unread ≡ record { gone = byte; from = 0; till = 0 }
  pub stop : w.stop ≡ More

-- the same walk with nothing held
pub record Empties (a w : Walk) : Type 0 where
  pub receiver : w.receiver ≡ a.receiver
  pub number : w.record ≡ a.record
  pub at : w.at ≡ 0
  pub unread : w.unread ≡ a.unread
  pub stop : w.stop ≡ a.stop
