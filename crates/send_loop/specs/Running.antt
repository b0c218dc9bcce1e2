-- What holds from record to record and from block to block: the sender can be called again, a TP's record has room in the output block, and
-- what is held is what the definition of a script writes for the records taken. Assumes nothing.
use Rattle.std.specs.Prelude.{ℕ, ◌+◌, ◌≤◌, ◌≡◌, List, ◌++◌, length, take}
use Rattle.house.specs.declared.Place.TheVariants as P
use Rattle.house.specs.Series.{Item, Taken}
use Rattle.sender.specs.Opening.{Sound}
use Rattle.sender.specs.Run.{World}
use Rattle.sending.specs.Scripts.{sent_by, left_by}
use Rattle.send_loop.specs.declared.Buffers.{Buffers}
use Rattle.send_loop.specs.declared.Sending.{Sending}

pub record Ready (p : Sending) (b : Buffers) : Type 0 where
  pub sound : Sound p.sender
  -- a TP's record has room wherever the block is not full
  pub room : 61448 + p.tp ≤ length b.out

-- the sender and its queues
abbrev pub world_of : Sending → Buffers → World
world_of p b = record { sender = p.sender; low = b.low; ordinary = b.ordinary }

-- WHAT IS HELD: behind what the output block held stands what these records write, which were taken from the start of the bytes s and left
-- t; and the sender and its queues are those that they leave
pub record Sent (first : Sending) (lent : Buffers) (s : List ℕ) (p : Sending) (b : Buffers) (t : List ℕ) : Type 0 where
  pub tp : p.tp ≡ first.tp
  pub records : List Item
  pub taken : Taken P.Sending s records t
  pub held : take p.at b.out ≡ take first.at lent.out ++ sent_by first.tp (world_of first lent) records
  pub world : world_of p b ≡ left_by first.tp (world_of first lent) records
