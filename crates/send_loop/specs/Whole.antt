-- WHAT THE SENDING PROGRAM WRITES: its output blocks, one behind the other, hold the recording of the records taken from its input
-- (document 01, 'Records and programs'), over what `send_loop::turns` promises of each block. Assumes nothing.
use Rattle.std.specs.Prelude.{ℕ, ◌≡◌, List, ◌++◌, take}
use Rattle.house.specs.Records.{record_bytes}
use Rattle.house.specs.Series.{Item, Taken}
use Rattle.house.specs.declared.Place.TheVariants as P
use Rattle.house.specs.declared.Record.TheVariants.{Setup}
use Rattle.sender.specs.Run.{World}
use Rattle.sending.specs.Scripts.{recording, left_by}
use Rattle.send_loop.specs.Running.{world_of, Sent}
use Rattle.send_loop.specs.declared.Buffers.{Buffers}
use Rattle.send_loop.specs.declared.Sending.{Sending}

-- THE LOOP GOES ON FROM BLOCK TO BLOCK: it begins behind the setup, with its record held, and this sender and its queues; the records of
-- an input block are taken; then the output block is emptied, and the next input block begins with the bytes left unread. Of the
-- bytes of the input so far these are unread; this is what the output blocks held, one behind the other
pub data Goes (tp : ℕ) (setup : List ℕ) (w : World) : List ℕ → List ℕ → List ℕ → World → Type 0 where
  first : {s t : List ℕ} {a p : Sending} {d b : Buffers} → a.tp ≡ tp → world_of a d ≡ w → take a.at d.out ≡ record_bytes Setup setup
      → Sent a d s p b t → Goes tp setup w s t (take p.at b.out) (world_of p b)
  next : {input unread held t : List ℕ} {a p : Sending} {d b : Buffers} → Goes tp setup w input unread held (world_of a d) → (more : List ℕ)
      → a.tp ≡ tp → a.at ≡ 0 → Sent a d (unread ++ more) p b t
      → Goes tp setup w (input ++ more) t (held ++ take p.at b.out) (world_of p b)

-- before the records of a block: the loop begins, or goes on behind another block
pub data Comes (p : Sending) (b : Buffers) (s : List ℕ) : Type 0 where
  begins : (setup : List ℕ) → take p.at b.out ≡ record_bytes Setup setup → Comes p b s
  goes : {setup input unread held : List ℕ} {w : World} → Goes p.tp setup w input unread held (world_of p b) → (more : List ℕ)
      → s ≡ unread ++ more → p.at ≡ 0 → Comes p b s

-- behind them
pub record Went (p : Sending) (b : Buffers) (unread : List ℕ) : Type 0 where
  pub setup : List ℕ
  pub world : World
  pub input : List ℕ
  pub held : List ℕ
  pub goes_so : Goes p.tp setup world input unread held (world_of p b)

-- WHAT IS HELD is the recording of the records, from the input's first on, that are no longer unread
pub record Held (tp : ℕ) (setup : List ℕ) (w : World) (input unread held : List ℕ) (v : World) : Type 0 where
  pub records : List Item
  pub taken : Taken P.Sending input records unread
  pub recorded : held ≡ recording tp setup w records
  pub left : v ≡ left_by tp w records
