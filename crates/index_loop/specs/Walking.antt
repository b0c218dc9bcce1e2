-- What holds from find to find, from record to record and from block to block: the receiver can be called again, what is taken
-- lies within the input block, what is put for a find, and that what is put and where receiver and room are left is what the calls
-- give that the records taken ask for. Assumes nothing.
use Rattle.std.specs.Prelude.{ℕ, ◌+◌, ◌≤◌, min, ◌≡◌, true, false, ◌⊎◌, List, length, Some, Ok}
use Rattle.block.specs.Block.{Block, put}
use Rattle.house.specs.Series.{unread_in}
use Rattle.house.specs.Slices.{at_hand, data_in}
use Rattle.house.specs.declared.Place.TheVariants.{Listing}
use Rattle.house.specs.declared.Record.{Record}
use Rattle.house.specs.declared.Record.TheVariants as R
use Rattle.receiver.specs.State.{Able}
use Rattle.receiver.specs.Call.{call_as, always, data_of, Gives, gap_of, lasts as Call·lasts}
use Rattle.receiver.specs.Lanes.{call_by}
use Rattle.receiver.specs.declared.Receiver.{Receiver}
use Rattle.receiver.specs.declared.Stamp.{Stamp}
use Rattle.receiver.specs.declared.Place.{Place}
use Rattle.receiver.specs.declared.Find.{Find}
use Rattle.receiver.specs.declared.Step.{Step}
use Rattle.indexing.specs.Lines.{new_text}
use Rattle.jumping.specs.Wanting.{wanted_of}
use Rattle.console.specs.declared.Unread.{Unread}
use Rattle.index_loop.specs.declared.Task.{Task}
use Rattle.index_loop.specs.declared.Task.TheVariants.{Index, Seek}
use Rattle.index_loop.specs.declared.Went.{Went}
use Rattle.index_loop.specs.declared.Run.{Run}
use Rattle.index_loop.specs.declared.Walk.{Walk}

-- what is put for a find of record n that began at this place, with this data: its line in the index, or its record if it is sought
abbrev pub text_of : Task → ℕ → Place → Find → List ℕ → List ℕ
text_of (Index covered) n p f d = new_text covered n p f
text_of (Seek w) n p f d = wanted_of w p f d

-- one find: what the call of the receiver gave, with the record's stamp, is what is put
pub record Found (t : Task) (r : Receiver) (s : Stamp) (tp room out : List ℕ) (at : ℕ) (w : Went) (room' out' : List ℕ) : Type 0 where
  pub able : Able w.receiver
  pub step : Step
  pub gives : Gives (call_as r (always s) tp room) step tp room'
  pub receiver : w.receiver ≡ step.receiver
  pub lasts : w.lasts ≡ Call·lasts step.find
  pub text : record { bytes = out'; at = w.at } ≡ put out at (text_of t s.number step.about.at step.find (data_of step.find tp room'))

-- behind a record with n bytes of data, or still before it
pub record Onward (first : Run) (n : ℕ) (r : Run) : Type 0 where
  pub able : Able r.receiver
  pub from : first.from ≤ r.from
  pub end : r.from ≤ first.from + 8 + n

-- before the records of an input block of b bytes
pub record Ready (r : Run) (till b : ℕ) : Type 0 where
  pub able : Able r.receiver
  pub from : r.from ≤ till
  pub end : till ≤ b

-- behind them
pub record Ahead (first : Run) (till : ℕ) (r : Run) : Type 0 where
  pub able : Able r.receiver
  pub from : first.from ≤ r.from
  pub end : r.from ≤ till

-- a stretch lies within a block of b bytes
pub record Lies (b : ℕ) (u : Unread) : Type 0 where
  pub from : u.from ≤ u.till
  pub end : u.till ≤ b

-- between two calls
pub record Walked (b : ℕ) (w : Walk) : Type 0 where
  pub able : Able w.receiver
  pub lies : Lies b w.unread

-- ---- what is put, and where receiver and room are left

-- so much of an output block is held
abbrev pub block_of : List ℕ → ℕ → Block
block_of d at = record { bytes = d; at = at }

-- what a step of the call puts into an output block
abbrev pub puts : Task → Stamp → List ℕ → Step → List ℕ → Block → Block
puts task t tp q m o = put o.bytes o.at (text_of task t.number q.about.at q.find (data_of q.find tp m))

-- calls on a TP by this stamp, behind each of which it has more to give: from this receiver, room and output block to those
pub data Hears (task : Task) (t : Stamp) (tp : List ℕ) (r : Receiver) (m : List ℕ) (o : Block) : Receiver → List ℕ → Block → Type 0 where
  nothing : Hears task t tp r m o r m o
  then : {r' : Receiver} {m' : List ℕ} {o' : Block} {q : Step} {m'' : List ℕ} → Hears task t tp r m o r' m' o'
      → Gives (call_by t r' tp m') q tp m'' → Call·lasts q.find ≡ true → Hears task t tp r m o q.receiver m'' (puts task t tp q m'' o')

-- and the call that ends it
pub data Ends (task : Task) (t : Stamp) (tp : List ℕ) (r : Receiver) (m : List ℕ) (o : Block) : Receiver → List ℕ → Block → Type 0 where
  last : {r' : Receiver} {m' : List ℕ} {o' : Block} {q : Step} {m'' : List ℕ} → Hears task t tp r m o r' m' o'
      → Gives (call_by t r' tp m') q tp m'' → Call·lasts q.find ≡ false → Ends task t tp r m o q.receiver m'' (puts task t tp q m'' o')

-- where it has more to give: the receiver that those calls leave, or one whose next call is the same
pub record Pauses (task : Task) (t : Stamp) (tp : List ℕ) (r : Receiver) (m : List ℕ) (o : Block) (r' : Receiver) (m' : List ℕ) (o' : Block) : Type 0 where
  pub left : Receiver
  pub hears : Hears task t tp r m o left m' o'
  pub alike : call_by t r' tp m' ≡ call_by t left tp m'

-- as `files::sum` adds
abbrev pub sum_of : ℕ → ℕ → ℕ
sum_of a b = min (a + b) 0xFFFFFFFFFFFFFFFF

-- a record's stamp: its number, and its first byte in the recording, so much of which was before the input block
abbrev pub stamp_of : ℕ → ℕ → ℕ → Stamp
stamp_of gone n from = record { number = n; byte = sum_of gone from }

-- a TP's record: it has more to give, or it is done
abbrev pub OnWith : Task → ℕ → List ℕ → Run → List ℕ → List ℕ → Run → List ℕ → List ℕ → Type 0
OnWith task gone tp first m out r m' out' =
    Hears task (stamp_of gone first.record first.from) tp first.receiver m (block_of out first.at) r.receiver m' (block_of out' r.at)
    × ((r.from ≡ first.from) × (r.record ≡ first.record))

abbrev pub DoneWith : Task → ℕ → List ℕ → Run → List ℕ → List ℕ → Run → List ℕ → List ℕ → Type 0
DoneWith task gone tp first m out r m' out' =
    Ends task (stamp_of gone first.record first.from) tp first.receiver m (block_of out first.at) r.receiver m' (block_of out' r.at)
    × ((r.from ≡ first.from + 8 + length tp) × (r.record ≡ sum_of first.record 1))

abbrev pub Heard : Task → ℕ → List ℕ → Run → List ℕ → List ℕ → Run → List ℕ → List ℕ → Type 0
Heard task gone tp first m out r m' out' = OnWith task gone tp first m out r m' out' ⊎ DoneWith task gone tp first m out r m' out'

-- a gap's record: told, and nothing put
pub record Told (first : Run) (m o : List ℕ) (r : Run) (m' o' : List ℕ) : Type 0 where
  pub receiver : r.receiver ≡ gap_of first.receiver
  pub room : m' ≡ m
  pub out : block_of o' r.at ≡ block_of o first.at
  pub from : r.from ≡ first.from + 8
  pub number : r.record ≡ sum_of first.record 1

-- what one record does; kinds other than 4 and 5 are not read here
abbrev pub Does : Record → Task → ℕ → List ℕ → Run → List ℕ → List ℕ → Run → List ℕ → List ℕ → Type 0
Does (R.Packet n) task gone d = Heard task gone d
Does R.Setup task gone d = Told
Does (R.Ordinary c n) task gone d = Told
Does (R.Low c n) task gone d = Told
Does R.Draw task gone d = Told
Does R.Gap task gone d = Told

-- where the loop stands: at this byte of the input block, before the record with this number, with this receiver, its room and the
-- output block
pub record Standing : Type 0 where
  pub from : ℕ
  pub number : ℕ
  pub receiver : Receiver
  pub room : List ℕ
  pub out : Block

abbrev pub standing : Run → List ℕ → List ℕ → Standing
standing r m out = record { from = r.from; number = r.record; receiver = r.receiver; room = m; out = block_of out r.at }

-- THE RECORDS of an input block, so much of the recording before it, from where the loop stands to where it then stands: each TP by
-- the calls that it asks for, each gap told. The last TP may have more to give.
pub data Takes (task : Task) (gone till : ℕ) (block : List ℕ) (a : Standing) : Standing → Type 0 where
  stays : Takes task gone till block a a
  pauses : {b : Standing} {n : ℕ} {r : Receiver} {m : List ℕ} {o : Block} → Takes task gone till block a b
      → at_hand Listing (unread_in block b.from till) ≡ Ok (Some (R.Packet n))
      → Pauses task (stamp_of gone b.number b.from) (data_in (R.Packet n) (unread_in block b.from till)) b.receiver b.room b.out r m o
      → Takes task gone till block a (record { from = b.from; number = b.number; receiver = r; room = m; out = o })
  ends : {b : Standing} {n : ℕ} {r : Receiver} {m : List ℕ} {o : Block} → Takes task gone till block a b
      → at_hand Listing (unread_in block b.from till) ≡ Ok (Some (R.Packet n))
      → Ends task (stamp_of gone b.number b.from) (data_in (R.Packet n) (unread_in block b.from till)) b.receiver b.room b.out r m o
      → Takes task gone till block a (record { from = b.from + 8 + n; number = sum_of b.number 1; receiver = r; room = m; out = o })
  gap : {b : Standing} → Takes task gone till block a b → at_hand Listing (unread_in block b.from till) ≡ Ok (Some R.Gap)
      → Takes task gone till block a (record { from = b.from + 8; number = sum_of b.number 1; receiver = gap_of b.receiver; room = b.room; out = b.out })

-- from run to run
abbrev pub Taken : Task → ℕ → ℕ → List ℕ → Run → List ℕ → List ℕ → Run → List ℕ → List ℕ → Type 0
Taken task gone till block first m out r m' out' = Takes task gone till block (standing first m out) (standing r m' out')
