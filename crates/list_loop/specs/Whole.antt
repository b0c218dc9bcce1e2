-- WHAT THE LISTING PROGRAM LISTS: its output blocks, one behind the other, hold the listing of the records taken from its input
-- (document 01, 'Listing'), over what `list_loop::turns` promises of each block. Assumes nothing.
use Rattle.std.specs.Prelude.{ℕ, ◌≡◌, ◌⊎◌, List, [], ◌∷◌, ◌++◌, length, take}
use Rattle.house.specs.Series.{unread_in, Item, Taken}
use Rattle.house.specs.Slices.{at_hand, data_in}
use Rattle.std.specs.Prelude.{Some, Ok}
use Rattle.house.specs.declared.Place.TheVariants.{Listing}
use Rattle.house.specs.declared.Record.{Record}
use Rattle.house.specs.declared.Record.TheVariants.{Setup, Ordinary, Low, Draw, Packet, Gap}
use Rattle.listing.specs.Lines.{header_line}
use Rattle.listing.specs.Recordings.{listed}
use Rattle.receiver.specs.Call.{fresh_of}
use Rattle.receiver.specs.declared.Receiver.{Receiver}
use Rattle.receiver.specs.State.{Able}
use Rattle.receiver.specs.Tp.{Setting, Input, tp_in, gap_told}
use Rattle.list_loop.specs.Running.{Listed}
use Rattle.list_loop.specs.declared.Run.{Run}

-- "4 TP, 5 gap": what the receiver is handed, or told; the other kinds are not read here
abbrev pub input_in : Record → List ℕ → Input
input_in (Packet n) d = tp_in d
input_in Setup d = gap_told
input_in (Ordinary c n) d = gap_told
input_in (Low c n) d = gap_told
input_in Draw d = gap_told
input_in Gap d = gap_told

abbrev pub inputs_in : List Item → List Input
inputs_in [] = []
inputs_in (x ∷ xs) = input_in x.said x.bytes ∷ inputs_in xs

-- the settings that a receiver was opened with
abbrev pub setting_of : Receiver → Setting
setting_of r = record { size = r.size; stream = r.stream; room = r.limit }

-- THE LOOP BEGINS behind the setup: with a fresh receiver of these settings and its room, no TP done, and the header line held
pub record Begins (s : Setting) (first : Run) (m out : List ℕ) : Type 0 where
  pub receiver : first.receiver ≡ fresh_of s.size s.stream s.room 0
  pub able : Able first.receiver
  pub room : length m ≡ s.room
  pub done : first.done ≡ 0
  pub held : take first.at out ≡ header_line

-- IT GOES ON FROM BLOCK TO BLOCK: the records of an input block are taken; then the output block is emptied, and the next input block
-- begins with the bytes left unread. Of the bytes of the input so far these are unread; this is what the output blocks held, one
-- behind the other
pub data Goes (s : Setting) : List ℕ → List ℕ → List ℕ → Run → List ℕ → Type 0 where
  first : {till : ℕ} {block m out m' out' : List ℕ} {a r : Run} → Begins s a m out → Listed till block a m out r m' out'
      → Goes s (unread_in block a.from till) (unread_in block r.from till) (take r.at out') r m'
  next : {input unread held : List ℕ} {till from : ℕ} {block m out m' out' : List ℕ} {b r : Run} → Goes s input unread held b m → (more : List ℕ)
      → unread_in block from till ≡ unread ++ more
      → Listed till block (record { receiver = b.receiver; done = b.done; ten = b.ten; at = 0; from = from }) m out r m' out'
      → Goes s (input ++ more) (unread_in block r.from till) (held ++ take r.at out') r m'

-- where the output block is full within a TP: its first lines are held, and the others are still to come
pub record Within (s : Setting) (records : List Item) (unread held : List ℕ) : Type 0 where
  pub size : ℕ
  pub tp_at_hand : at_hand Listing unread ≡ Ok (Some (Packet size))
  pub first : List ℕ
  pub others : List ℕ
  pub begun : held ≡ listed s (inputs_in records) ++ first
  pub whole : held ++ others ≡ listed s (inputs_in records ++ tp_in (data_in (Packet size) unread) ∷ [])

-- WHAT IS HELD is the listing of the records, from the input's first on, that are no longer unread; or it ends within the next TP
pub record Held (s : Setting) (input unread held : List ℕ) : Type 0 where
  pub records : List Item
  pub taken : Taken Listing input records unread
  pub listing : (held ≡ listed s (inputs_in records)) ⊎ Within s records unread held
