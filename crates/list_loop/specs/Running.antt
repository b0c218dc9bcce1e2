-- What holds from find to find, from record to record and from block to block: the receiver can be called again, what it keeps of a complete
-- EP is its own, the ten is kept, what is taken lies within the input block, a line has room in the output block, no count overflows, and what
-- is held are the lines of the calls that the records taken ask for. Assumes nothing.
use Rattle.std.specs.Prelude.{ℕ, ◌+◌, ◌≤◌, ◌<◌, ◌≡◌, ◌⊎◌, List, [], ◌++◌, length, take}
use Rattle.house.specs.Series.{unread_in}
use Rattle.house.specs.Slices.{at_hand, data_in}
use Rattle.std.specs.Prelude.{Some, Ok}
use Rattle.house.specs.declared.Place.TheVariants.{Listing}
use Rattle.house.specs.declared.Record.{Record}
use Rattle.house.specs.declared.Record.TheVariants.{Setup, Ordinary, Low, Draw, Packet, Gap}
use Rattle.listing.specs.Hearing.{Hears, Ends}
use Rattle.listing.specs.Tens.{Kept}
use Rattle.receiver.specs.Call.{gap_of}
use Rattle.receiver.specs.State.{Able}
use Rattle.receiver.specs.Tracks.{Placed}
use Rattle.receiver.specs.declared.Receiver.{Receiver}
use Rattle.list_loop.specs.declared.Run.{Run}

-- before a record with n bytes of data, with an output block of o bytes
pub record Fit (r : Run) (n o : ℕ) : Type 0 where
  pub able : Able r.receiver
  pub placed : Placed r.receiver
  pub ten : Kept r.ten
  pub room : 61520 ≤ o
  pub held : r.at < 61440
  pub count : r.done < 18446744073709551615
  pub end : r.from + 8 + n ≤ 131072

-- behind it, or where the output block is full: no more TPs are new than bytes were taken, and something was taken or put
pub record Onward (first : Run) (n : ℕ) (r : Run) : Type 0 where
  pub able : Able r.receiver
  pub placed : Placed r.receiver
  pub ten : Kept r.ten
  pub held : first.at ≤ r.at
  pub from : first.from ≤ r.from
  pub end : r.from ≤ first.from + 8 + n
  pub count : r.done + first.from ≤ first.done + r.from
  pub progress : first.from + first.at < r.from + r.at

-- before the records of an input block of b bytes
pub record Ready (r : Run) (till b o : ℕ) : Type 0 where
  pub able : Able r.receiver
  pub placed : Placed r.receiver
  pub ten : Kept r.ten
  pub room : 61520 ≤ o
  pub from : r.from ≤ till
  pub end : till ≤ b
  pub size : b ≤ 131072
  pub count : r.done ≤ 9223372036854775808

-- the same with some of them taken: no more TPs are new than bytes were taken
pub record Midway (r : Run) (till b o : ℕ) : Type 0 where
  pub able : Able r.receiver
  pub placed : Placed r.receiver
  pub ten : Kept r.ten
  pub room : 61520 ≤ o
  pub from : r.from ≤ till
  pub end : till ≤ b
  pub size : b ≤ 131072
  pub count : r.done ≤ 9223372036854775808 + r.from

-- behind them
pub record Ahead (first : Run) (till : ℕ) (r : Run) : Type 0 where
  pub able : Able r.receiver
  pub placed : Placed r.receiver
  pub ten : Kept r.ten
  pub from : first.from ≤ r.from
  pub end : r.from ≤ till
  pub count : r.done + first.from ≤ first.done + r.from

-- ---- what is held

-- the TP at hand has more to give; or it is done
abbrev pub OnWith : List ℕ → Run → List ℕ → List ℕ → Run → List ℕ → Type 0
OnWith tp first m lines r m' =
    Hears tp (first.done + 1) first.receiver m lines r.receiver m' × ((r.from ≡ first.from) × (r.done ≡ first.done))

abbrev pub DoneWith : List ℕ → Run → List ℕ → List ℕ → Run → List ℕ → Type 0
DoneWith tp first m lines r m' =
    Ends tp (first.done + 1) first.receiver m lines r.receiver m' × ((r.from ≡ first.from + 8 + length tp) × (r.done ≡ first.done + 1))

-- a TP's record: behind what the output block held stand the lines of its calls
pub record Found (tp : List ℕ) (first : Run) (m out : List ℕ) (r : Run) (m' out' : List ℕ) : Type 0 where
  pub lines : List ℕ
  pub held : take r.at out' ≡ take first.at out ++ lines
  pub heard : OnWith tp first m lines r m' ⊎ DoneWith tp first m lines r m'

-- a gap's record: told, and no line
pub record Told (first : Run) (m o : List ℕ) (r : Run) (m' o' : List ℕ) : Type 0 where
  pub receiver : r.receiver ≡ gap_of first.receiver
  pub room : m' ≡ m
  pub out : o' ≡ o
  pub at : r.at ≡ first.at
  pub from : r.from ≡ first.from + 8
  pub done : r.done ≡ first.done

-- what one record does; kinds other than 4 and 5 are not read here
abbrev pub Does : Record → List ℕ → Run → List ℕ → List ℕ → Run → List ℕ → List ℕ → Type 0
Does (Packet n) d = Found d
Does Setup d = Told
Does (Ordinary c n) d = Told
Does (Low c n) d = Told
Does Draw d = Told
Does Gap d = Told

-- where the loop stands: at this byte of the input block, behind so many TPs, with this receiver and its room
pub record Standing : Type 0 where
  pub from : ℕ
  pub done : ℕ
  pub receiver : Receiver
  pub room : List ℕ

abbrev pub standing : Run → List ℕ → Standing
standing r m = record { from = r.from; done = r.done; receiver = r.receiver; room = m }

-- the lines of the records of an input block, from where the loop stands to where it then stands: "number, from 1, of the TP that gave
-- it (refused TPs count, gaps don't)". The last TP may have more to give.
pub data Lists (block : List ℕ) (till : ℕ) (a : Standing) : List ℕ → Standing → Type 0 where
  nothing : Lists block till a [] a
  hears : {ls ms : List ℕ} {b : Standing} {n : ℕ} {r : Receiver} {m : List ℕ} → Lists block till a ls b
      → at_hand Listing (unread_in block b.from till) ≡ Ok (Some (Packet n))
      → Hears (data_in (Packet n) (unread_in block b.from till)) (b.done + 1) b.receiver b.room ms r m
      → Lists block till a (ls ++ ms) (record { from = b.from; done = b.done; receiver = r; room = m })
  ends : {ls ms : List ℕ} {b : Standing} {n : ℕ} {r : Receiver} {m : List ℕ} → Lists block till a ls b
      → at_hand Listing (unread_in block b.from till) ≡ Ok (Some (Packet n))
      → Ends (data_in (Packet n) (unread_in block b.from till)) (b.done + 1) b.receiver b.room ms r m
      → Lists block till a (ls ++ ms) (record { from = b.from + 8 + n; done = b.done + 1; receiver = r; room = m })
  gap : {ls : List ℕ} {b : Standing} → Lists block till a ls b → at_hand Listing (unread_in block b.from till) ≡ Ok (Some Gap)
      → Lists block till a ls (record { from = b.from + 8; done = b.done; receiver = gap_of b.receiver; room = b.room })

-- WHAT IS HELD: behind what the output block held stand the lines of the records that were taken from the input block
pub record Listed (till : ℕ) (block : List ℕ) (first : Run) (m out : List ℕ) (r : Run) (m' out' : List ℕ) : Type 0 where
  pub lines : List ℕ
  pub taken : Lists block till (standing first m) lines (standing r m')
  pub held : take r.at out' ≡ take first.at out ++ lines
