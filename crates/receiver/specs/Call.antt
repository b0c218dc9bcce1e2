-- What the public functions promise: an opening, one call, a told gap, and the stretch that a find names.
-- Assumes nothing.
use Rattle.std.specs.Prelude.{ℕ, ◌-◌, ◌%◌, ◌≤◌, ◌≡◌, Bool, true, false, cond, List, [], ltb, leb, eqb, length, take, drop, get_or, None, Some, Option}
use Rattle.digits.specs.Digits.{number}
use Rattle.wire.specs.Reading.{tp_number_in, stream_of, version_of}
use Rattle.receiver.specs.declared.About.{About}
use Rattle.receiver.specs.declared.Find.{Find}
use Rattle.receiver.specs.declared.Find.TheVariants as F
use Rattle.receiver.specs.declared.Place.{Place}
use Rattle.receiver.specs.declared.Receiver.{Receiver}
use Rattle.receiver.specs.declared.Stamp.{Stamp}
use Rattle.receiver.specs.declared.Stage.{Stage}
use Rattle.receiver.specs.declared.Stage.TheVariants.{Fresh, Low, Due, Plain}
use Rattle.receiver.specs.declared.Step.{Step}
use Rattle.receiver.specs.declared.low.Lows.{Lows}
use Rattle.receiver.specs.declared.low.Lows.TheVariants as L
use Rattle.receiver.specs.declared.stages.Stamps.{Stamps}
use Rattle.receiver.specs.declared.walk.Kept.{Kept}
use Rattle.receiver.specs.declared.walk.Phase.{Phase}
use Rattle.receiver.specs.declared.walk.Phase.TheVariants.{Lost, Head, Judged, Body}
use Rattle.receiver.specs.declared.walk.Walk.{Walk}
use Rattle.receiver.specs.Place.{place_at, start_of, placed, own_of, count_of}
use Rattle.receiver.specs.Frame.{Frame, lost, Event}
use Rattle.receiver.specs.Forecast.{Start, outset, dropped}
use Rattle.receiver.specs.Join.{Held, free, held, Finding, notice, low, ordinary}
use Rattle.receiver.specs.Low.{Tag, wire}
use Rattle.receiver.specs.Pull.{Pulled}
use Rattle.receiver.specs.Lows.{lows_of}
use Rattle.receiver.specs.State.{frame_of, todo_of, held_of, keeps, pull_of, from, Able}

-- document 01's number for each answer; none for a packet, and where nothing is left
abbrev pub find_number : Find → Option ℕ
find_number F.Nothing = None
find_number F.Refused = Some 1
find_number (F.Notice n) = Some n
find_number (F.Low c start n) = None
find_number (F.Ordinary c n) = None

-- "A low-latency packet comes back as its stretch of the transport packet, an ordinary one as its stretch of the room."
abbrev pub data_of : Find → List ℕ → List ℕ → List ℕ
data_of F.Nothing tp m = []
data_of F.Refused tp m = []
data_of (F.Notice n) tp m = []
data_of (F.Low c start n) tp m = take n (drop start tp)
data_of (F.Ordinary c n) tp m = take n m

-- an answer, its number, its data, the total repaired that it carries: "a notice 0", as none and 1; and its place
pub record Said : Type 0 where
  pub find : Find
  pub number : Option ℕ
  pub bytes : List ℕ
  pub repaired : ℕ
  pub place : Place

abbrev pub said_of : Find → About → List ℕ → List ℕ → Said
said_of f a tp m = record { find = f; number = find_number f; bytes = data_of f tp m; repaired = a.repaired; place = a.at }

abbrev pub says : Find → Option ℕ → Place → Said
says f n p = record { find = f; number = n; bytes = []; repaired = 0; place = p }

abbrev pub hands : Find → Tag → List ℕ → Said
hands f t d = record { find = f; number = None; bytes = d; repaired = t.repaired; place = t.at }

-- "the same TP and room are lent until one says none, which ends the TP"; after 1 and 6 to 9 no none follows
abbrev pub lasts : Find → Bool
lasts F.Nothing = false
lasts F.Refused = false
lasts (F.Notice n) = ltb 9 n
lasts (F.Low c start n) = true
lasts (F.Ordinary c n) = true

-- what a call says, where it leaves the receiver, and the room's bytes
pub record Gave : Type 0 where
  pub said : Said
  pub size : ℕ
  pub stream : ℕ
  pub limit : ℕ
  pub count : ℕ
  pub stage : Stage
  pub at : ℕ
  pub frame : Frame wire
  pub todo : List (Event wire)
  pub held : Held wire
  pub kept : ℕ
  pub room : List ℕ

abbrev pub leave : Receiver → Stage → ℕ → Frame wire → List (Event wire) → Held wire → ℕ → Said → List ℕ → Gave
leave r stage at f es s k a m = record {
  said = a;
  size = r.size;
  stream = r.stream;
  limit = r.limit;
  count = r.count;
  stage = stage;
  at = at;
  frame = f;
  todo = es;
  held = s;
  kept = k;
  room = m;
}

-- the same receiver in this stage at this place
abbrev pub moved : Receiver → Stage → ℕ → Said → List ℕ → Gave
moved r stage at a m =
    leave r stage at (frame_of r.walk.began r.walk.phase) (todo_of r.walk.began r.walk.phase) (held_of r.walk.kept m)
    (keeps r.walk.kept) a m

-- 1, 6, 8: "all unchanged"
abbrev pub unchanged : Receiver → Stamp → Find → ℕ → List ℕ → Gave
unchanged r t f n m = moved r r.stage r.walk.at (says f (Some n) (start_of t)) m

-- 7, 9: "out of step, TP dropped"
abbrev pub gone : Receiver → Stamp → ℕ → List ℕ → Gave
gone r t n m = leave r Fresh 0 lost [] free 0 (says (F.Notice n) (Some n) (start_of t)) m

abbrev pub holds : Held wire → ℕ
holds free = 0
holds (held t d) = length d

abbrev pub pulled : Receiver → Pulled wire → Stage → ℕ → Said → Gave
pulled r p stage at a = leave r stage at p.frame p.todo p.held (holds p.held) a p.room

-- AMONG ORDINARY BYTES, read on up to a find; none ends the TP (reassembly gives no low-latency packet)
abbrev pub ordinary_by : Option (Finding wire) → Receiver → Stamp → Pulled wire → Gave
ordinary_by None r n p = pulled r p Fresh 0 (says F.Nothing None (start_of n))
ordinary_by (Some (notice k g)) r n p = pulled r p Plain p.at (says (F.Notice k) (Some k) g)
ordinary_by (Some (low t d)) r n p = pulled r p Plain p.at (hands (F.Low t.content 0 (length d)) t d)
ordinary_by (Some (ordinary t d)) r n p = pulled r p Plain p.at (hands (F.Ordinary t.content (length d)) t d)

abbrev pub ordinary_call : Receiver → Stamp → Pulled wire → Gave
ordinary_call r n p = ordinary_by p.find r n p

-- the same walk at another place
abbrev pub walk_to : Receiver → ℕ → Walk
walk_to r at = record { at = at; phase = r.walk.phase; began = r.walk.began; kept = r.walk.kept }

-- setting about them from this place on
abbrev pub start_call : Receiver → Stamp → ℕ → Start wire → List ℕ → List ℕ → Gave
start_call r n at t tp m = ordinary_call r n (from (length m) n t (walk_to r at) tp m)

-- BEHIND THE LOW-LATENCY PART, which ends at this place, with this offset; the payload begins at place 4
unfoldable pub due_call : Receiver → Stamp → ℕ → ℕ → List ℕ → List ℕ → Gave
unfolding outset
due_call r n offset at tp m =
    start_call r n at (outset wire (start_of n) (frame_of r.walk.began r.walk.phase) offset (at - 4) (placed n at (drop at tp))) tp m

-- IN THE LOW-LATENCY PART. 11: "that LLEP not handed out; out of step, rest of TP dropped"
abbrev pub low_call : Lows → Receiver → Stamp → ℕ → List ℕ → List ℕ → Gave
low_call (L.Broken at) r n offset tp m = start_call r n at (dropped wire 11 (place_at n at) (placed n at (drop at tp))) tp m
low_call (L.End at) r n offset tp m = due_call r n offset at tp m
low_call (L.Gives f e i more at) r n offset tp m =
    moved r (cond more (Low offset) (Due offset)) at (said_of f (record { repaired = e; at = place_at n i }) tp m) m

-- AT THE PAYLOAD'S START, with a low-latency part or without
abbrev pub payload_call : Bool → Receiver → Stamp → ℕ → List ℕ → List ℕ → Gave
payload_call true r n offset tp m = low_call (lows_of tp 4) r n offset tp m
payload_call false r n offset tp m = due_call r n offset 4 tp m

-- by the TP's Golay word: "bit 11: low-latency part present; bits 10 to 0: offset"
abbrev pub word_call : Option ℕ → Receiver → Stamp → List ℕ → List ℕ → Gave
word_call None r n tp m = gone r n 9 m
word_call (Some w) r n tp m = payload_call (leb 2048 w) r n (w % 2048) tp m

-- a TP is counted at its first call
abbrev pub count_in : Stage → ℕ → ℕ
count_in Fresh n = count_of n
count_in (Low offset) n = n
count_in (Due offset) n = n
count_in Plain n = n

abbrev pub counted_of : Receiver → Receiver
counted_of r = record {
  size = r.size;
  stream = r.stream;
  limit = r.limit;
  count = count_in r.stage r.count;
  stage = r.stage;
  walk = r.walk;
}

-- A TP'S FIRST CALL: "the checks of .. 8, 7, 9 in this order"; c is r with this TP counted
unfoldable pub first_call : Receiver → Receiver → Stamps → List ℕ → List ℕ → Gave
unfolding due_call lows_of
first_call r c n tp m =
    cond (eqb (stream_of (get_or tp 0 0)) r.stream)
    (cond (eqb (version_of (get_or tp 0 0)) 0) (word_call (tp_number_in (number 0 (take 3 (drop 1 tp)))) c n.now tp m) (gone c n.now 7 m))
    (unchanged r n.before (F.Notice 8) 8 m)

abbrev pub stage_call : Stage → Receiver → Receiver → Stamps → List ℕ → List ℕ → Gave
stage_call Fresh r c n tp m = first_call r c n tp m
stage_call (Low offset) r c n tp m = low_call (lows_of tp r.walk.at) c n.now offset tp m
stage_call (Due offset) r c n tp m = due_call c n.now offset r.walk.at tp m
stage_call Plain r c n tp m = ordinary_call c n.now (pull_of (length m) n.now r.walk tp m)

-- THE CALL, by these stamps. "Later calls of a TP check only 1 and 6."
unfoldable pub call_as : Receiver → Stamps → List ℕ → List ℕ → Gave
unfolding first_call
call_as r n tp m =
    cond (eqb (length m) r.limit)
    (cond (eqb (length tp) r.size) (stage_call r.stage r (counted_of r) n tp m) (unchanged r n.before (F.Notice 6) 6 m))
    (unchanged r n.before F.Refused 1 m)

-- by the receiver's own count, and by a caller's stamp for the TP
abbrev pub stamps_of : Receiver → Stamps
stamps_of r = record { before = own_of r.count; now = own_of (count_in r.stage r.count) }

abbrev pub always : Stamp → Stamps
always n = record { before = n; now = n }

unfoldable pub call_of : Receiver → List ℕ → List ℕ → Gave
unfolding call_as
call_of r tp m = call_as r (stamps_of r) tp m

-- what a step shows of itself, with the room's bytes behind it
unfoldable pub stepped : Step → List ℕ → List ℕ → Gave
stepped q tp m = moved q.receiver q.receiver.stage q.receiver.walk.at (said_of q.find q.about tp m) m

-- THE PROMISE of a call: answer, receiver and room are these, and the receiver can be called again
pub record Gives (g : Gave) (q : Step) (tp m : List ℕ) : Type 0 where
  pub same : stepped q tp m ≡ g
  pub able : Able q.receiver

-- "It starts out of step."
abbrev pub fresh_of : ℕ → ℕ → ℕ → ℕ → Receiver
fresh_of size stream limit count = record {
  size = size;
  stream = stream;
  limit = limit;
  count = count;
  stage = Fresh;
  walk = record { at = 0; phase = Lost; began = start_of (own_of 0); kept = None };
}

-- "Being told of a gap puts it out of step ..: the unfinished EP and the held fragments are dropped"; it ends the TP, and "doesn't
-- reset" the count
abbrev pub gap_of : Receiver → Receiver
gap_of r = fresh_of r.size r.stream r.limit r.count

-- where what is unfinished began: the packet that is kept, else the header or EP under way
abbrev pub under_way : Phase → Place → Option Place
under_way Lost g = None
under_way (Head n w) g = cond (eqb n 0) None (Some g)
under_way (Judged h) g = Some g
under_way (Body h n) g = Some g

abbrev pub pending_by : Option Kept → Phase → Place → Option Place
pending_by None p g = under_way p g
pending_by (Some k) p g = Some k.began

abbrev pub pending_of : Walk → Option Place
pending_of w = pending_by w.kept w.phase w.began

-- document 01's number for an opening's answer
abbrev pub open_number : Option Receiver → Option ℕ
open_number None = Some 1
open_number (Some r) = None

-- an opening's answer and its number
pub record Answered : Type 0 where
  pub opened : Option Receiver
  pub number : Option ℕ

abbrev pub answered_of : Option Receiver → Answered
answered_of q = record { opened = q; number = open_number q }

-- 1: "a setting or buffer outside its limits at opening: nothing opened"
abbrev pub outside : Answered
outside = record { opened = None; number = Some 1 }

-- "Opened with TP length and stream in the sender's limits and a room for assembly, at most 131,072 bytes."
abbrev pub opening_of : ℕ → ℕ → ℕ → Answered
opening_of size stream limit =
    cond (ltb size 16) outside
    (cond (ltb 2051 size) outside
    (cond (ltb 15 stream) outside
    (cond (ltb 131072 limit) outside (record { opened = Some (fresh_of size stream limit 0); number = None }))))

-- what is opened can be called
abbrev pub AbleIf : Option Receiver → Type 0
AbleIf None = 0 ≤ 0
AbleIf (Some r) = Able r

-- THE PROMISE of an opening
pub record OpenedAs (size stream limit : ℕ) (q : Option Receiver) : Type 0 where
  pub same : answered_of q ≡ opening_of size stream limit
  pub able : AbleIf q
