-- A whole transport packet, a told gap, and any number of both (document 01, "Receiver", and 6 to 11).
-- Assumes nothing.
use Rattle.std.specs.Prelude.{ℕ, ◌-◌, ◌%◌, Bool, true, false, cond, ◌&&◌, List, [], ◌∷◌, ◌++◌, eqb, leb, length, take, drop, get_or, None, Option, Some}
use Rattle.digits.specs.Digits.{number}
use Rattle.wire.specs.Reading.{tp_number_in, stream_of, version_of}
use Rattle.receiver.specs.declared.Stamp.{Stamp}
use Rattle.receiver.specs.declared.stages.Stamps.{Stamps}
use Rattle.receiver.specs.Place.{place_at, start_of, placed, own_of, count_of}
use Rattle.receiver.specs.Frame.{Frame, Event}
use Rattle.receiver.specs.Forecast.{Way, stays, drops, gaps, by_way, way_at}
use Rattle.receiver.specs.Join.{Finding, notice, Held, finds, holding}
use Rattle.receiver.specs.Low.{wire, Part, low_part}

-- the settings of an opening: TP length, stream, and how many bytes the room has
pub record Setting : Type 0 where
  pub size : ℕ
  pub stream : ℕ
  pub room : ℕ

-- what a TP brings: first the finds of its low-latency part (or 6, 8); then the events of its ordinary bytes; and the frame
pub record Heard : Type 0 where
  pub lows : List (Finding wire)
  pub told : List (Event wire)
  pub frame : Frame wire

-- what an input does: the finds of its low-latency part (or 6, 8), and its way
pub record Brings : Type 0 where
  pub lows : List (Finding wire)
  pub way : Way wire

-- 6, 8: "receiver, room unchanged"
abbrev pub refusing : ℕ → Stamp → Brings
refusing n t = record { lows = notice n (start_of t) ∷ []; way = stays }

-- 7, 9: "out of step, TP dropped"
abbrev pub dropping : ℕ → Stamp → Brings
dropping n t = record { lows = []; way = drops n (start_of t) }

-- "Being told of a gap puts it out of step"
abbrev pub gap_brings : Brings
gap_brings = record { lows = []; way = gaps }

-- behind the low-latency part of a payload. 11: "out of step, rest of TP dropped"
abbrev pub behind : Part → Option (List ℕ) → Stamp → ℕ → List ℕ → Brings
behind p None t offset payload = record { lows = p.finds; way = drops 11 (place_at t p.from) }
behind p (Some bs) t offset payload = record {
  lows = p.finds;
  way = way_at wire (start_of t) offset (length payload - length bs) (placed t p.from bs);
}

-- "bit 11: low-latency part present; bits 10 to 0: offset"; the payload begins at the TP's byte 4
abbrev pub low_part_if : Bool → Stamp → List ℕ → Part
low_part_if true t payload = low_part t 4 payload
low_part_if false t payload = record { finds = []; behind = Some payload; from = 4 }

abbrev pub worded : Option ℕ → Stamp → List ℕ → Brings
worded None t payload = dropping 9 t
worded (Some w) t payload = behind (low_part_if (leb 2048 w) t payload) (low_part_if (leb 2048 w) t payload).behind t (w % 2048) payload

-- "For each TP: the checks of 6, 8, 7, 9 in this order; the low-latency part; the offset (10); then ordinary bytes."
-- (21: "in 10's place in the order")
unfoldable pub brings : Setting → Stamps → List ℕ → Brings
brings s t tp =
    cond (eqb (length tp) s.size)
    (cond (eqb (stream_of (get_or tp 0 0)) s.stream)
    (cond (eqb (version_of (get_or tp 0 0)) 0) (worded (tp_number_in (number 0 (take 3 (drop 1 tp)))) t.now (drop 4 tp)) (dropping 7 t.now))
    (refusing 8 t.before))
    (refusing 6 t.before)

-- and what that makes of a frame
abbrev pub heard_by : Frame wire → Brings → Heard
heard_by f x = record { lows = x.lows; told = (by_way wire f x.way).1; frame = (by_way wire f x.way).0 }

abbrev pub heard : Setting → Stamps → Frame wire → List ℕ → Heard
heard s t f tp = heard_by f (brings s t tp)

-- a TP handed in, or a gap told
pub data Input : Type 0 where
  tp_in : List ℕ → Input
  gap_told : Input

abbrev pub way_of : Setting → Stamps → Input → Way wire
way_of s t (tp_in bs) = (brings s t bs).way
way_of s t gap_told = gaps

abbrev pub input_of : Setting → Stamps → Frame wire → Input → Heard
input_of s t f (tp_in bs) = heard s t f bs
input_of s t f gap_told = heard_by f gap_brings

-- where the receiver stands between two TPs
pub record Stand : Type 0 where
  pub frame : Frame wire
  pub held : Held wire

abbrev pub Listing : Type 0
Listing = List (Finding wire) × Stand

-- the finds of an input, in reading order, and where they leave the receiver: reading first, then reassembly
abbrev pub listing : Setting → Stand → Heard → Listing
listing s t h = (h.lows ++ finds wire s.room t.held h.told, record { frame = h.frame; held = holding wire s.room t.held h.told })

abbrev pub listing_of : Setting → Stamps → Stand → Input → Listing
listing_of s n t x = listing s t (input_of s n t.frame x)

-- by the receiver's own count: 6 and 8, which leave it as it was, carry the count before the TP
abbrev pub stamping_of : ℕ → Stamps
stamping_of n = record { before = own_of n; now = own_of (count_of n) }

unfoldable pub counts : Setting → List ℕ → Bool
counts s tp = eqb (length tp) s.size && eqb (stream_of (get_or tp 0 0)) s.stream

-- "7 and 9 included, 6 and 8 not"; "A told gap doesn't reset it."
abbrev pub count_after : Setting → ℕ → Input → ℕ
count_after s n (tp_in tp) = cond (counts s tp) (count_of n) n
count_after s n gap_told = n

-- of any number of TPs and gaps, so many TPs counted before
abbrev pub listing_all : Setting → ℕ → Stand → List Input → Listing
listing_all s n t [] = ([], t)
listing_all s n t (x ∷ xs) = (
  (listing_of s (stamping_of n) t x).0 ++ (listing_all s (count_after s n x) (listing_of s (stamping_of n) t x).1 xs).0,
  (listing_all s (count_after s n x) (listing_of s (stamping_of n) t x).1 xs).1,
)

-- and the events alone
abbrev pub events_all : Setting → ℕ → Frame wire → List Input → List (Event wire)
events_all s n f [] = []
events_all s n f (x ∷ xs) = (input_of s (stamping_of n) f x).told ++ events_all s (count_after s n x) (input_of s (stamping_of n) f x).frame xs
