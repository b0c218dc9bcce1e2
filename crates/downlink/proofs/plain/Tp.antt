-- A whole transport packet, a told gap, and any number of both (document 01, "Receiver", and 6 to 11).
-- Assumes nothing.
use Prim.Native.Nat.{ℕ, ◌-◌, ◌%◌}
use mathlib.Core.Bool.{Bool, true, false, cond}
use mathlib.Core.List.{List, [], ◌∷◌, ◌++◌}
use lib.Dec.{eqb, leb}
use lib.ListN.{length, take, drop, get_or}
use Rattle.std.specs.Prelude.{Option, None, Some}
use Rattle.digits.specs.Digits.{number}
use Rattle.wire.specs.Reading.{tp_number_in, stream_of, version_of}
use Rattle.receiver.specs.Tp.{Setting, Input, tp_in, gap_told}
use Rattle.downlink.proofs.plain.Frame.{Frame, lost, Event, lose, gap, after, events}
use Rattle.downlink.proofs.plain.Forecast.{Start, outset}
use Rattle.downlink.proofs.plain.Join.{Finding, notice, Held, finds, holding}
use Rattle.downlink.proofs.plain.Low.{wire, Part, low_part}

-- what a TP brings: first the finds of its low-latency part (or 6, 8); then the events of its ordinary bytes; and the frame
pub record Heard : Type 0 where
  pub lows : List (Finding wire)
  pub told : List (Event wire)
  pub frame : Frame wire

-- 6, 8: "receiver, room unchanged"
abbrev pub refusing : ℕ → Frame wire → Heard
refusing n f = record { lows = notice n ∷ []; told = []; frame = f }

-- 7, 9: "out of step, TP dropped"
abbrev pub dropping : ℕ → Heard
dropping n = record { lows = []; told = lose n ∷ []; frame = lost }

-- "Being told of a gap puts it out of step"
abbrev pub gap_heard : Heard
gap_heard = record { lows = []; told = gap ∷ []; frame = lost }

abbrev pub read_on : List (Finding wire) → Start wire → List ℕ → Heard
read_on fs t bs = record {
  lows = fs;
  told = t.told ++ events wire t.frame (drop t.past bs);
  frame = after wire t.frame (drop t.past bs);
}

-- behind the low-latency part of a payload. 11: "out of step, rest of TP dropped"
abbrev pub behind : List (Finding wire) → Option (List ℕ) → Frame wire → ℕ → List ℕ → Heard
behind fs None f offset payload = record { lows = fs; told = lose 11 ∷ []; frame = lost }
behind fs (Some bs) f offset payload = read_on fs (outset wire f offset (length payload - length bs) bs) bs

-- "bit 11: low-latency part present; bits 10 to 0: offset"
abbrev pub low_part_if : Bool → List ℕ → Part
low_part_if true payload = low_part payload
low_part_if false payload = record { finds = []; behind = Some payload }

abbrev pub worded : Option ℕ → Frame wire → List ℕ → Heard
worded None f payload = dropping 9
worded (Some w) f payload =
    behind (low_part_if (leb 2048 w) payload).finds (low_part_if (leb 2048 w) payload).behind f (w % 2048) payload

-- "For each TP: the checks of 6, 8, 7, 9 in this order; the low-latency part; the offset (10); then ordinary bytes."
-- (21: "in 10's place in the order")
unfoldable pub heard : Setting → Frame wire → List ℕ → Heard
heard s f tp =
    cond (eqb (length tp) s.size)
    (cond (eqb (stream_of (get_or tp 0 0)) s.stream)
    (cond (eqb (version_of (get_or tp 0 0)) 0) (worded (tp_number_in (number 0 (take 3 (drop 1 tp)))) f (drop 4 tp)) (dropping 7))
    (refusing 8 f))
    (refusing 6 f)

abbrev pub input_of : Setting → Frame wire → Input → Heard
input_of s f (tp_in bs) = heard s f bs
input_of s f gap_told = gap_heard

-- where the receiver stands between two TPs
pub record Stand : Type 0 where
  pub frame : Frame wire
  pub held : Held wire

abbrev pub Listing : Type 0
Listing = List (Finding wire) × Stand

-- the finds of an input, in reading order, and where they leave the receiver: reading first, then reassembly
abbrev pub listing : Setting → Stand → Heard → Listing
listing s t h = (h.lows ++ finds wire s.room t.held h.told, record { frame = h.frame; held = holding wire s.room t.held h.told })

abbrev pub listing_of : Setting → Stand → Input → Listing
listing_of s t x = listing s t (input_of s t.frame x)

-- of any number of TPs and gaps
abbrev pub listing_all : Setting → Stand → List Input → Listing
listing_all s t [] = ([], t)
listing_all s t (x ∷ xs) = ((listing_of s t x).0 ++ (listing_all s (listing_of s t x).1 xs).0, (listing_all s (listing_of s t x).1 xs).1)

-- and the events alone
abbrev pub events_all : Setting → Frame wire → List Input → List (Event wire)
events_all s f [] = []
events_all s f (x ∷ xs) = (input_of s f x).told ++ events_all s (input_of s f x).frame xs
