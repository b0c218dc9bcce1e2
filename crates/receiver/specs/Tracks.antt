-- TRACKS: a lane as plain numbers, which a loop over TPs carries, and what is met by it. Assumes nothing.
use Rattle.std.specs.Prelude.{ℕ, ◌+◌, ◌-◌, ◌≤◌, ◌<◌, ◌≡◌, Bool, cond, true, false, List, ◌⊎◌, eqb, length, take, drop, None, Option, Some}
use Rattle.digits.specs.Digits.{number}
use Rattle.wire.specs.declared.Header.{Header}
use Rattle.queue.specs.Ring.{copied}
use Rattle.receiver.specs.declared.Find.TheVariants as F
use Rattle.receiver.specs.declared.Place.{Place}
use Rattle.receiver.specs.declared.Receiver.{Receiver}
use Rattle.receiver.specs.declared.Stage.TheVariants.{Fresh}
use Rattle.receiver.specs.declared.Stamp.{Stamp}
use Rattle.receiver.specs.declared.lane.Lane.{Lane}
use Rattle.receiver.specs.declared.lane.Lane.TheVariants as L
use Rattle.receiver.specs.declared.lane.Met.TheVariants as M
use Rattle.receiver.specs.declared.low.Lows.TheVariants as W
use Rattle.receiver.specs.declared.track.Track.{Track}
use Rattle.receiver.specs.declared.track.Sight.{Sight}
use Rattle.receiver.specs.declared.track.Onto.{Onto}
use Rattle.receiver.specs.declared.track.Brief.{Brief}
use Rattle.receiver.specs.declared.kind.Kind.TheVariants.{Complete}
use Rattle.receiver.specs.declared.walk.Kept.{Kept}
use Rattle.receiver.specs.declared.walk.Phase.{Phase}
use Rattle.receiver.specs.declared.walk.Phase.TheVariants.{Lost, Head, Judged, Body}
use Rattle.receiver.specs.Kind.{kind_of}
use Rattle.receiver.specs.Call.{Gives}
use Rattle.receiver.specs.Lanes.{AheadAs, Drops, LanedAs, OutAs, Tidy, call_by, ends_in, in_lane, step_to}
use Rattle.receiver.specs.Lows.{lows_of}
use Rattle.receiver.specs.Pieces.{none_of}
use Rattle.receiver.specs.Place.{place_at, start_of, count_of}

-- where what is under way began
abbrev pub place_in : Track → Place
place_in t = record { stamp = record { number = t.number; byte = t.byte }; at = t.begun }

-- THE LANE that a track says: its sort is 0 for out of step, 1 between two EPs, 2 in a header, 3 in data, 4 for none
abbrev pub lane_in : Track → Lane
lane_in t =
    cond (eqb t.sort 0) L.Lost (
    cond (eqb t.sort 1) L.Idle (
    cond (eqb t.sort 2) (L.Cut (place_in t) t.have t.word) (cond (eqb t.sort 3) (L.Busy (place_in t) t.left t.len t.content t.flips) L.Other)
    )
    )

-- as loops carry it: a byte's worth of flips, whatever the sort
pub record Kempt (cap : ℕ) (t : Track) : Type 0 where
  pub tidy : Tidy cap (lane_in t)
  pub flips : t.flips < 256

-- of another sort, with the other numbers as they were
abbrev pub turned_of : Track → ℕ → Track
turned_of t s = record {
  sort = s;
  number = t.number;
  byte = t.byte;
  begun = t.begun;
  have = t.have;
  word = t.word;
  left = t.left;
  len = t.len;
  content = t.content;
  flips = t.flips;
}

-- data that are kept of a complete EP are its own, from its first byte on
pub record Own (g : Place) (h : Header) (n c e : ℕ) (p : Place) (k : ℕ) : Type 0 where
  pub content : c ≡ h.content
  pub flips : e ≡ h.flips
  pub place : p ≡ g
  pub size : h.size ≡ k + n

abbrev pub OwnIn : Place → Phase → Option Kept → Type 0
OwnIn g Lost x = 0 ≤ 0
OwnIn g (Head n w) x = 0 ≤ 0
OwnIn g (Judged h) x = 0 ≤ 0
OwnIn g (Body h n) None = 0 ≤ 0
OwnIn g (Body h n) (Some q) = 0 < n → kind_of h ≡ Complete → Own g h n q.content q.repaired q.began q.len

-- as calls leave a receiver
abbrev pub Placed : Receiver → Type 0
Placed r = OwnIn r.walk.began r.walk.phase r.walk.kept

-- the track of a receiver before a TP, or none
pub record TracksAs (t : Track) (r : Receiver) : Type 0 where
  pub sort : t.sort ≤ 4
  pub flips : t.flips < 256
  pub lane : LanedAs (lane_in t) r

-- ---- between two EPs

-- a whole EP: it is a packet, and its data go to the room's start
pub record WholeAt (a : Sight) (start : ℕ) (tp : List ℕ) (most : ℕ) : Type 0 where
  pub later : start ≤ a.from
  pub within : a.from + 6 + a.size ≤ length tp
  pub content : a.content ≤ 6
  pub fits : a.size ≤ most
  pub met : (t : Stamp) (m : List ℕ) → length m ≡ most
      → AheadAs (M.Gives a.content a.flips (place_at t a.from) a.size (a.from + 6 + a.size)) start t tp m (copied m 0 (take a.size (drop (a.from + 6) tp)))

-- the data of an EP that the TP's end cuts
abbrev pub part_of : Sight → List ℕ → ℕ
part_of a tp = length tp - (a.from + 6)

abbrev pub begins_in : Sight → Stamp → List ℕ → Lane
begins_in a t tp = L.Busy (place_at t a.from) (a.size - part_of a tp) (part_of a tp) a.content a.flips

pub record BeginsAt (a : Sight) (start : ℕ) (tp : List ℕ) (most : ℕ) : Type 0 where
  pub within : a.from + 6 ≤ length tp
  pub cut : part_of a tp < a.size
  pub fits : a.size ≤ most
  pub flips : a.flips < 256
  pub met : (t : Stamp) (m : List ℕ) → length m ≡ most
      → AheadAs (M.Ends (begins_in a t tp)) start t tp m (copied m 0 (take (part_of a tp) (drop (a.from + 6) tp)))

-- the TP's end, or a header that it cuts
abbrev pub tail_in : ℕ → Stamp → List ℕ → Lane
tail_in from t tp = cond (eqb (length tp - from) 0) L.Idle (L.Cut (place_at t from) (length tp - from) (number 0 (drop from tp)))

pub record TailAt (a : Sight) (start : ℕ) (tp : List ℕ) : Type 0 where
  pub within : a.from ≤ length tp
  pub few : length tp - a.from < 6
  pub flips : a.flips < 256
  pub met : (t : Stamp) (m : List ℕ) → AheadAs (M.Ends (tail_in a.from t tp)) start t tp m m

-- WHAT STANDS AHEAD of `start`, with a room of so many bytes: its sort is 1, 2 or 3 for these, 0 where it is left to a call
pub record Seen (a : Sight) (start : ℕ) (tp : List ℕ) (most : ℕ) : Type 0 where
  pub tail : a.sort ≡ 1 → TailAt a start tp
  pub begins : a.sort ≡ 2 → BeginsAt a start tp most
  pub whole : a.sort ≡ 3 → WholeAt a start tp most
  pub sort : a.sort ≤ 3

-- the track behind the first two, and the room
pub record BehindAs (q : Track) (a : Sight) (t : Stamp) (tp m m' : List ℕ) : Type 0 where
  pub tail : a.sort ≡ 1 → (lane_in q ≡ tail_in a.from t tp) × (m' ≡ m)
  pub begins : a.sort ≡ 2 → (lane_in q ≡ begins_in a t tp) × (m' ≡ copied m 0 (take (part_of a tp) (drop (a.from + 6) tp)))
  pub flips : q.flips < 256

-- ---- before ordinary bytes

-- HOW A TRACK SETS ABOUT THEM: left to a call, 0; all of them taken, 1; the call between two EPs at this place, 2; a packet, 3
pub record SetsOut (q : Onto) (t : Track) (offset here : ℕ) (tp m m' : List ℕ) : Type 0 where
  pub off : q.sort ≡ 0 → m' ≡ m
  pub over : q.sort ≡ 1 → (q.track.sort ≤ 3) × OutAs (M.Ends (lane_in q.track)) (lane_in t) offset here tp m m'
  pub at : q.sort ≡ 2 → (q.track ≡ t) × (q.place ≤ length tp) × OutAs (M.Reads q.place) (lane_in t) offset here tp m m'
  pub packet : q.sort ≡ 3
      → (q.content ≤ 6) × (q.place ≤ length tp) × ((e : ℕ) × ((p : Place) × OutAs (M.Gives q.content e p q.len q.place) (lane_in t) offset here tp m m'))
  pub flips : q.track.flips < 256
  pub sort : q.sort ≤ 3

-- ---- the low-latency part

-- an LLEP that is a packet, whether another follows, and the place behind it
abbrev pub BriefAs : Bool → Brief → List ℕ → ℕ → Type 0
BriefAs false q tp at = 0 ≤ 0
BriefAs true q tp at =
    (at + 7 + q.size ≤ length tp)
    × (q.content ≤ 6)
    × ((e : ℕ) × (lows_of tp at ≡ W.Gives (F.Low q.content (at + 6) q.size) e at q.more (at + 7 + q.size)))

-- ---- a TP that is done with at once

-- a TP's calls in a lane end it at once, in the same lane
abbrev pub PassesOver : Lane → Receiver → List ℕ → Type 0
PassesOver l r tp = (k : ℕ) (t : Stamp) (m : List ℕ) → length m ≡ r.limit
    → Gives (call_by t (in_lane r k l Fresh 0) tp m) (ends_in (in_lane r (count_of k) l Fresh 0) t) tp m

-- or with a notice: 9 ends it, behind another stands none
abbrev pub DropsWith : ℕ → Receiver → List ℕ → Type 0
DropsWith n r tp = (k : ℕ) (t : Stamp) (m : List ℕ) → length m ≡ r.limit
    → ((n ≡ 9) × Gives (call_by t (in_lane r k L.Lost Fresh 0) tp m) (step_to (in_lane r (count_of k) L.Lost Fresh 0) (F.Notice 9) (none_of (start_of t))) tp m)
    ⊎ Drops r (count_of k) t n (call_by t (in_lane r k L.Lost Fresh 0) tp m) tp m

-- out of step, by the answer: 0 says nothing, 1 that the TP is passed over, another its notice
pub record DroppedAs (n : ℕ) (r : Receiver) (tp : List ℕ) : Type 0 where
  pub over : n ≡ 1 → PassesOver L.Lost r tp
  pub told : 1 < n → DropsWith n r tp
  pub small : n < 256

abbrev pub FilledIf : Bool → Receiver → List ℕ → Type 0
FilledIf false r tp = 0 ≤ 0
FilledIf true r tp = PassesOver L.Idle r tp
