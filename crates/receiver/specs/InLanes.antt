-- What the private functions of src/lane.rt promise one another. Assumes nothing.
use Rattle.std.specs.Prelude.{ℕ, ◌+◌, ◌-◌, ◌≤◌, ◌<◌, min, ◌≡◌, Bool, true, false, cond, List, ltb, length, take, drop, Ok, None}
use Rattle.queue.specs.Ring.{copied}
use Rattle.wire.specs.declared.Header.{Header}
use Rattle.receiver.specs.declared.Place.{Place}
use Rattle.receiver.specs.declared.Receiver.{Receiver}
use Rattle.receiver.specs.declared.Stage.TheVariants.{Due, Plain}
use Rattle.receiver.specs.declared.Stamp.{Stamp}
use Rattle.receiver.specs.declared.kind.Kind.TheVariants.{Complete}
use Rattle.receiver.specs.declared.lane.Lane.{Lane}
use Rattle.receiver.specs.declared.lane.Lane.TheVariants as L
use Rattle.receiver.specs.declared.lane.Met.{Met}
use Rattle.receiver.specs.declared.lane.Met.TheVariants as M
use Rattle.receiver.specs.declared.walk.Walk.{Walk}
use Rattle.receiver.specs.Call.{Gave}
use Rattle.receiver.specs.InWalk.{Carries}
use Rattle.receiver.specs.Kind.{kind_of}
use Rattle.receiver.specs.Lanes.{Lends, MetAs, Tidy, call_by, in_lane, walk_in}
use Rattle.receiver.specs.Outset.{place_of}
use Rattle.receiver.specs.Turns.{opened_of}

-- a lane, or none, stands for a walk at place 0
abbrev pub StandsFor : ℕ → Lane → Walk → Type 0
StandsFor cap l w = (w ≡ walk_in w.began l 0) × Tidy cap l

abbrev pub StandsAs : ℕ → Lane → Walk → Type 0
StandsAs cap L.Other w = 0 ≤ 0
StandsAs cap L.Lost w = StandsFor cap L.Lost w
StandsAs cap L.Idle w = StandsFor cap L.Idle w
StandsAs cap (L.Cut p n x) w = StandsFor cap (L.Cut p n x) w
StandsAs cap (L.Busy p left len c e) w = StandsFor cap (L.Busy p left len c e) w

-- a complete EP of at most so many data
abbrev pub FitsIf : Bool → Header → ℕ → Type 0
FitsIf false h most = 0 ≤ 0
FitsIf true h most = (kind_of h ≡ Complete) × (h.size ≤ most) × (h.fragment ≡ 0) × (1 ≤ h.content) × (h.content ≤ 6)

-- behind the header of a complete EP, whose data are read up to their end or the TP's
pub record Entered : Type 0 where
  pub met : Met
  pub room : List ℕ

abbrev pub taken_by : ℕ → Header → Place → ℕ → Met
taken_by n h g i =
    cond (ltb n h.size) (M.Ends (L.Busy g (h.size - n) n h.content h.flips)) (M.Gives h.content h.flips g h.size (i + n))

unfoldable pub entered_of : Header → Place → ℕ → List ℕ → List ℕ → Entered
entered_of h g i tp m = record {
  met = taken_by (min h.size (length tp - i)) h g i;
  room = copied m 0 (take (min h.size (length tp - i)) (drop i tp));
}

-- a call among ordinary bytes
abbrev pub plain_call : Receiver → ℕ → Stamp → Walk → List ℕ → List ℕ → Gave
plain_call b k t w tp m = call_by t (record { size = b.size; stream = b.stream; limit = b.limit; count = k; stage = Plain; walk = w }) tp m

-- behind the header of a complete EP, with nothing kept: from wherever a turn leads there
abbrev pub EntersAs : Met → Header → Place → ℕ → List ℕ → List ℕ → List ℕ → Type 0
EntersAs q h g i tp m m' =
    (b : Receiver) (k : ℕ) (t : Stamp) (w : Walk) → Lends b i tp m → Carries (length m) t w tp m (opened_of i h g None (length m)) m
    → MetAs q b k t (plain_call b k t w tp m) tp m m'

-- in a lane before ordinary bytes, n of which stand before the first EP that begins
abbrev pub SetAs : Met → Lane → ℕ → ℕ → List ℕ → List ℕ → List ℕ → Type 0
SetAs q l n at tp m m' =
    (b : Receiver) (k : ℕ) (t : Stamp) (o : ℕ) → Lends b at tp m → 4 ≤ at → o < 2048 → place_of o at (length tp) ≡ Ok n
    → MetAs q b k t (call_by t (in_lane b k l (Due o) at) tp m) tp m m'
