-- THE LANES OF A RECEIVER: what it stands in between two TPs where no series is kept and nothing is to be judged, and what a call comes to
-- from there. A loop over TPs carries a lane in the place of the receiver. Assumes nothing.
use Rattle.std.specs.Prelude.{ℕ, ◌+◌, ◌≤◌, ◌<◌, ◌^◌, ◌≡◌, cond, false, true, List, eqb, length, None}
use Rattle.wire.specs.declared.Header.{Header}
use Rattle.receiver.specs.declared.About.{About}
use Rattle.receiver.specs.declared.Find.{Find}
use Rattle.receiver.specs.declared.Find.TheVariants as F
use Rattle.receiver.specs.declared.Place.{Place}
use Rattle.receiver.specs.declared.Receiver.{Receiver}
use Rattle.receiver.specs.declared.Stage.{Stage}
use Rattle.receiver.specs.declared.Stage.TheVariants.{Fresh, Low, Due, Plain}
use Rattle.receiver.specs.declared.Stamp.{Stamp}
use Rattle.receiver.specs.declared.Step.{Step}
use Rattle.receiver.specs.declared.entry.Top.{Top}
use Rattle.receiver.specs.declared.entry.Top.TheVariants.{Elsewhere, Dropped, Says}
use Rattle.receiver.specs.declared.lane.Lane.{Lane}
use Rattle.receiver.specs.declared.lane.Lane.TheVariants as L
use Rattle.receiver.specs.declared.lane.Met.{Met}
use Rattle.receiver.specs.declared.lane.Met.TheVariants as M
use Rattle.receiver.specs.declared.low.Lows.{Lows}
use Rattle.receiver.specs.declared.low.Lows.TheVariants as W
use Rattle.receiver.specs.declared.walk.Phase.TheVariants.{Lost, Head, Body}
use Rattle.receiver.specs.declared.walk.Walk.{Walk}
use Rattle.receiver.specs.Call.{Gave, Gives, call_as, always, lasts}
use Rattle.receiver.specs.Pieces.{none_of, top_of}
use Rattle.receiver.specs.Place.{place_at, start_of, count_of}
use Rattle.receiver.specs.Turns.{walk_at}
use Rattle.receiver.specs.State.{kept_by}

-- the header of a complete EP
abbrev pub complete_of : ℕ → ℕ → ℕ → Header
complete_of c size e = record { content = c; fragment = 0; size = size; flips = e }

-- the walk of a lane: out of step; between two EPs; in a header; in the data of a complete EP, which are kept. Where none is under way, g
-- stands for where one began, and nobody reads it
abbrev pub walk_in : Place → Lane → ℕ → Walk
walk_in g L.Other at = walk_at at Lost g None
walk_in g L.Lost at = walk_at at Lost g None
walk_in g L.Idle at = walk_at at (Head 0 0) g None
walk_in g (L.Cut p n w) at = walk_at at (Head n w) p None
walk_in g (L.Busy p left len c e) at = walk_at at (Body (complete_of c (len + left) e) left) p (kept_by c e p len)

-- the receiver of b's settings in a lane, so many TPs counted
abbrev pub in_lane : Receiver → ℕ → Lane → Stage → ℕ → Receiver
in_lane b k l s at = record { size = b.size; stream = b.stream; limit = b.limit; count = k; stage = s; walk = walk_in b.walk.began l at }

-- as calls leave it
abbrev pub Tidy : ℕ → Lane → Type 0
Tidy cap L.Other = 1 ≤ 0
Tidy cap L.Lost = 0 ≤ 0
Tidy cap L.Idle = 0 ≤ 0
Tidy cap (L.Cut p n w) = (1 ≤ n) × (n ≤ 5) × (w < 256 ^ n)
Tidy cap (L.Busy p left len c e) = (0 < left) × (len + left ≤ cap) × (1 ≤ c) × (c ≤ 6)

-- a receiver before a TP is in a lane, or in none
abbrev pub StandsIn : Lane → Receiver → Type 0
StandsIn l r = (r ≡ in_lane r r.count l Fresh 0) × Tidy r.limit l

abbrev pub LanedAs : Lane → Receiver → Type 0
LanedAs L.Other r = 0 ≤ 0
LanedAs L.Lost r = StandsIn L.Lost r
LanedAs L.Idle r = StandsIn L.Idle r
LanedAs (L.Cut p n w) r = StandsIn (L.Cut p n w) r
LanedAs (L.Busy p left len c e) r = StandsIn (L.Busy p left len c e) r

-- what a TP's header says to a receiver; one of another length is left to a call
abbrev pub top_in : Receiver → List ℕ → Top
top_in r tp = cond (eqb (length tp) r.size) (top_of r.stream tp) Elsewhere

-- a call by this stamp
abbrev pub call_by : Stamp → Receiver → List ℕ → List ℕ → Gave
call_by t r tp m = call_as r (always t) tp m

abbrev pub step_to : Receiver → Find → About → Step
step_to r f a = record { receiver = r; find = f; about = a }

-- none, which ends the TP
abbrev pub ends_in : Receiver → Stamp → Step
ends_in r t = step_to r F.Nothing (none_of (start_of t))

-- a loss of step is told where it is met: 12 at a header, 11 at an LLEP; 10 and 21 at the payload's start, place 4
abbrev pub LossAt : ℕ → ℕ → Type 0
LossAt n i = cond (eqb n 11) (0 ≤ 0) (cond (eqb n 12) (0 ≤ 0) (i ≡ 4))

-- and where it leaves reading: 12 behind the header; the others with the "rest of TP dropped"
abbrev pub loss_end : ℕ → ℕ → ℕ → ℕ
loss_end n i len = cond (eqb n 12) (i + 6) len

-- "out of step": a notice, and then none
pub record Drops (b : Receiver) (k : ℕ) (t : Stamp) (n : ℕ) (g : Gave) (tp m : List ℕ) : Type 0 where
  pub step : Step
  pub gives : Gives g step tp m
  pub find : step.find ≡ F.Notice n
  pub large : 9 < n
  pub place : ℕ
  pub met : LossAt n place
  pub about : step.about ≡ none_of (place_at t place)
  pub receiver : step.receiver ≡ in_lane b k L.Lost Plain (loss_end n place (length tp))
  pub ends : Gives (call_by t step.receiver tp m) (ends_in (in_lane b k L.Lost Fresh 0) t) tp m

-- what a call g comes to, in lanes of b's settings: left as it was; a loss of step; none; the call between two EPs at this place; or a packet, behind
-- which it stands between two EPs
abbrev pub MetAs : Met → Receiver → ℕ → Stamp → Gave → List ℕ → List ℕ → List ℕ → Type 0
MetAs M.Other b k t g tp m m' = m' ≡ m
MetAs (M.Drops n) b k t g tp m m' = (m' ≡ m) × Drops b k t n g tp m × (eqb n 11 ≡ false)
MetAs (M.Ends l) b k t g tp m m' = Gives g (ends_in (in_lane b k l Fresh 0) t) tp m' × Tidy b.limit l
MetAs (M.Reads i) b k t g tp m m' = (m' ≡ m) × (i ≤ length tp) × (call_by t (in_lane b k L.Idle Plain i) tp m ≡ g)
MetAs (M.Gives w e p n end) b k t g tp m m' =
    Gives g (step_to (in_lane b k L.Idle Plain end) (F.Ordinary w n) (record { repaired = e; at = p })) tp m' × (end ≤ length tp)

-- settings, a TP and a room of a call at this place
pub record Lends (b : Receiver) (at : ℕ) (tp m : List ℕ) : Type 0 where
  pub size : 16 ≤ b.size
  pub whole : length tp ≡ b.size
  pub full : length m ≡ b.limit
  pub within : at ≤ length tp

-- between two EPs, among ordinary bytes
abbrev pub AheadAs : Met → ℕ → Stamp → List ℕ → List ℕ → List ℕ → Type 0
AheadAs q at t tp m m' = (b : Receiver) (k : ℕ) → Lends b at tp m → MetAs q b k t (call_by t (in_lane b k L.Idle Plain at) tp m) tp m m'

-- behind the low-latency part, in a lane, with this offset
abbrev pub OutAs : Met → Lane → ℕ → ℕ → List ℕ → List ℕ → List ℕ → Type 0
OutAs q l o at tp m m' =
    (b : Receiver) (k : ℕ) (t : Stamp) → Lends b at tp m → 4 ≤ at → o < 2048 → MetAs q b k t (call_by t (in_lane b k l (Due o) at) tp m) tp m m'

-- a TP's first call in a lane, by what its header says: left open; "TP dropped", which puts out of step; or the call at its payload's start, the
-- TP counted
abbrev pub FirstAs : Top → Receiver → ℕ → Lane → Stamp → Gave → List ℕ → List ℕ → Type 0
FirstAs Elsewhere b k l t g tp m = 0 ≤ 0
FirstAs (Dropped n) b k l t g tp m =
    Gives g (step_to (in_lane b (count_of k) L.Lost Fresh 0) (F.Notice n) (none_of (start_of t))) tp m × (n ≤ 9)
FirstAs (Says low o) b k l t g tp m = call_by t (in_lane b (count_of k) l (cond low (Low o) (Due o)) 4) tp m ≡ g

-- a call in the low-latency part: a find of it; its end, which is the call behind it; or a loss of step
abbrev pub LowAs : Lows → Receiver → ℕ → Lane → ℕ → Stamp → Gave → List ℕ → List ℕ → Type 0
LowAs (W.Gives f e i more end) b k l o t g tp m =
    Gives g (step_to (in_lane b k l (cond more (Low o) (Due o)) end) f (record { repaired = e; at = place_at t i })) tp m × (lasts f ≡ true)
LowAs (W.End i) b k l o t g tp m = call_by t (in_lane b k l (Due o) i) tp m ≡ g
LowAs (W.Broken i) b k l o t g tp m = Drops b k t 11 g tp m
