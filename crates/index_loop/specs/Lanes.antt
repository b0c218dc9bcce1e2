-- TPs in lanes: the line that is put for what is met, what of a TP is left to calls, and by which calls it is left. Assumes nothing.
use Rattle.std.specs.Prelude.{ℕ, ◌≤◌, ◌<◌, ◌≡◌, Bool, cond, List, []}
use Rattle.block.specs.Block.{Block, put}
use Rattle.receiver.specs.State.{Able}
use Rattle.receiver.specs.Lanes.{Tidy, Lends, AheadAs, OutAs, in_lane}
use Rattle.receiver.specs.Place.{place_at, count_of}
use Rattle.receiver.specs.declared.Find.TheVariants.{Ordinary}
use Rattle.receiver.specs.declared.Receiver.{Receiver}
use Rattle.receiver.specs.declared.Stage.{Stage}
use Rattle.receiver.specs.declared.Stage.TheVariants.{Fresh, Low, Due, Plain}
use Rattle.receiver.specs.declared.Stamp.{Stamp}
use Rattle.receiver.specs.declared.lane.Lane.{Lane}
use Rattle.receiver.specs.declared.lane.Lane.TheVariants.{Lost, Idle}
use Rattle.receiver.specs.declared.lane.Met.{Met}
use Rattle.receiver.specs.declared.lane.Met.TheVariants as M
use Rattle.receiver.specs.declared.low.Lows.{Lows}
use Rattle.receiver.specs.declared.low.Lows.TheVariants as L
use Rattle.indexing.specs.Lines.{new_text}
use Rattle.index_loop.specs.declared.lanes.Left.{Left}
use Rattle.index_loop.specs.declared.lanes.Left.TheVariants.{Nothing, All, From}
use Rattle.index_loop.specs.declared.lanes.Noted.{Noted}
use Rattle.index_loop.specs.declared.lanes.Part.{Part}
use Rattle.index_loop.specs.declared.lanes.Part.TheVariants.{Within, Broken, Behind}
use Rattle.index_loop.specs.declared.lanes.Parted.{Parted}
use Rattle.index_loop.specs.declared.lanes.Passed.{Passed}
use Rattle.index_loop.specs.declared.Run.{Run}
use Rattle.index_loop.specs.declared.Task.TheVariants.{Index}
use Rattle.index_loop.specs.Walking.{Ends, Pauses, block_of}
use Rattle.std.specs.declared.ops.ControlFlow.{ControlFlow}
use Rattle.std.specs.declared.ops.ControlFlow.TheVariants.{Continue, Break}

-- the line of a packet that is met in record n: by `MetAs` it is what the call gives there
abbrev pub met_text : ℕ → ℕ → Met → List ℕ
met_text covered n M.Other = []
met_text covered n (M.Drops k) = []
met_text covered n (M.Ends l) = []
met_text covered n (M.Reads i) = []
met_text covered n (M.Gives c e p len end) = new_text covered n p (Ordinary c len)

-- the line of what the low-latency part gives, as in `low_call`
abbrev pub low_text : ℕ → Stamp → Lows → List ℕ
low_text covered t (L.Broken i) = []
low_text covered t (L.End i) = []
low_text covered t (L.Gives f e i more end) = new_text covered t.number (place_at t i) f

-- between two EPs: what the call meets there is what is put
pub record Looked (covered start : ℕ) (t : Stamp) (tp m out : List ℕ) (at : ℕ) (r : Noted) (m' out' : List ℕ) : Type 0 where
  pub met : AheadAs r.met start t tp m m'
  pub text : record { bytes = out'; at = r.at } ≡ put out at (met_text covered t.number r.met)

-- the same behind the low-latency part
pub record SetOut (covered : ℕ) (l : Lane) (offset place : ℕ) (t : Stamp) (tp m out : List ℕ) (at : ℕ) (r : Noted) (m' out' : List ℕ) : Type 0 where
  pub met : OutAs r.met l offset place tp m m'
  pub text : record { bytes = out'; at = r.at } ≡ put out at (met_text covered t.number r.met)

-- what is left to calls of a receiver of b's settings can be asked for
abbrev pub LeftFits : Receiver → Left → Type 0
LeftFits b (Nothing l) = Tidy b.limit l
LeftFits b All = 0 ≤ 0
LeftFits b (From l s i) = Tidy b.limit l × ((k : ℕ) → Able (in_lane b k l s i))

-- whatever receiver lends this TP and this room, from this place on
abbrev pub Leaves : ℕ → List ℕ → List ℕ → Left → Type 0
Leaves at tp m l = (b : Receiver) → Lends b at tp m → LeftFits b l

-- between two EPs, at this place
abbrev pub plain_at : ℕ → Left
plain_at i = From Idle Plain i

-- where it goes on behind what is met; what is left here, where that is left to a call
abbrev pub way_by : Met → Left → ControlFlow Left ℕ
way_by M.Other here = Break here
way_by (M.Drops k) here = Break (Nothing Lost)
way_by (M.Ends l) here = Break (Nothing l)
way_by (M.Reads i) here = Continue i
way_by (M.Gives c e p len end) here = Continue end

-- the low-latency part of a TP of n bytes, from place 4 on
abbrev pub PartFits : ℕ → Part → Type 0
PartFits n (Within i) = (4 ≤ i) × (i ≤ n)
PartFits n Broken = 0 ≤ 0
PartFits n (Behind i) = (4 ≤ i) × (i ≤ n)

abbrev pub part_by : Lows → Part
part_by (L.Broken i) = Broken
part_by (L.End i) = Behind i
part_by (L.Gives f e i more end) = cond more (Within end) (Behind end)

-- ---- the calls by which it is left

-- a TP that is begun, by calls from the receiver r on, in lanes of b's settings, so many TPs counted: it ended, and the next begins in this
-- lane; or it has more to give
abbrev pub LeftBy : ℕ → Stamp → List ℕ → Receiver → ℕ → Receiver → List ℕ → Block → Left → List ℕ → Block → Type 0
LeftBy covered t tp b k r m o (Nothing l) m' o' = Ends (Index covered) t tp r m o (in_lane b k l Fresh 0) m' o'
LeftBy covered t tp b k r m o All m' o' = 1 ≤ 0
LeftBy covered t tp b k r m o (From l s i) m' o' = Pauses (Index covered) t tp r m o (in_lane b k l s i) m' o'

-- whatever receiver lends this TP and this room, from this lane, stage and place on
abbrev pub LeavesBy : ℕ → Stamp → Lane → Stage → ℕ → List ℕ → List ℕ → List ℕ → ℕ → Passed → List ℕ → List ℕ → Type 0
LeavesBy covered t l s at tp m out held r m' out' =
    (b : Receiver) (k : ℕ) → Lends b at tp m → LeftBy covered t tp b k (in_lane b k l s at) m (block_of out held) r.left m' (block_of out' r.at)

-- at the payload's start: with a low-latency part, or without
abbrev pub start_stage : Bool → ℕ → Stage
start_stage low o = cond low (Low o) (Due o)

-- the low-latency part of a TP with this offset: in it; broken, which ends the TP out of step; or behind it. The room stays
abbrev pub PartBy : ℕ → Stamp → List ℕ → Receiver → ℕ → Lane → ℕ → Receiver → List ℕ → Block → Part → Block → Type 0
PartBy covered t tp b k l o r m x (Within i) x' = Pauses (Index covered) t tp r m x (in_lane b k l (Low o) i) m x'
PartBy covered t tp b k l o r m x Broken x' = Ends (Index covered) t tp r m x (in_lane b k Lost Fresh 0) m x'
PartBy covered t tp b k l o r m x (Behind i) x' = Pauses (Index covered) t tp r m x (in_lane b k l (Due o) i) m x'

abbrev pub PartedBy : ℕ → Stamp → Bool → List ℕ → List ℕ → ℕ → Parted → List ℕ → Type 0
PartedBy covered t low tp out held r out' =
    (b : Receiver) (k : ℕ) (l : Lane) (o : ℕ) (m : List ℕ) → Lends b 4 tp m → Tidy b.limit l → o < 2048
    → PartBy covered t tp b k l o (in_lane b k l (start_stage low o) 4) m (block_of out held) r.part (block_of out' r.at)

-- a TP before its first call, which counts it: not begun, with nothing done; or as above
abbrev pub BegunBy : ℕ → Stamp → List ℕ → Receiver → ℕ → Receiver → List ℕ → Block → Left → List ℕ → Block → Type 0
BegunBy covered t tp b k r m o All m' o' = (m' ≡ m) × (o' ≡ o)
BegunBy covered t tp b k r m o (Nothing l) m' o' = LeftBy covered t tp b k r m o (Nothing l) m' o'
BegunBy covered t tp b k r m o (From l s i) m' o' = LeftBy covered t tp b k r m o (From l s i) m' o'

abbrev pub PassedBy : ℕ → Stamp → Lane → Receiver → List ℕ → List ℕ → List ℕ → ℕ → Passed → List ℕ → List ℕ → Type 0
PassedBy covered t l b tp m out held r m' out' =
    (k : ℕ) → BegunBy covered t tp b (count_of k) (in_lane b k l Fresh 0) m (block_of out held) r.left m' (block_of out' r.at)

-- as a loop over calls goes on: in a lane and stage of b's settings, at this place, before the record n that begins at f, with h bytes held
pub record RunIn (b : Receiver) (k : ℕ) (l : Lane) (s : Stage) (i n h f : ℕ) (r : Run) : Type 0 where
  pub able : Able r.receiver
  pub receiver : r.receiver ≡ in_lane b k l s i
  pub number : r.record ≡ n
  pub at : r.at ≡ h
  pub from : r.from ≡ f
