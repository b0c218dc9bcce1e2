-- TPs in tracks: what of a TP is left to calls, and that the lines put are those of the calls made. Assumes nothing.
use Rattle.std.specs.Prelude.{ℕ, ◌≤◌, ◌<◌, ◌≡◌, Bool, cond, true, false, List, ◌++◌, eqb, length, take}
use Rattle.listing.specs.Hearing.{Hears, Ends}
use Rattle.listing.specs.Tens.{Kept}
use Rattle.receiver.specs.Call.{Gives, call_of}
use Rattle.receiver.specs.Lanes.{Lends, Tidy, call_by, in_lane, step_to}
use Rattle.receiver.specs.Place.{own_of, count_of}
use Rattle.receiver.specs.State.{Able}
use Rattle.receiver.specs.Tracks.{Kempt, lane_in}
use Rattle.receiver.specs.declared.About.{About}
use Rattle.receiver.specs.declared.Find.TheVariants as F
use Rattle.receiver.specs.declared.Receiver.{Receiver}
use Rattle.receiver.specs.declared.Stage.{Stage}
use Rattle.receiver.specs.declared.Stage.TheVariants.{Fresh, Low, Due, Plain}
use Rattle.receiver.specs.declared.Stamp.{Stamp}
use Rattle.receiver.specs.declared.lane.Lane.{Lane}
use Rattle.receiver.specs.declared.lane.Lane.TheVariants as L
use Rattle.receiver.specs.declared.track.Onto.{Onto}
use Rattle.receiver.specs.declared.track.Track.{Track}
use Rattle.list_loop.specs.declared.lanes.Left.{Left}
use Rattle.list_loop.specs.declared.lanes.Left.TheVariants.{All, Done, From}
use Rattle.list_loop.specs.declared.lanes.Passed.{Passed}
use Rattle.list_loop.specs.declared.lanes.Parted.{Parted}

-- at the payload's start: with a low-latency part, or without
abbrev pub start_stage : Bool → ℕ → Stage
start_stage low o = cond low (Low o) (Due o)

-- behind what the output block held stand these lines
abbrev pub Holds : List ℕ → ℕ → List ℕ → List ℕ → ℕ → Type 0
Holds out at lines out' at' = take at' out' ≡ take at out ++ lines

-- the TP is done, and the next begins in q's track
pub record DoneBy (q : Passed) (b : Receiver) (k : ℕ) (r : Receiver) (n : ℕ) (tp m out : List ℕ) (at : ℕ) (m' out' : List ℕ) : Type 0 where
  pub lines : List ℕ
  pub ends : Ends tp n r m lines (in_lane b k (lane_in q.track) Fresh 0) m'
  pub held : Holds out at lines out' q.held.at

-- it has more to give, from this stage and place on
pub record OnBy (q : Passed) (s : Stage) (i : ℕ) (b : Receiver) (k : ℕ) (r : Receiver) (n : ℕ) (tp m out : List ℕ) (at : ℕ) (m' out' : List ℕ) : Type 0 where
  pub lines : List ℕ
  pub hears : Hears tp n r m lines (in_lane b k (lane_in q.track) s i) m'
  pub held : Holds out at lines out' q.held.at
  pub able : Able (in_lane b k (lane_in q.track) s i)

-- by what is left of it: all, and nothing is done; nothing; or what follows a place
abbrev pub LeftBy : Left → Passed → Track → Receiver → ℕ → Receiver → ℕ → List ℕ → List ℕ → List ℕ → ℕ → List ℕ → List ℕ → Type 0
LeftBy All q t b k r n tp m out at m' out' = (m' ≡ m) × (out' ≡ out) × (q.held.at ≡ at) × (q.track ≡ t)
LeftBy Done q t b k r n tp m out at m' out' = DoneBy q b k r n tp m out at m' out'
LeftBy (From s i) q t b k r n tp m out at m' out' = OnBy q s i b k r n tp m out at m' out' × (at < q.held.at)

-- WHAT IS LEFT of the TP with number n to calls, of which those before were made from the receiver r on, in lanes of b's settings, so many TPs
-- counted
pub record LeftAs (q : Passed) (t : Track) (b : Receiver) (k : ℕ) (r : Receiver) (n : ℕ) (tp m out : List ℕ) (at : ℕ) (m' out' : List ℕ) : Type 0 where
  pub left : LeftBy q.left q t b k r n tp m out at m' out'
  pub kempt : Kempt b.limit q.track

-- whatever the left: what holds of ten and block
pub record Steady (q : Passed) (held : ℕ) : Type 0 where
  pub ten : Kept q.held.ten
  pub at : held ≤ q.held.at
  pub sort : q.track.sort ≤ 3

-- whatever receiver lends this TP and this room, from this stage and place on in the track t: its own count is the stamp
abbrev pub LeavesBy : Passed → Track → Stamp → Stage → ℕ → ℕ → List ℕ → List ℕ → List ℕ → ℕ → List ℕ → List ℕ → Type 0
LeavesBy q t s stage place n tp m out at m' out' =
    (b : Receiver) (k : ℕ) → Lends b place tp m → s ≡ own_of k → Kempt b.limit t → LeftAs q t b k (in_lane b k (lane_in t) stage place) n tp m out at m' out'

-- ---- ordinary bytes

-- where they lead from the receiver r and the room m₀ on, with the room at m: to the TP's end; to a place between two EPs, behind a line; or, where no packet
-- is due, nowhere: what was left, stays
pub data LedTo (due : Bool) (q : Passed) (t : Track) (left : Left) (b : Receiver) (k : ℕ) (r : Receiver) (n : ℕ) (tp m₀ m out : List ℕ) (at : ℕ) (m' out' : List ℕ) : Type 0 where
  ended : q.left ≡ Done → DoneBy q b k r n tp m₀ out at m' out' → Kempt b.limit q.track → LedTo due q t left b k r n tp m₀ m out at m' out'
  onward : (i : ℕ) → q.left ≡ From Plain i → OnBy q Plain i b k r n tp m₀ out at m' out' → at < q.held.at → Kempt b.limit q.track
      → LedTo due q t left b k r n tp m₀ m out at m' out'
  stays : due ≡ false → q.left ≡ left → q.track ≡ t → q.held.at ≡ at → m' ≡ m → out' ≡ out → LedTo due q t left b k r n tp m₀ m out at m' out'

-- behind the low-latency part, in the track t with this offset
abbrev pub LeadsBy : Passed → Track → Stamp → Left → ℕ → ℕ → ℕ → List ℕ → List ℕ → List ℕ → ℕ → List ℕ → List ℕ → Type 0
LeadsBy q t s left offset here n tp m out at m' out' =
    (b : Receiver) (k : ℕ) → Lends b here tp m → s ≡ own_of k → LedTo false q t left b k (in_lane b k (lane_in t) (Due offset) here) n tp m m out at m' out'

-- before a place where an EP begins: a packet is due, which a call from r on gives; or that call is the one between two EPs there
abbrev pub BegunAs : Bool → ℕ → ℕ → ℕ → Receiver → ℕ → Receiver → List ℕ → List ℕ → List ℕ → Type 0
BegunAs true place c len b k r tp m₀ m = (a : About) × Gives (call_of r tp m₀) (step_to (in_lane b k L.Idle Plain place) (F.Ordinary c len) a) tp m
BegunAs false place c len b k r tp m₀ m = (m ≡ m₀) × (call_of r tp m₀ ≡ call_by (own_of k) (in_lane b k L.Idle Plain place) tp m₀)

-- from there on, in the track that set out
abbrev pub RunsBy : Passed → Onto → Stamp → Left → ℕ → List ℕ → List ℕ → List ℕ → ℕ → List ℕ → List ℕ → Type 0
RunsBy q o s left n tp m out at m' out' =
    (b : Receiver) (k : ℕ) (r : Receiver) (m₀ : List ℕ) → Lends b o.place tp m → s ≡ own_of k
    → BegunAs (eqb o.sort 3) o.place o.content o.len b k r tp m₀ m
    → LedTo (eqb o.sort 3) q o.track left b k r n tp m₀ m out at m' out'

-- a TP before its first call, which counts it
abbrev pub PassesBy : Passed → Track → Receiver → Stamp → ℕ → List ℕ → List ℕ → List ℕ → ℕ → List ℕ → List ℕ → Type 0
PassesBy q t b s n tp m out at m' out' =
    (k : ℕ) → s ≡ own_of (count_of k) → Kempt b.limit t → length m ≡ b.limit → LeftAs q t b (count_of k) (in_lane b k (lane_in t) Fresh 0) n tp m out at m' out'

-- the low-latency part: within it at this place, or behind it; the room stays
pub record PartBy (q : Parted) (l : Lane) (o : ℕ) (b : Receiver) (k : ℕ) (n : ℕ) (tp m out : List ℕ) (at : ℕ) (out' : List ℕ) : Type 0 where
  pub lines : List ℕ
  pub hears : Hears tp n (in_lane b k l (Low o) 4) m lines (in_lane b k l (start_stage q.within o) q.place) m
  pub held : Holds out at lines out' q.held.at
  pub able : Able (in_lane b k l (start_stage q.within o) q.place)

abbrev pub PartedBy : Parted → ℕ → List ℕ → List ℕ → ℕ → List ℕ → Type 0
PartedBy q n tp out at out' =
    (b : Receiver) (k : ℕ) (l : Lane) (o : ℕ) (m : List ℕ) → Lends b 4 tp m → Tidy b.limit l → o < 2048 → PartBy q l o b k n tp m out at out'

-- and whatever its lines: it moved on, or nothing was put
pub record PartSteady (q : Parted) (tp out out' : List ℕ) (held : ℕ) : Type 0 where
  pub ten : Kept q.held.ten
  pub at : held ≤ q.held.at
  pub from : 4 ≤ q.place
  pub within : q.place ≤ length tp
  pub more : 4 < q.place → held < q.held.at
  pub none : q.place ≡ 4 → (out' ≡ out) × (q.held.at ≡ held)
  pub behind : q.within ≡ false → held < q.held.at

-- what it leaves to calls: all where it stands at its start, else what follows its place
abbrev pub part_left : Parted → ℕ → Left
part_left q o = cond q.within (cond (eqb q.place 4) All (From (Low o) q.place)) (From (Due o) q.place)
