-- What the private functions of src/swift.rt promise one another: a call on words does what the call by value does, or leaves
-- it to that. Assumes nothing.
use Rattle.std.specs.Prelude.{ℕ, ◌≤◌, ◌<◌, ◌≡◌, Bool, true, false, cond, List, eqb, length, None, Ok, Option, Some}
use Rattle.wire.specs.declared.Header.{Header}
use Rattle.receiver.specs.declared.About.{About}
use Rattle.receiver.specs.declared.Find.{Find}
use Rattle.receiver.specs.declared.Find.TheVariants as F
use Rattle.receiver.specs.declared.Place.{Place}
use Rattle.receiver.specs.declared.Receiver.{Receiver}
use Rattle.receiver.specs.declared.Stage.{Stage}
use Rattle.receiver.specs.declared.Stage.TheVariants.{Fresh, Low, Due, Plain}
use Rattle.receiver.specs.declared.Step.{Step}
use Rattle.receiver.specs.declared.entry.Top.{Top}
use Rattle.receiver.specs.declared.entry.Top.TheVariants.{Elsewhere, Dropped, Says}
use Rattle.receiver.specs.declared.kind.Kind.{Kind}
use Rattle.receiver.specs.declared.kind.Kind.TheVariants.{Fill, Reserved, Complete, First, Middle, Last}
use Rattle.receiver.specs.declared.lane.Lane.{Lane}
use Rattle.receiver.specs.declared.lane.Lane.TheVariants as L
use Rattle.receiver.specs.declared.lane.Met.{Met}
use Rattle.receiver.specs.declared.lane.Met.TheVariants as M
use Rattle.receiver.specs.declared.swift.Part.{Part}
use Rattle.receiver.specs.declared.swift.Part.TheVariants as P
use Rattle.receiver.specs.declared.swift.Spot.{Spot}
use Rattle.receiver.specs.declared.swift.Spot.TheVariants as T
use Rattle.receiver.specs.declared.swift.Swift.{Swift}
use Rattle.receiver.specs.declared.walk.Phase.TheVariants.{Body}
use Rattle.receiver.specs.declared.walk.Walk.{Walk}
use Rattle.receiver.specs.Call.{Gave, Gives, call_of, count_in}
use Rattle.receiver.specs.InStride.{between}
use Rattle.receiver.specs.Kind.{kind_of}
use Rattle.receiver.specs.Lanes.{MetAs, Tidy, call_by, ends_in, in_lane, step_to}
use Rattle.receiver.specs.Outset.{place_of}
use Rattle.receiver.specs.Pieces.{none_of, top_of}
use Rattle.receiver.specs.Place.{own_of, start_of}
use Rattle.receiver.specs.State.{Able, kept_by}
use Rattle.receiver.specs.Words.{Bytes, words_of}

-- a receiver, a TP and a room that a call may read
pub record Lent (r : Receiver) (tp : List ℕ) : Type 0 where
  pub able : Able r
  pub whole : length tp ≡ r.size

-- before a TP, in data that are kept
pub record Busy (r : Receiver) (h : Header) (left c e : ℕ) (g : Place) (n : ℕ) : Type 0 where
  pub stage : r.stage ≡ Fresh
  pub phase : r.walk.phase ≡ Body h left
  pub kept : r.walk.kept ≡ kept_by c e g n

-- n bytes stand before the first EP that begins in a TP of this stream without low-latency part
pub record Behind (stream : ℕ) (tp : List ℕ) (n : ℕ) : Type 0 where
  pub offset : ℕ
  pub top : top_of stream tp ≡ Says false offset
  pub place : place_of offset 4 (length tp) ≡ Ok n

-- whether an EP's end hands out what is kept
abbrev pub hands_by : Kind → Bool
hands_by Fill = false
hands_by Reserved = false
hands_by Complete = true
hands_by First = false
hands_by Middle = false
hands_by Last = true

abbrev pub hands_of : Header → Bool
hands_of h = hands_by (kind_of h)

-- a receiver of r's settings
abbrev pub made_of : Receiver → ℕ → Stage → Walk → Receiver
made_of r count stage walk = record { size = r.size; stream = r.stream; limit = r.limit; count = count; stage = stage; walk = walk }

abbrev pub between_at : ℕ → Walk
between_at at = between at (start_of (own_of 0)) None

-- a call that is done: a step that it promises, whose find and words these are
pub record Done (r : Receiver) (tp m₀ : List ℕ) (f : Find) (a : About) (w m : List ℕ) : Type 0 where
  pub step : Step
  pub gives : Gives (call_of r tp m₀) step tp m
  pub bytes : Bytes step.receiver
  pub state : w ≡ words_of step.receiver
  pub find : f ≡ step.find
  pub about : a ≡ step.about

abbrev pub told : Find → About → Option Swift
told f a = Some (record { find = f; about = a })

-- or all is left as it was
abbrev pub SwiftAs : Option Swift → Receiver → List ℕ → List ℕ → List ℕ → List ℕ → List ℕ → Type 0
SwiftAs None r w₀ tp m₀ w m = (w ≡ w₀) × (m ≡ m₀)
SwiftAs (Some q) r w₀ tp m₀ w m = Done r tp m₀ q.find q.about w m

-- ---- in a lane

-- a receiver stands in a lane, in whatever stage, or in none
abbrev pub Stands : Lane → Receiver → Type 0
Stands l r = (r ≡ in_lane r r.count l r.stage r.walk.at) × Tidy r.limit l

abbrev pub LaneAs : Lane → Receiver → Type 0
LaneAs L.Other r = 0 ≤ 0
LaneAs L.Lost r = Stands L.Lost r
LaneAs L.Idle r = Stands L.Idle r
LaneAs (L.Cut p n w) r = Stands (L.Cut p n w) r
LaneAs (L.Busy p left len c e) r = Stands (L.Busy p left len c e) r

-- how many TPs are counted with the one lent
abbrev pub count_by : Receiver → ℕ
count_by r = count_in r.stage r.count

-- before a TP, by what its header says
abbrev pub first_spot : Top → Spot
first_spot Elsewhere = T.Other
first_spot (Dropped n) = T.Gone n
first_spot (Says low o) = cond low (T.Low o 4) (T.Due o 4)

-- among ordinary bytes
abbrev pub plain_spot : Lane → ℕ → ℕ → Spot
plain_spot L.Other at len = T.Other
plain_spot L.Lost at len = cond (eqb at len) T.Over T.Other
plain_spot L.Idle at len = T.Plain at
plain_spot (L.Cut p n w) at len = T.Other
plain_spot (L.Busy p left n c e) at len = T.Other

-- where the call g goes on, in lanes of b's settings with so many TPs counted: left open; "TP dropped", which puts out of step; none; or the call
-- in this stage at this place
abbrev pub SpotAs : Spot → Receiver → ℕ → Lane → Gave → List ℕ → List ℕ → Type 0
SpotAs T.Other b k l g tp m = 0 ≤ 0
SpotAs (T.Gone n) b k l g tp m = Gives g (step_to (in_lane b k L.Lost Fresh 0) (F.Notice n) (none_of (start_of (own_of k)))) tp m
SpotAs T.Over b k l g tp m = Gives g (ends_in (in_lane b k L.Lost Fresh 0) (own_of k)) tp m
SpotAs (T.Low o i) b k l g tp m = (call_by (own_of k) (in_lane b k l (Low o) i) tp m ≡ g) × (4 ≤ i) × (i ≤ length tp) × (o < 2048)
SpotAs (T.Due o i) b k l g tp m = (call_by (own_of k) (in_lane b k l (Due o) i) tp m ≡ g) × (4 ≤ i) × (i ≤ length tp) × (o < 2048)
SpotAs (T.Plain i) b k l g tp m = (call_by (own_of k) (in_lane b k L.Idle Plain i) tp m ≡ g) × (i ≤ length tp)

-- by a receiver, whatever room is lent
abbrev pub GoesAs : Spot → Receiver → Lane → List ℕ → Type 0
GoesAs q r l tp = (m : List ℕ) → length m ≡ r.limit → SpotAs q r (count_by r) l (call_of r tp m) tp m

-- before ordinary bytes: the call is done, or where it goes on, whatever room is lent
abbrev pub PartBy : Part → Receiver → ℕ → Lane → List ℕ → List ℕ → List ℕ → List ℕ → Type 0
PartBy (P.Told s) r k l tp m w₀ w = SwiftAs s r w₀ tp m w m
PartBy (P.On s) r k l tp m w₀ w = (w ≡ w₀) × SpotAs s r k l (call_of r tp m) tp m

abbrev pub PartAs : Part → Receiver → ℕ → Lane → List ℕ → List ℕ → List ℕ → Type 0
PartAs q r k l tp w₀ w = (m : List ℕ) → length m ≡ r.limit → PartBy q r k l tp m w₀ w

-- from the low-latency part on
abbrev pub LowPartAs : Part → Receiver → ℕ → Lane → ℕ → ℕ → List ℕ → List ℕ → List ℕ → Type 0
LowPartAs q r k l o at tp w₀ w =
    (m : List ℕ) → length m ≡ r.limit → call_by (own_of k) (in_lane r k l (Low o) at) tp m ≡ call_of r tp m → PartBy q r k l tp m w₀ w

-- the call is done or left as it was, whatever room is lent
abbrev pub ToldAs : Option Swift → Receiver → List ℕ → List ℕ → List ℕ → Type 0
ToldAs q r tp w₀ w = (m : List ℕ) → length m ≡ r.limit → SwiftAs q r w₀ tp m w m

-- a TP and a room of b's settings
pub record Suits (b : Receiver) (tp m : List ℕ) : Type 0 where
  pub size : 16 ≤ b.size
  pub whole : length tp ≡ b.size
  pub full : length m ≡ b.limit

-- what the call g comes to from its spot
abbrev pub DueAs : Met → Spot → Lane → List ℕ → List ℕ → List ℕ → Type 0
DueAs q s l tp m m' = (b : Receiver) (k : ℕ) (g : Gave) → Suits b tp m → SpotAs s b k l g tp m → MetAs q b k (own_of k) g tp m m'

-- and with what stands among ordinary bytes
abbrev pub OnAs : Met → Met → ℕ → List ℕ → List ℕ → List ℕ → Type 0
OnAs q x k tp m m' = (b : Receiver) (g : Gave) (m₀ : List ℕ) → Suits b tp m₀ → MetAs x b k (own_of k) g tp m₀ m → MetAs q b k (own_of k) g tp m₀ m'

-- a lane that is met is as calls leave it
abbrev pub TidyMet : ℕ → Met → Type 0
TidyMet cap M.Other = 0 ≤ 0
TidyMet cap (M.Drops n) = 0 ≤ 0
TidyMet cap (M.Ends l) = Tidy cap l
TidyMet cap (M.Reads i) = 0 ≤ 0
TidyMet cap (M.Gives c e p n end) = 0 ≤ 0

-- behind it, whatever TP of this length and room it was met in
abbrev pub BehindMet : Option Swift → Met → Receiver → ℕ → ℕ → List ℕ → List ℕ → Type 0
BehindMet q x r k len w₀ w =
    (tp m₀ m : List ℕ) → len ≡ length tp → MetAs x r k (own_of k) (call_of r tp m₀) tp m₀ m → SwiftAs q r w₀ tp m₀ w m
