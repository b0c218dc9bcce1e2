-- What the private functions of src/series.rt promise one another: a call on words in a series of fragments does what the call by value
-- does, or leaves the same call from further on. Assumes nothing.
use Rattle.std.specs.Prelude.{ℕ, ◌+◌, ◌-◌, ◌≤◌, ◌<◌, ◌≡◌, true, ◌⊎◌, List, length, None, Option, Some}
use Rattle.wire.specs.declared.Header.{Header}
use Rattle.receiver.specs.declared.Find.TheVariants as F
use Rattle.receiver.specs.declared.Place.{Place}
use Rattle.receiver.specs.declared.Receiver.{Receiver}
use Rattle.receiver.specs.declared.Stage.TheVariants.{Fresh, Plain}
use Rattle.receiver.specs.declared.Stamp.{Stamp}
use Rattle.receiver.specs.declared.kind.Kind.TheVariants.{First, Middle, Last}
use Rattle.receiver.specs.declared.series.Chain.{Chain}
use Rattle.receiver.specs.declared.series.Course.{Course}
use Rattle.receiver.specs.declared.series.Course.TheVariants as C
use Rattle.receiver.specs.declared.stages.Course.TheVariants.{Reads}
use Rattle.receiver.specs.declared.swift.Swift.{Swift}
use Rattle.receiver.specs.declared.walk.Answer.{Answer}
use Rattle.receiver.specs.declared.walk.Gain.{Gain}
use Rattle.receiver.specs.declared.walk.Gain.TheVariants.{Nothing, Packet}
use Rattle.receiver.specs.declared.walk.Phase.TheVariants.{Body}
use Rattle.receiver.specs.declared.walk.Walk.{Walk}
use Rattle.receiver.specs.Call.{call_of, counted_of, stage_call, stamps_of}
use Rattle.receiver.specs.InStages.{Leads}
use Rattle.receiver.specs.InStride.{EpAt, Stands, between}
use Rattle.receiver.specs.InSwift.{Done, Lent, between_at, made_of, told}
use Rattle.receiver.specs.InWalk.{Ends}
use Rattle.receiver.specs.Kind.{kind_of}
use Rattle.receiver.specs.Pieces.{none_of}
use Rattle.receiver.specs.Place.{own_of, place_at, start_of}
use Rattle.receiver.specs.State.{Sound, pull_of, kept_by}
use Rattle.receiver.specs.Turns.{walk_at}
use Rattle.receiver.specs.Words.{Bytes, fitb, receiver_in, words_of}

-- the first EP of a series, of at most so many data
abbrev pub FirstAt : List ℕ → ℕ → ℕ → Option Header → Type 0
FirstAt tp at most None = 0 ≤ 0
FirstAt tp at most (Some h) = EpAt First tp at h × (1 ≤ h.content) × (h.size ≤ most) × (h.flips ≡ 0)

-- the last EP of a series of this content, or a middle that the TP's end cuts, of at most so many data
abbrev pub LaterAt : List ℕ → ℕ → ℕ → ℕ → Option Header → Type 0
LaterAt tp at c most None = 0 ≤ 0
LaterAt tp at c most (Some h) =
    Stands tp at h × (h.content ≡ c) × (h.size ≤ most) × (h.flips ≡ 0) × ((kind_of h ≡ Last) ⊎ ((kind_of h ≡ Middle) × (length tp - (at + 6) < h.size)))

abbrev pub answer_of : Walk → Gain → Answer
answer_of w g = record { walk = w; gain = g }

-- in data of an EP that began there, at the TP's end
abbrev pub cut_at : Stamp → List ℕ → Header → ℕ → ℕ → ℕ → ℕ → Place → ℕ → Answer
cut_at t tp h from left c e p len = answer_of (walk_at (length tp) (Body h left) (place_at t from) (kept_by c e p len)) Nothing

-- the same call from between two EPs of the series
pub record Follows (t : Stamp) (x : Walk) (tp m₀ : List ℕ) (y : Walk) (m : List ℕ) : Type 0 where
  pub same : pull_of (length m₀) t y tp m ≡ pull_of (length m₀) t x tp m₀
  pub sound : Sound (length m₀) (length tp) y

-- what a call that reads on with x and the room's bytes m₀ comes to, in a series of this content, of this total repaired and begun there
abbrev pub CourseAs : Course → Stamp → Walk → List ℕ → List ℕ → List ℕ → ℕ → ℕ → Place → Type 0
CourseAs (C.Stops at len) t x tp m₀ m c e p = Follows t x tp m₀ (between at p (kept_by c e p len)) m
CourseAs (C.Ends len) t x tp m₀ m c e p = Ends (length m₀) t x tp m₀ (answer_of (between (length tp) p (kept_by c e p len)) Nothing) m
CourseAs (C.Cut h from left len) t x tp m₀ m c e p = Ends (length m₀) t x tp m₀ (cut_at t tp h from left c e p len) m
CourseAs (C.Whole len end) t x tp m₀ m c e p = Ends (length m₀) t x tp m₀ (answer_of (between end p None) (Packet c e p len)) m

-- from between two EPs of a series, of which so many bytes are in the room; no total passes its most
abbrev pub RunsAs : Course → List ℕ → ℕ → ℕ → ℕ → List ℕ → List ℕ → Type 0
RunsAs q tp start c first m₀ m =
    (t : Stamp) (e : ℕ) (p : Place) → e ≤ 4294967295 → CourseAs q t (between start p (kept_by c e p first)) tp m₀ m c e p

-- or in data that the TP's end cuts
pub record Runs (q : Course) (tp : List ℕ) (at c len : ℕ) (h : Header) (from left : ℕ) (m₀ m : List ℕ) : Type 0 where
  pub whole : left ≡ 0 → RunsAs q tp at c len m₀ m
  pub cut : 0 < left → (q ≡ C.Cut h from left len) × (m ≡ m₀)

-- a receiver, a TP and a room that a call may read, by the words
abbrev pub LentBy : List ℕ → List ℕ → List ℕ → Type 0
LentBy w tp m = Lent (receiver_in w) tp × (length m ≡ (receiver_in w).limit)

-- the call has come to a series: between two of its EPs, or in data that the TP's end cuts
pub record Chained (r : Receiver) (tp m₀ m : List ℕ) (at c e : ℕ) (p : Place) (len count : ℕ) (h : Header) (from left : ℕ) : Type 0 where
  pub start : Walk
  pub leads : Leads (stage_call r.stage r (counted_of r) (stamps_of r) tp) (counted_of r) (stamps_of r).now tp (Reads start)
  pub counted : count ≡ (counted_of r).count
  pub within : at ≤ length tp
  pub roomy : len ≤ length m₀
  pub known : 1 ≤ c
  pub most : e ≤ 4294967295
  pub whole : left ≡ 0 → pull_of (length m₀) (own_of count) (between at p (kept_by c e p len)) tp m ≡ pull_of (length m₀) (own_of count) start tp m₀
  pub cut : 0 < left → Ends (length m₀) (own_of count) start tp m₀ (cut_at (own_of count) tp h from left c e p len) m

-- or the room is left as it was
abbrev pub ChainAs : Option Chain → Receiver → List ℕ → List ℕ → List ℕ → Type 0
ChainAs None r tp m₀ m = m ≡ m₀
ChainAs (Some q) r tp m₀ m = Chained r tp m₀ m q.at q.content q.repaired q.first q.len q.count q.header q.from q.left

-- where a course leaves a receiver, and what it says
abbrev pub left_of : Course → Receiver → ℕ → ℕ → ℕ → Place → Receiver
left_of (C.Stops at len) r count c e p = made_of r count Plain (between at p (kept_by c e p len))
left_of (C.Ends len) r count c e p = made_of r count Fresh (between 0 p (kept_by c e p len))
left_of (C.Cut h from left len) r count c e p = made_of r count Fresh (walk_at 0 (Body h left) (place_at (own_of count) from) (kept_by c e p len))
left_of (C.Whole len end) r count c e p = made_of r count Plain (between_at end)

abbrev pub said_by : Course → ℕ → ℕ → ℕ → Place → Option Swift
said_by (C.Stops at len) count c e p = None
said_by (C.Ends len) count c e p = told F.Nothing (none_of (start_of (own_of count)))
said_by (C.Cut h from left len) count c e p = told F.Nothing (none_of (start_of (own_of count)))
said_by (C.Whole len end) count c e p = told (F.Ordinary c len) (record { repaired = e; at = p })

pub record Leaves (q : Option Swift) (o : Course) (r : Receiver) (count c e : ℕ) (p : Place) (w : List ℕ) : Type 0 where
  pub said : q ≡ said_by o count c e p
  pub words : w ≡ words_of (left_of o r count c e p)
  pub bytes : Bytes (left_of o r count c e p)

-- THE PROMISE of a call in a series: it is done; or what is left is the same call from the words and the room as they are now
abbrev pub SeriesAs : Option Swift → Receiver → List ℕ → List ℕ → List ℕ → List ℕ → Type 0
SeriesAs None r tp m₀ w m = (fitb w ≡ true) × (length m ≡ length m₀) × (call_of (receiver_in w) tp m ≡ call_of r tp m₀)
SeriesAs (Some q) r tp m₀ w m = Done r tp m₀ q.find q.about w m
