-- In which order events come, whatever TPs and gaps there are: a header whole, the way into its EP, its data bytes, all of
-- them, its end; and a loss of step at any place. Assumes nothing.
use mathlib.Core.Bool.{Bool, false, true}
use mathlib.Core.List.{List, [], ◌++◌, ◌∷◌}
use Prim.Native.Nat.{suc, zero, ℕ}
use lib.Dec.{eqb}
use lib.ListN.{drop}
use Rattle.std.specs.Prelude.{None, Option, Some}
use Rattle.wire.specs.Reading.{header_of}
use Rattle.receiver.specs.declared.Place.{Place}
use Rattle.receiver.specs.declared.stages.Stamps.{Stamps}
use Rattle.receiver.specs.Forecast.{Way, agree, by_way, drops, foretold, gaps, goes, judge, start, stays, upon}
use Rattle.receiver.specs.Frame.{Event, Frame, after, body, closed, ending, entered, events, fed, gap, head, idle, lose, lost, opened, step, whole, within}
use Rattle.receiver.specs.Low.{Ep, ep_if, wire}
use Rattle.receiver.specs.Tp.{Input, Setting, brings, count_after, events_all, gap_told, input_of, stamping_of, tp_in}

-- between two EPs or out of step; at a header; in its EP, with so many data bytes to come
pub data Spot : Type 0 where
  apart : Spot
  met_at : Ep → Spot
  inside_of : Ep → ℕ → Spot

pub data Follows : Spot → Event wire → Spot → Type 0 where
  loses : {p : Spot} {n : ℕ} {g : Place} → Follows p (lose n g) apart
  breaks : {p : Spot} → Follows p gap apart
  opens : {h : Ep} → Follows apart (opened h) (met_at h)
  enters : {h : Ep} → Follows (met_at h) (entered h) (inside_of h h.header.size)
  feeds_on : {h : Ep} {k b : ℕ} → Follows (inside_of h (suc k)) (fed b) (inside_of h k)
  closes : {h : Ep} → Follows (inside_of h zero) (closed h) apart

pub data Flow : Spot → List (Event wire) → Spot → Type 0 where
  still : {p : Spot} → Flow p [] p
  next_to : {p q r : Spot} {e : Event wire} {es : List (Event wire)} → Follows p e q → Flow q es r → Flow p (e ∷ es) r

pub join : {p q r : Spot} {es fs : List (Event wire)} → Flow p es q → Flow q fs r → Flow p (es ++ fs) r
join still g = g
join (next_to x f) g = next_to x (join f g)

abbrev pub spot_of : Frame wire → Spot
spot_of lost = apart
spot_of idle = apart
spot_of (head g k hs) = apart
spot_of (body h k) = inside_of h (suc k)

ends_flow : (h : Ep) (n : ℕ) → Flow (inside_of h n) (ending wire h n) (spot_of (within wire h n))
ends_flow h zero = next_to closes still
ends_flow h (suc k) = still

whole_flow : (g : Place) (o : Option Ep) → Flow apart (whole wire g o).1 (spot_of (whole wire g o).0)
whole_flow g None = next_to loses still
whole_flow g (Some h) = next_to opens (next_to enters (ends_flow h h.header.size))

step_flow : (f : Frame wire) (b : Place × ℕ) → Flow (spot_of f) (step wire f b).1 (spot_of (step wire f b).0)
step_flow lost b = still
step_flow idle b = still
step_flow (head g zero hs) b = whole_flow g (ep_if g (header_of (hs ++ b.1 ∷ [])))
step_flow (head g (suc k) hs) b = still
step_flow (body h k) b = next_to feeds_on (ends_flow h k)

events_flow : (f : Frame wire) (bs : List (Place × ℕ)) → Flow (spot_of f) (events wire f bs) (spot_of (after wire f bs))
events_flow f [] = still
events_flow f (b ∷ bs) = join (step_flow f b) (events_flow (step wire f b).0 bs)

resume_flow : {p : Spot} {es : List (Event wire)} (l : List (Place × ℕ)) → Flow p es apart → Flow p es (spot_of (upon wire l))
resume_flow [] f = f
resume_flow (b ∷ l) f = f

agree_flow : (b : Bool) (g : Place) (f : Frame wire) (n : ℕ) (bs : List (Place × ℕ)) → Flow (spot_of f) (agree wire b g f n bs).told (spot_of (agree wire b g f n bs).frame)
agree_flow true g f n bs = still
agree_flow false g f n bs = resume_flow (drop n bs) (next_to loses still)

judge_flow : (o : Option ℕ) (g : Place) (f : Frame wire) (n : ℕ) (bs : List (Place × ℕ)) → Flow (spot_of f) (judge wire o g f n bs).told (spot_of (judge wire o g f n bs).frame)
judge_flow None g f n bs = resume_flow (drop n bs) (next_to loses still)
judge_flow (Some m) g f n bs = agree_flow (eqb m n) g f n bs

start_flow : (g : Place) (f : Frame wire) (n : ℕ) (bs : List (Place × ℕ)) → Flow (spot_of f) (start wire g f n bs).told (spot_of (start wire g f n bs).frame)
start_flow g lost n bs = resume_flow (drop n bs) still
start_flow g idle n bs = judge_flow (foretold wire idle bs) g idle n bs
start_flow g (head s k hs) n bs = judge_flow (foretold wire (head s k hs) bs) g (head s k hs) n bs
start_flow g (body h k) n bs = judge_flow (foretold wire (body h k) bs) g (body h k) n bs

-- a way, from this frame
abbrev Flows : Frame wire → Way wire → Type 0
Flows f w = Flow (spot_of f) (by_way wire f w).1 (spot_of (by_way wire f w).0)

goes_flow : (g : Place) (f : Frame wire) (n : ℕ) (bs : List (Place × ℕ)) → Flows f (goes g n bs)
goes_flow g f n bs = let t = start wire g f n bs in join (start_flow g f n bs) (events_flow t.frame (drop t.past bs))

way_flow : (w : Way wire) (f : Frame wire) → Flows f w
way_flow stays f = still
way_flow (drops n g) f = next_to loses still
way_flow gaps f = next_to breaks still
way_flow (goes g n bs) f = goes_flow g f n bs

input_flow : (s : Setting) (n : Stamps) (f : Frame wire) (x : Input) → Flow (spot_of f) (input_of s n f x).told (spot_of (input_of s n f x).frame)
input_flow s n f gap_told = way_flow gaps f
input_flow s n f (tp_in tp) = way_flow (brings s n tp).way f

-- THE FLOW of any number of TPs and gaps, so many TPs counted before
pub all_flow : (s : Setting) (n : ℕ) (f : Frame wire) (xs : List Input) → (p : Spot) × Flow (spot_of f) (events_all s n f xs) p
all_flow s n f [] = (spot_of f, still)
all_flow s n f (x ∷ xs) =
    let r = all_flow s (count_after s n x) (input_of s (stamping_of n) f x).frame xs in
    (r.0, join (input_flow s (stamping_of n) f x) r.1)
