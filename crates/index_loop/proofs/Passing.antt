-- What lanes lead to: behind what is met the next EP lies within the TP, and what is left to calls can be asked for. Assumes nothing.
use Prim.Native.Nat.{ℕ, ◌≤◌, ◌<◌}
use mathlib.Core.Path.{◌≡◌, refl, ap, sym, subst, ◌∙◌}
use mathlib.Core.Bool.{Bool, true, false, cond}
use mathlib.Core.List.{List, []}
use native.Mathlib.Omega.{arith}
use lib.Dec.{eqb}
use lib.ListN.{length}
use borrow.Author.Tests.{eqb-true}
use Rattle.receiver.specs.State.{Able}
use Rattle.receiver.specs.Call.{Gave}
use Rattle.receiver.specs.Lanes.{Tidy, LanedAs, Lends, MetAs, call_by, in_lane, top_in}
use Rattle.receiver.specs.Lows.{lows_of}
use Rattle.receiver.specs.Pieces.{top_of}
use Rattle.receiver.specs.declared.Find.{Find}
use Rattle.receiver.specs.declared.Place.{Place}
use Rattle.receiver.specs.declared.Receiver.{Receiver}
use Rattle.receiver.specs.declared.Stage.{Stage}
use Rattle.receiver.specs.declared.Stage.TheVariants.{Due, Plain}
use Rattle.receiver.specs.declared.Stamp.{Stamp}
use Rattle.receiver.specs.declared.entry.Top.TheVariants.{Elsewhere, Says}
use Rattle.receiver.specs.declared.lane.Lane.{Lane}
use Rattle.receiver.specs.declared.lane.Lane.TheVariants as L
use Rattle.receiver.specs.declared.lane.Met.{Met}
use Rattle.receiver.specs.declared.lane.Met.TheVariants as M
use Rattle.receiver.specs.declared.low.Lows.{Lows}
use Rattle.receiver.specs.declared.low.Lows.TheVariants as W
use Rattle.receiver.proofs.Laning.{StageAt, lane_able}
use Rattle.receiver.proofs.TakingUp.{says_small}
use Rattle.receiver.proofs.Walking.{low_in_lem, place}
use Rattle.index_loop.specs.declared.lanes.Left.{Left}
use Rattle.index_loop.specs.declared.lanes.Left.TheVariants.{From}
use Rattle.index_loop.specs.declared.lanes.Noted.{Noted}
use Rattle.index_loop.specs.declared.lanes.Part.{Part}
use Rattle.index_loop.specs.declared.lanes.Part.TheVariants.{Within, Behind}
use Rattle.std.specs.declared.ops.ControlFlow.{ControlFlow}
use Rattle.std.specs.declared.ops.ControlFlow.TheVariants.{Continue, Break}
use Rattle.index_loop.specs.Lanes.{met_text, low_text, Looked, SetOut, LeftFits, PartFits, way_by, plain_at, part_by}

-- ---- what is left

pub from_fits : (b : Receiver) (l : Lane) (s : Stage) (at : ℕ) {tp m : List ℕ} → Lends b at tp m → Tidy (length m) l → StageAt s at → LeftFits b (From l s at)
from_fits b l s at e t f =
    let tidy = subst (λ (n : ℕ). Tidy n l) e.full t in
    (tidy, λ k. lane_able b k l s at e.size tidy (omega (arith, e.within, e.whole)) f)

pub plain_fits : (b : Receiver) (at : ℕ) {tp m : List ℕ} → Lends b at tp m → LeftFits b (plain_at at)
plain_fits b at e = from_fits b L.Idle Plain at e (omega arith) (omega arith)

-- ---- behind what is met

abbrev WayFits : Receiver → ControlFlow Left ℕ → Type 0
WayFits b (Continue i) = i ≤ b.size
WayFits b (Break l) = LeftFits b l

way_fits : (b : Receiver) (q : Met) (here : Left) (k : ℕ) (t : Stamp) (g : Gave) (tp m m' : List ℕ) → length tp ≡ b.size → MetAs q b k t g tp m m' → LeftFits b here
    → WayFits b (way_by q here)
way_fits b M.Other here k t g tp m m' e a f = f
way_fits b (M.Drops n) here k t g tp m m' e a f = omega arith
way_fits b (M.Ends l) here k t g tp m m' e a f = a.1
way_fits b (M.Reads i) here k t g tp m m' e a f = omega (arith, a.1, e)
way_fits b (M.Gives c r p n i) here k t g tp m m' e a f = omega (arith, a.1, e)

pub lends_on : (b : Receiver) (at i : ℕ) (tp m m' : List ℕ) → Lends b at tp m → length m' ≡ length m → i ≤ b.size → Lends b i tp m'
lends_on b at i tp m m' e s h = record { size = e.size; whole = e.whole; full = omega (arith, s, e.full); within = omega (arith, h, e.whole) }

-- what lends a TP from place o on lends it from this place on
abbrev pub Lent : ℕ → List ℕ → List ℕ → ℕ → List ℕ → Type 0
Lent o tp m₀ at m = (b : Receiver) → Lends b o tp m₀ → Lends b at tp m

-- between two EPs
module _ (o at : ℕ) (tp m₀ m m' : List ℕ) (covered : ℕ) (t : Stamp) (out out' : List ℕ) (held : ℕ) (r : Noted) (here : Left) (w : ControlFlow Left ℕ) (n : Lent o tp m₀ at m)
    (a : Looked covered at t tp m out held r m' out') (h : here ≡ plain_at at) (is : w ≡ way_by r.met here) where
  ahead_fits : (b : Receiver) → Lends b o tp m₀ → WayFits b w
  ahead_fits b d =
      let e = n b d in
      let f = way_fits b r.met (plain_at at) 0 t (call_by t (in_lane b 0 L.Idle Plain at) tp m) tp m m' e.whole (a.met b 0 e) (plain_fits b at e) in
      subst (WayFits b) (sym (is ∙ ap (way_by r.met) h)) f

  pub ahead_lent : (i : ℕ) → w ≡ Continue i → length m' ≡ length m → Lent o tp m₀ i m'
  ahead_lent i g s b d = lends_on b at i tp m m' (n b d) s (subst (WayFits b) g (ahead_fits b d))

-- behind the low-latency part
module _ (l : Lane) (o at : ℕ) (tp m m' : List ℕ) (covered : ℕ) (t : Stamp) (out out' : List ℕ) (held : ℕ) (r : Noted) (w : ControlFlow Left ℕ) (tidy : Tidy (length m) l) (four : 4 ≤ at)
    (small : o < 2048) (a : SetOut covered l o at t tp m out held r m' out') (is : w ≡ way_by r.met (From l (Due o) at)) where
  out_fits : (b : Receiver) → Lends b at tp m → WayFits b w
  out_fits b e =
      let f = way_fits b r.met (From l (Due o) at) 0 t (call_by t (in_lane b 0 l (Due o) at) tp m) tp m m' e.whole (a.met b 0 t e four small) (from_fits b l (Due o) at e tidy (small, four)) in
      subst (WayFits b) (sym is) f

  pub out_lent : (i : ℕ) → w ≡ Continue i → length m' ≡ length m → Lent at tp m i m'
  out_lent i g s b e = lends_on b at i tp m m' e s (subst (WayFits b) g (out_fits b e))

pub behind_lent : (at : ℕ) (p : Part) (tp m : List ℕ) → PartFits (length tp) p → p ≡ Behind at → Lent 4 tp m at m
behind_lent at p tp m f e b d = let h = subst (PartFits (length tp)) e f in lends_on b 4 at tp m m d refl (omega (arith, h.1, d.whole))

-- ---- the low-latency part

pub part_fits : (tp : List ℕ) (at : ℕ) (r : Lows) (p : Part) → 4 ≤ at → at ≤ length tp → r ≡ lows_of tp at → p ≡ part_by r → PartFits (length tp) p
part_fits tp at r p four h e f = subst (PartFits (length tp)) (sym f) (by r (low_in_lem true tp at r h (sym e)))
  where
    open_end : (more : Bool) (i : ℕ) → 4 ≤ i → i ≤ length tp → PartFits (length tp) (cond more (Within i) (Behind i))
    open_end true i a b = (a, b)
    open_end false i a b = (a, b)

    by : (r : Lows) → (at ≤ place r) × (place r ≤ length tp) → PartFits (length tp) (part_by r)
    by (W.Broken i) h = omega arith
    by (W.End i) h = (omega (arith, h.0, four), h.1)
    by (W.Gives x y z more i) h = open_end more i (omega (arith, h.0, four)) h.1

-- ---- what has no line

pub met_none : (covered n : ℕ) (q : Met) → ((c e : ℕ) (p : Place) (k i : ℕ) → q ≡ M.Gives c e p k i → ⊥) → met_text covered n q ≡ []
met_none covered n M.Other other = refl
met_none covered n (M.Drops k) other = refl
met_none covered n (M.Ends l) other = refl
met_none covered n (M.Reads i) other = refl
met_none covered n (M.Gives c e p k i) other = absurd (other c e p k i refl)

pub low_none : (covered : ℕ) (t : Stamp) (q : Lows) → ((f : Find) (e i : ℕ) (more : Bool) (n : ℕ) → q ≡ W.Gives f e i more n → ⊥) → low_text covered t q ≡ []
low_none covered t (W.Broken i) other = refl
low_none covered t (W.End i) other = refl
low_none covered t (W.Gives f e i more n) other = absurd (other f e i more n refl)

-- ---- a TP's header, and a receiver's lane

pub says : (r : Receiver) (tp : List ℕ) (low : Bool) (o : ℕ) → top_in r tp ≡ Says low o → (length tp ≡ r.size) × (o < 2048)
says r tp low o e = by (eqb (length tp) r.size) refl e
  where
    by : (x : Bool) → eqb (length tp) r.size ≡ x → cond x (top_of r.stream tp) Elsewhere ≡ Says low o → (length tp ≡ r.size) × (o < 2048)
    by true q e = (eqb-true (length tp) r.size q, says_small r.stream tp low o e)
    by false q e = let z : ◌≡◌ {A = ℕ} 0 1 = cc in (omega arith, omega arith)

-- a TP in a lane, by what its payload leaves
pub says_lends : (r : Receiver) (tp m : List ℕ) (low : Bool) (o : ℕ) → Able r → length m ≡ r.limit → top_in r tp ≡ Says low o → Lends r 4 tp m
says_lends r tp m low o a f e = let w = (says r tp low o e).0 in record { size = a.size; whole = w; full = f; within = omega (arith, w, a.size) }

pub laned : (l : Lane) (r : Receiver) → LanedAs l r → (l ≡ L.Other → 1 ≤ 0) → Tidy r.limit l
laned L.Other r a n = n refl
laned L.Lost r a n = a.1
laned L.Idle r a n = a.1
laned (L.Cut p i w) r a n = a.1
laned (L.Busy p i w c e) r a n = a.1
