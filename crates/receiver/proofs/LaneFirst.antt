-- A TP's first call in a lane, by what its header says; a call in the low-latency part; and calls by the receiver's own count. Assumes nothing.
use mathlib.Core.Path.{◌≡◌, refl, sym, subst, ap, ◌∙◌}
use mathlib.Core.Bool.{Bool, false, true, cond}
use mathlib.Core.List.{List}
use Prim.Native.Nat.{suc, zero, ℕ, ◌+◌, ◌-◌, ◌≤◌, ◌<◌}
use native.Mathlib.Omega.{arith}
use lib.Dec.{eqb}
use lib.ListN.{drop, length}
use borrow.Author.Tests.{eq-eqb, eqb-true}
use Rattle.std.specs.Prelude.{None, Option, Some}
use Rattle.wire.specs.declared.Header.{Header}
use Rattle.receiver.specs.declared.About.{About}
use Rattle.receiver.specs.declared.Find.TheVariants as F
use Rattle.receiver.specs.declared.Place.{Place}
use Rattle.receiver.specs.declared.Receiver.{Receiver}
use Rattle.receiver.specs.declared.Stage.{Stage}
use Rattle.receiver.specs.declared.Stage.TheVariants.{Fresh, Low, Due, Plain}
use Rattle.receiver.specs.declared.Stamp.{Stamp}
use Rattle.receiver.specs.declared.entry.Top.{Top}
use Rattle.receiver.specs.declared.entry.Top.TheVariants.{Dropped, Elsewhere, Says}
use Rattle.receiver.specs.declared.kind.Kind.{Kind}
use Rattle.receiver.specs.declared.kind.Kind.TheVariants.{Complete, Fill, First, Last, Middle, Reserved}
use Rattle.receiver.specs.declared.lane.Lane.{Lane}
use Rattle.receiver.specs.declared.lane.Lane.TheVariants as L
use Rattle.receiver.specs.declared.low.Lows.{Lows}
use Rattle.receiver.specs.declared.low.Lows.TheVariants as W
use Rattle.receiver.specs.declared.stages.Stamps.{Stamps}
use Rattle.receiver.specs.declared.walk.Kept.{Kept}
use Rattle.receiver.specs.declared.walk.Phase.{Phase}
use Rattle.receiver.specs.declared.walk.Phase.TheVariants.{Lost}
use Rattle.receiver.specs.Call.{Gave, Gives, always, call_as, call_of, count_in, counted_of, due_call, lasts, low_call, moved, payload_call, said_of, stage_call, stamps_of, stepped}
use Rattle.receiver.specs.Forecast.{outset}
use Rattle.receiver.specs.InSwift.{made_of}
use Rattle.receiver.specs.Kind.{kind_of}
use Rattle.receiver.specs.Lanes.{Drops, FirstAs, Lends, LowAs, Tidy, call_by, in_lane, top_in}
use Rattle.receiver.specs.Low.{llep, wire}
use Rattle.receiver.specs.Lows.{and_then, lows, lows_of, one_of, passed_of}
use Rattle.receiver.specs.Pieces.{step_of, top_of}
use Rattle.receiver.specs.Place.{count_of, own_of, place_at, placed, start_of}
use Rattle.receiver.specs.State.{frame_of, from}
use Rattle.receiver.specs.Turns.{walk_at}
use Rattle.receiver.proofs.Calling.{drop_gives}
use Rattle.receiver.proofs.LaneAhead.{drops_at}
use Rattle.receiver.proofs.LaneOut.{settings_only}
use Rattle.receiver.proofs.Laning.{StageAt, at_in, lane_able}
use Rattle.receiver.proofs.TakingUp.{drops_small, fresh_top, fresh_by}
use Rattle.receiver.proofs.Walking.{low_in_lem}

-- a call whose TP and room are of the settings' lengths
call_is : (r : Receiver) (n : Stamps) (tp m : List ℕ) → length m ≡ r.limit → length tp ≡ r.size → stage_call r.stage r (counted_of r) n tp m ≡ call_as r n tp m
unfolding call_as
call_is r n tp m f w = rw (eq-eqb (length m) r.limit f, eq-eqb (length tp) r.size w) refl

-- ---- before ordinary bytes nobody looks at the stage, nor at where the walk stood

low_at_lem : (b : Receiver) (k : ℕ) (s s' : Stage) (i j : ℕ) (p : Phase) (g : Place) (y : Option Kept) (x : Lows) (t : Stamp) (o : ℕ) (tp m : List ℕ)
    → low_call x (made_of b k s (walk_at i p g y)) t o tp m ≡ low_call x (made_of b k s' (walk_at j p g y)) t o tp m
unfolding due_call
low_at_lem b k s s' i j p g y (W.Broken at) t o tp m = refl
low_at_lem b k s s' i j p g y (W.End at) t o tp m = settings_only b k s s' (walk_at i p g y) (walk_at j p g y) t
    (from (length m) t (outset wire (start_of t) (frame_of g p) o (at - 4) (placed t at (drop at tp))) (walk_at at p g y) tp m)
low_at_lem b k s s' i j p g y (W.Gives f e z more at) t o tp m = refl

module _ (b : Receiver) (k : ℕ) (t : Stamp) (tp m : List ℕ) where
  low_in_lane : (l : Lane) (s s' : Stage) (i j : ℕ) (x : Lows) (o : ℕ) → low_call x (in_lane b k l s i) t o tp m ≡ low_call x (in_lane b k l s' j) t o tp m
  low_in_lane L.Other s s' i j x o = low_at_lem b k s s' i j _ _ _ x t o tp m
  low_in_lane L.Lost s s' i j x o = low_at_lem b k s s' i j _ _ _ x t o tp m
  low_in_lane L.Idle s s' i j x o = low_at_lem b k s s' i j _ _ _ x t o tp m
  low_in_lane (L.Cut p n w) s s' i j x o = low_at_lem b k s s' i j _ _ _ x t o tp m
  low_in_lane (L.Busy p left len c e) s s' i j x o = low_at_lem b k s s' i j _ _ _ x t o tp m

  module _ (full : length m ≡ b.limit) (whole : length tp ≡ b.size) where
    low_is : (l : Lane) (o at : ℕ) → call_by t (in_lane b k l (Low o) at) tp m ≡ low_call (lows_of tp at) (in_lane b k l (Low o) at) t o tp m
    low_is l o at =
        sym (call_is (in_lane b k l (Low o) at) (always t) tp m full whole)
        ∙ ap (λ (i : ℕ). low_call (lows_of tp i) (in_lane b k l (Low o) at) t o tp m) (sym (at_in b.walk.began l at))

    due_is : (l : Lane) (o at : ℕ) → call_by t (in_lane b k l (Due o) at) tp m ≡ low_call (W.End at) (in_lane b k l (Due o) at) t o tp m
    due_is l o at =
        sym (call_is (in_lane b k l (Due o) at) (always t) tp m full whole)
        ∙ ap (λ (i : ℕ). low_call (W.End i) (in_lane b k l (Due o) at) t o tp m) (sym (at_in b.walk.began l at))

    -- at the payload's start
    part_is : (low : Bool) (l : Lane) (o : ℕ) → call_by t (in_lane b k l (cond low (Low o) (Due o)) 4) tp m ≡ payload_call low (in_lane b k l Fresh 0) t o tp m
    part_is true l o = low_is l o 4 ∙ low_in_lane l (Low o) Fresh 4 0 (lows_of tp 4) o
    part_is false l o = due_is l o 4 ∙ low_in_lane l (Due o) Fresh 4 0 (W.End 4) o

-- ---- a TP's first call

first_is : (b : Receiver) (k : ℕ) (l : Lane) (n : Stamps) (tp m : List ℕ) (q : Top) → length m ≡ b.limit → length tp ≡ b.size → top_of b.stream tp ≡ q
    → fresh_by q (in_lane b k l Fresh 0) n tp m ≡ call_as (in_lane b k l Fresh 0) n tp m
first_is b k l n tp m q full whole e =
    let r = in_lane b k l Fresh 0 in
    ap (λ (x : Top). fresh_by x r n tp m) (sym e) ∙ fresh_top r n tp m ∙ call_is r n tp m full whole

pub first_as : (b : Receiver) (k : ℕ) (l : Lane) (t : Stamp) (tp m : List ℕ) → 16 ≤ b.size → length m ≡ b.limit → Tidy b.limit l
    → FirstAs (top_in b tp) b k l t (call_by t (in_lane b k l Fresh 0) tp m) tp m
unfolding stepped
first_as b k l t tp m size full y = by (eqb (length tp) b.size) (top_of b.stream tp) refl refl
  where
    by : (x : Bool) (q : Top) → eqb (length tp) b.size ≡ x → top_of b.stream tp ≡ q → FirstAs (cond x q Elsewhere) b k l t (call_by t (in_lane b k l Fresh 0) tp m) tp m
    by false q e f = omega arith
    by true Elsewhere e f = omega arith
    by true (Dropped n) e f =
        let whole = eqb-true (length tp) b.size e in
        (record { same = first_is b k l (always t) tp m (Dropped n) full whole f; able = lane_able b (count_of k) L.Lost Fresh 0 size (omega arith) (omega arith) (omega arith) }, drops_small b.stream tp n f)
    by true (Says low o) e f =
        let whole = eqb-true (length tp) b.size e in
        part_is b (count_of k) t tp m full whole low l o ∙ first_is b k l (always t) tp m (Says low o) full whole f

-- ---- the low-latency part

-- no find of it ends the TP
abbrev LastsIf : Lows → Type 0
LastsIf (W.Broken i) = 0 ≤ 0
LastsIf (W.End i) = 0 ≤ 0
LastsIf (W.Gives f e i more end) = lasts f ≡ true

passed_lasts : (d : Kind) (h : Header) (more : Bool) (at : ℕ) (go : ℕ → Lows) → ((i : ℕ) → LastsIf (go i)) → LastsIf (and_then (passed_of d h more at) go)
passed_lasts Fill h true at go ih = ih (at + 7 + h.size)
passed_lasts Fill h false at go ih = omega arith
passed_lasts Reserved h more at go ih = refl
passed_lasts Complete h more at go ih = refl
passed_lasts First h more at go ih = refl
passed_lasts Middle h more at go ih = refl
passed_lasts Last h more at go ih = refl

one_lasts : (l : Option (Header × Bool)) (at : ℕ) (go : ℕ → Lows) → ((i : ℕ) → LastsIf (go i)) → LastsIf (and_then (one_of l at) go)
one_lasts None at go ih = omega arith
one_lasts (Some (h, more)) at go ih = passed_lasts (kind_of h) h more at go ih

lows_last : (k : ℕ) (tp : List ℕ) (at : ℕ) → LastsIf (lows k tp at)
unfolding lows
lows_last zero tp at = omega arith
lows_last (suc k) tp at = one_lasts (llep (drop at tp)) at (λ i. lows k tp i) (λ i. lows_last k tp i)

low_last : (tp : List ℕ) (at : ℕ) → LastsIf (lows_of tp at)
unfolding lows_of
low_last tp at = lows_last (suc (length tp)) tp at

-- 11 is told where the LLEP stands
pub low_broken : (b : Receiver) (k : ℕ) (l : Lane) (o at : ℕ) (t : Stamp) (tp m : List ℕ) → Lends b at tp m → (i : ℕ) → lows_of tp at ≡ W.Broken i
    → (d : Drops b k t 11 (call_by t (in_lane b k l (Low o) at) tp m) tp m) × (d.place ≡ i)
low_broken b k l o at t tp m d i e =
    let r = in_lane b k l (Low o) at in
    let s = step_of r Plain (length tp) Lost None (F.Notice 11) (place_at t i) in
    let inside = low_in_lem true tp at (W.Broken i) d.within e in
    let is : low_call (W.Broken i) r t o tp m ≡ call_by t r tp m = ap (λ (x : Lows). low_call x r t o tp m) (sym e) ∙ sym (low_is b k t tp m d.full d.whole l o at) in
    drops_at b k t at tp m d (Low o) r.walk (call_by t r tp m) 11 i (omega arith, refl, omega arith)
    (subst (λ (g : Gave). Gives g s tp m) is (drop_gives r t tp m d.size d.whole d.full 11 (place_at t i) i inside.1))

pub low_as : (b : Receiver) (k : ℕ) (l : Lane) (o at : ℕ) (t : Stamp) (tp m : List ℕ) → Lends b at tp m → Tidy b.limit l → 4 ≤ at → o < 2048
    → LowAs (lows_of tp at) b k l o t (call_by t (in_lane b k l (Low o) at) tp m) tp m
unfolding stepped
low_as b k l o at t tp m d y payload small = by (lows_of tp at) refl
  where
    r : Receiver
    r = in_lane b k l (Low o) at

    is : (x : Lows) → lows_of tp at ≡ x → low_call x r t o tp m ≡ call_by t r tp m
    is x e = ap (λ (x : Lows). low_call x r t o tp m) (sym e) ∙ sym (low_is b k t tp m d.full d.whole l o at)

    staged : (more : Bool) (i : ℕ) → 4 ≤ i → StageAt (cond more (Low o) (Due o)) i
    staged true i p = (small, p)
    staged false i p = (small, p)

    by : (x : Lows) → lows_of tp at ≡ x → LowAs x b k l o t (call_by t r tp m) tp m
    by (W.Broken i) e = (low_broken b k l o at t tp m d i e).0
    by (W.End i) e = due_is b k t tp m d.full d.whole l o i ∙ low_in_lane b k t tp m l (Due o) (Low o) i at (W.End i) o ∙ is (W.End i) e
    by (W.Gives f c i more end) e =
        let s = cond more (Low o) (Due o) in
        let a : About = record { repaired = c; at = place_at t i } in
        let x = W.Gives f c i more end in
        let inside = low_in_lem true tp at x d.within e in (
          record {
            same = ap (λ (j : ℕ). moved (in_lane b k l s end) s j (said_of f a tp m) m) (sym (at_in b.walk.began l end))
                ∙ low_in_lane b k t tp m l s (Low o) end at x o
                ∙ is x e;
            able = lane_able b k l s end d.size y (omega (arith, inside.1, d.whole)) (staged more end (omega (arith, inside.0, payload)));
          },
          subst LastsIf e (low_last tp at),
        )

-- ---- by the receiver's own count

-- a TP's first call that is of its length and stream
pub own_first : (b : Receiver) (k : ℕ) (l : Lane) (tp m : List ℕ) → (top_in b tp ≡ Elsewhere → ⊥) → length m ≡ b.limit
    → call_of (in_lane b k l Fresh 0) tp m ≡ call_by (own_of (count_of k)) (in_lane b k l Fresh 0) tp m
unfolding call_of
own_first b k l tp m f full = by (eqb (length tp) b.size) (top_of b.stream tp) refl refl f
  where
    r : Receiver
    r = in_lane b k l Fresh 0

    by : (x : Bool) (q : Top) → eqb (length tp) b.size ≡ x → top_of b.stream tp ≡ q → (cond x q Elsewhere ≡ Elsewhere → ⊥)
        → call_as r (stamps_of r) tp m ≡ call_by (own_of (count_of k)) r tp m
    by false q e g other = absurd (other refl)
    by true Elsewhere e g other = absurd (other refl)
    by true (Dropped n) e g other =
        let whole = eqb-true (length tp) b.size e in
        sym (first_is b k l (stamps_of r) tp m (Dropped n) full whole g) ∙ first_is b k l (always (own_of (count_of k))) tp m (Dropped n) full whole g
    by true (Says low o) e g other =
        let whole = eqb-true (length tp) b.size e in
        sym (first_is b k l (stamps_of r) tp m (Says low o) full whole g) ∙ first_is b k l (always (own_of (count_of k))) tp m (Says low o) full whole g

-- wherever the walk stood
pub own_first_at : (b : Receiver) (k : ℕ) (l : Lane) (at : ℕ) (tp m : List ℕ) → length tp ≡ b.size → (top_of b.stream tp ≡ Elsewhere → ⊥) → length m ≡ b.limit
    → call_of (in_lane b k l Fresh at) tp m ≡ call_by (own_of (count_of k)) (in_lane b k l Fresh 0) tp m
unfolding call_of
own_first_at b k l at tp m whole f full = by (top_of b.stream tp) refl f
  where
    r : Receiver
    r = in_lane b k l Fresh at

    t : Stamp
    t = own_of (count_of k)

    is : (q : Top) → top_of b.stream tp ≡ q → call_as r (stamps_of r) tp m ≡ fresh_by q r (stamps_of r) tp m
    is q e = sym (call_is r (stamps_of r) tp m full whole) ∙ sym (fresh_top r (stamps_of r) tp m) ∙ ap (λ (x : Top). fresh_by x r (stamps_of r) tp m) e

    moved_to : (low : Bool) (o : ℕ) → payload_call low (in_lane b (count_of k) l Fresh at) t o tp m ≡ payload_call low (in_lane b (count_of k) l Fresh 0) t o tp m
    moved_to true o = low_in_lane b (count_of k) t tp m l Fresh Fresh at 0 (lows_of tp 4) o
    moved_to false o = low_in_lane b (count_of k) t tp m l Fresh Fresh at 0 (W.End 4) o

    by : (q : Top) → top_of b.stream tp ≡ q → (q ≡ Elsewhere → ⊥) → call_as r (stamps_of r) tp m ≡ call_by t (in_lane b k l Fresh 0) tp m
    by Elsewhere e other = absurd (other refl)
    by (Dropped n) e other = is (Dropped n) e ∙ first_is b k l (always t) tp m (Dropped n) full whole e
    by (Says low o) e other = is (Says low o) e ∙ moved_to low o ∙ first_is b k l (always t) tp m (Says low o) full whole e

-- a later call, which counts nothing
pub own_later : (b : Receiver) (k : ℕ) (l : Lane) (s : Stage) (at : ℕ) (tp m : List ℕ) → count_in s k ≡ k
    → call_of (in_lane b k l s at) tp m ≡ call_by (own_of k) (in_lane b k l s at) tp m
unfolding call_of
own_later b k l s at tp m e = ap (λ (n : ℕ). call_as (in_lane b k l s at) (record { before = own_of k; now = own_of n }) tp m) e

pub part_counts : (more : Bool) (o k : ℕ) → count_in (cond more (Low o) (Due o)) k ≡ k
part_counts true o k = refl
part_counts false o k = refl
