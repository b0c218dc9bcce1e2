-- The lane of a receiver before a TP stands for that receiver. Assumes nothing.
use Prim.Native.Nat.{ℕ, ◌+◌, ◌≤◌, ◌<◌, ◌^◌}
use mathlib.Core.Path.{◌≡◌, refl, sym, subst, ap, ◌∙◌}
use mathlib.Core.Bool.{Bool, true, false, not, ◌&&◌}
use native.Mathlib.Omega.{arith}
use lib.Dec.{eqb}
use borrow.Author.Tests.{eqb-true}
use Rattle.std.specs.Prelude.{None, Option}
use Rattle.wire.specs.declared.Header.{Header}
use Rattle.receiver.specs.declared.Place.{Place}
use Rattle.receiver.specs.declared.Receiver.{Receiver}
use Rattle.receiver.specs.declared.Stage.{Stage}
use Rattle.receiver.specs.declared.Stage.TheVariants.{Fresh}
use Rattle.receiver.specs.declared.lane.Lane.{Lane}
use Rattle.receiver.specs.declared.lane.Lane.TheVariants as L
use Rattle.receiver.specs.declared.walk.Kept.{Kept}
use Rattle.receiver.specs.declared.walk.Phase.{Phase}
use Rattle.receiver.specs.declared.walk.Phase.TheVariants.{Head, Body}
use Rattle.receiver.specs.declared.walk.Walk.{Walk}
use Rattle.receiver.specs.InLanes.{FitsIf, StandsAs, StandsFor}
use Rattle.receiver.specs.Lanes.{LanedAs, StandsIn, complete_of, walk_in}
use Rattle.receiver.specs.State.{Fine, Settled, kept_by}
use Rattle.receiver.specs.Turns.{walk_at}
use Rattle.receiver.proofs.LaneAhead.{complete_is}

-- places that the derived `==` calls the same
pub same_of_lem : (a b : Place) → false ≡ not ((eqb a.stamp.number b.stamp.number && eqb a.stamp.byte b.stamp.byte) && eqb a.at b.at) → a ≡ b
same_of_lem a b e = go (eqb a.stamp.number b.stamp.number) (eqb a.stamp.byte b.stamp.byte) (eqb a.at b.at) refl refl refl e
  where
    go : (x y z : Bool) → eqb a.stamp.number b.stamp.number ≡ x → eqb a.stamp.byte b.stamp.byte ≡ y → eqb a.at b.at ≡ z → false ≡ not ((x && y) && z) → a ≡ b
    go true true true p q r e =
        ap (λ (i : ℕ). record { stamp = record { number = i; byte = a.stamp.byte }; at = a.at }) (eqb-true a.stamp.number b.stamp.number p)
        ∙ ap (λ (i : ℕ). record { stamp = record { number = b.stamp.number; byte = i }; at = a.at }) (eqb-true a.stamp.byte b.stamp.byte q)
        ∙ ap (λ (i : ℕ). record { stamp = b.stamp; at = i }) (eqb-true a.at b.at r)
    go true true false p q r e = cc
    go true false z p q r e = cc
    go false y z p q r e = cc

module _ (cap : ℕ) (p : Phase) (g : Place) where
  pub unkept_idle : (n w : ℕ) → p ≡ Head n w → n ≡ 0 → Settled p → StandsFor cap L.Idle (walk_at 0 p g None)
  unkept_idle n w e z s =
      let f : (0 ≤ 5) × (w < 256 ^ 0) = subst Settled (e ∙ ap (λ (i : ℕ). Head i w) z) s in
      let y : w ≡ 0 = omega (arith, f.1) in
      (ap (λ (q : Phase). walk_at 0 q g None) (e ∙ ap (λ (i : ℕ). Head i w) z ∙ ap (Head 0) y), omega arith)

  pub unkept_cut : (n w : ℕ) → p ≡ Head n w → (n ≡ 0 → ⊥) → Settled p → StandsFor cap (L.Cut g n w) (walk_at 0 p g None)
  unkept_cut n w e z s =
      let f : (n ≤ 5) × (w < 256 ^ n) = subst Settled e s in
      (ap (λ (q : Phase). walk_at 0 q g None) e, (omega (arith, z), f.0, f.1))

  module _ (h : Header) (left : ℕ) (e : p ≡ Body h left) (c r : ℕ) (q : Place) (len : ℕ) (s : Settled p) (f : Fine cap p (kept_by c r q len)) where
    pub kept_roomy : len + left ≤ cap
    kept_roomy = subst (λ (x : Phase). Fine cap x (kept_by c r q len)) e f

    pub kept_busy : FitsIf true h cap → h.content ≡ c → h.flips ≡ r → h.size ≡ len + left → g ≡ q
        → StandsFor cap (L.Busy g left len c h.flips) (walk_at 0 p g (kept_by c r q len))
    kept_busy t a b z y =
        let l : 0 < left = subst Settled e s in
        let u : h ≡ complete_of c (len + left) h.flips =
        complete_is h (len + left) t.2 z ∙ ap (λ (i : ℕ). complete_of i (len + left) h.flips) a in
        let k : ◌≡◌ {A = Option Kept} (kept_by c r q len) (kept_by c h.flips g len) = ap (λ (i : ℕ). kept_by c i q len) (sym b) ∙ ap (λ (x : Place). kept_by c h.flips x len) (sym y) in
        let v : p ≡ Body (complete_of c (len + left) h.flips) left = e ∙ ap (λ (x : Header). Body x left) u in (
          ap (λ (x : Phase). walk_at 0 x g (kept_by c r q len)) v ∙ ap (walk_at 0 (Body (complete_of c (len + left) h.flips) left) g) k,
          (l, kept_roomy, subst (λ (i : ℕ). 1 ≤ i) a t.3, subst (λ (i : ℕ). i ≤ 6) a t.4),
        )

pub walk_is : (v : Walk) (k : Option Kept) → v.at ≡ 0 → v.kept ≡ k → v ≡ walk_at 0 v.phase v.began k
walk_is v k z e = ap (λ (i : ℕ). walk_at i v.phase v.began v.kept) z ∙ ap (walk_at 0 v.phase v.began) e

-- the receiver whose walk a lane stands for
module _ (r : Receiver) (w : Walk) (s : r.stage ≡ Fresh) (e : r.walk ≡ w) where
  stands : (l : Lane) → StandsFor r.limit l w → StandsIn l r
  stands l f = (
    ap (λ (x : Stage). record { size = r.size; stream = r.stream; limit = r.limit; count = r.count; stage = x; walk = r.walk }) s
        ∙ ap (λ (x : Walk). record { size = r.size; stream = r.stream; limit = r.limit; count = r.count; stage = Fresh; walk = x })
        (e ∙ f.0 ∙ ap (λ (g : Place). walk_in g l 0) (ap (λ (x : Walk). x.began) (sym e))),
    f.1,
  )

  pub laned : (l : Lane) → StandsAs r.limit l w → LanedAs l r
  laned L.Other f = omega arith
  laned L.Lost f = stands L.Lost f
  laned L.Idle f = stands L.Idle f
  laned (L.Cut p n x) f = stands (L.Cut p n x) f
  laned (L.Busy p left len c i) f = stands (L.Busy p left len c i) f
