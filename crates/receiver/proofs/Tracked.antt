-- The lane that a track says, by its sort, and the track of a receiver before a TP. Assumes nothing.
use Prim.Native.Nat.{ℕ, ◌≤◌, ◌<◌, ◌%◌}
use mathlib.Core.Path.{◌≡◌, refl, sym, subst, ap, ◌∙◌}
use mathlib.Core.Bool.{Bool, cond, true, false}
use native.Mathlib.Nat.{mod-eq_of_lt}
use native.Mathlib.Omega.{arith}
use lib.Dec.{eqb}
use borrow.Author.Tests.{eqb-true, ne_eqb}
use Rattle.std.specs.Prelude.{None}
use Rattle.wire.specs.declared.Header.{Header}
use Rattle.receiver.specs.declared.Place.{Place}
use Rattle.receiver.specs.declared.Receiver.{Receiver}
use Rattle.receiver.specs.declared.Stage.TheVariants.{Fresh}
use Rattle.receiver.specs.declared.lane.Lane.{Lane}
use Rattle.receiver.specs.declared.lane.Lane.TheVariants as L
use Rattle.receiver.specs.declared.kind.Kind.TheVariants.{Complete}
use Rattle.receiver.specs.declared.track.Track.{Track}
use Rattle.receiver.specs.declared.walk.Phase.{Phase}
use Rattle.receiver.specs.declared.walk.Phase.TheVariants.{Body, Head, Lost}
use Rattle.receiver.specs.declared.walk.Walk.{Walk}
use Rattle.receiver.specs.InLanes.{FitsIf, StandsAs}
use Rattle.receiver.specs.InTracks.{KeptAs, UnkeptAs}
use Rattle.receiver.specs.Kind.{kind_of}
use Rattle.receiver.specs.Lanes.{LanedAs, Tidy}
use Rattle.receiver.specs.State.{Fine, Settled, kept_by}
use Rattle.receiver.specs.Tracks.{Kempt, Own, OwnIn, TracksAs, lane_in, place_in}
use Rattle.receiver.specs.Turns.{walk_at}
use Rattle.receiver.proofs.Laned.{kept_busy, laned, unkept_cut, unkept_idle}

-- lane_in, with the sort by itself
abbrev lane_by : Track → ℕ → Lane
lane_by t s =
    cond (eqb s 0) L.Lost (
    cond (eqb s 1) L.Idle (
    cond (eqb s 2) (L.Cut (place_in t) t.have t.word) (cond (eqb s 3) (L.Busy (place_in t) t.left t.len t.content t.flips) L.Other)
    )
    )

module _ (t : Track) where
  pub lane_lost : t.sort ≡ 0 → lane_in t ≡ L.Lost
  lane_lost e = ap (lane_by t) e

  pub lane_idle : t.sort ≡ 1 → lane_in t ≡ L.Idle
  lane_idle e = ap (lane_by t) e

  pub lane_cut : (p : Place) → p ≡ place_in t → t.sort ≡ 2 → L.Cut p t.have t.word ≡ lane_in t
  lane_cut p q e = ap (λ (x : Place). L.Cut x t.have t.word) q ∙ sym (ap (lane_by t) e)

  lane_busy : t.sort ≡ 3 → lane_in t ≡ L.Busy (place_in t) t.left t.len t.content t.flips
  lane_busy e = ap (lane_by t) e

  lane_none : t.sort ≡ 4 → lane_in t ≡ L.Other
  lane_none e = ap (lane_by t) e

  -- a track that loops carry is of one of four sorts
  last_sort : (cap s : ℕ) → (s ≡ 0 → ⊥) → (s ≡ 1 → ⊥) → (s ≡ 2 → ⊥) → Tidy cap (lane_by t s) → s ≡ 3
  last_sort cap s a b c k = go (eqb s 3) refl
    where
      go : (x : Bool) → eqb s 3 ≡ x → s ≡ 3
      go true e = eqb-true s 3 e
      go false e =
          let no : 1 ≤ 0 = rw (ne_eqb s 0 a, ne_eqb s 1 b, ne_eqb s 2 c, e) at k in
          absurd (omega (arith, no))

  pub lane_last : (cap : ℕ) (p : Place) → p ≡ place_in t → (t.sort ≡ 0 → ⊥) → (t.sort ≡ 1 → ⊥) → (t.sort ≡ 2 → ⊥) → Kempt cap t
      → L.Busy p t.left t.len (t.content % 256) (t.flips % 256) ≡ lane_in t
  lane_last cap p q a b c k =
      let e = last_sort cap t.sort a b c k.tidy in
      let y : Tidy cap (L.Busy (place_in t) t.left t.len t.content t.flips) = subst (Tidy cap) (lane_busy e) k.tidy in
      let u : t.content % 256 ≡ t.content = mod-eq_of_lt (omega (arith, y.3)) in
      let v : t.flips % 256 ≡ t.flips = mod-eq_of_lt k.flips in
      ap (λ (x : Place). L.Busy x t.left t.len (t.content % 256) (t.flips % 256)) q
      ∙ ap (λ (i : ℕ). L.Busy (place_in t) t.left t.len i (t.flips % 256)) u
      ∙ ap (L.Busy (place_in t) t.left t.len t.content) v
      ∙ sym (lane_busy e)

  -- before a TP
  pub tracks_none : (r : Receiver) → t.sort ≡ 4 → t.flips ≡ 0 → TracksAs t r
  tracks_none r e f = record { sort = omega (arith, e); flips = omega (arith, f); lane = subst (λ (l : Lane). LanedAs l r) (sym (lane_none e)) (omega arith) }

  pub tracks_unkept : (r : Receiver) (w : Walk) → r.stage ≡ Fresh → r.walk ≡ w → UnkeptAs t w → TracksAs t r
  tracks_unkept r w s e u = record { sort = u.sort; flips = u.flips; lane = laned r w s e (lane_in t) (u.lane r.limit) }

  pub tracks_kept : (r : Receiver) (p : Phase) (g : Place) (len c e : ℕ) (b : Place) → r.stage ≡ Fresh → r.walk ≡ walk_at 0 p g (kept_by c e b len)
      → Settled p → Fine r.limit p (kept_by c e b len) → OwnIn g p (kept_by c e b len) → KeptAs t p g len r.limit → TracksAs t r
  tracks_kept r p g len c e b s w y z o k = record { sort = k.sort; flips = k.flips; lane = laned r _ s w (lane_in t) (k.lane c e b y z o) }

  pub kept_none : (p : Phase) (g : Place) (len cap : ℕ) → t.sort ≡ 4 → t.flips ≡ 0 → KeptAs t p g len cap
  kept_none p g len cap e f = record {
    sort = omega (arith, e);
    flips = omega (arith, f);
    lane = λ c d b y z o. subst (λ (l : Lane). StandsAs cap l (walk_at 0 p g (kept_by c d b len))) (sym (lane_none e)) (omega arith);
  }

  -- the data of a complete EP are its own
  pub kept_own : (p : Phase) (g : Place) (len cap : ℕ) (h : Header) (left : ℕ) → p ≡ Body h left → FitsIf true h cap
      → t.sort ≡ 3 → t.flips ≡ h.flips → h.flips < 256 → lane_in t ≡ L.Busy g left len h.content h.flips → KeptAs t p g len cap
  kept_own p g len cap h left i f sort flips small lane =
      record {
        sort = omega (arith, sort);
        flips = omega (arith, flips, small);
        lane = λ c e b y z o.
            (let own : 0 < left → kind_of h ≡ Complete → Own g h left c e b len = subst (λ (x : Phase). OwnIn g x (kept_by c e b len)) i o in
            let w = own (subst Settled i y) f.0 in
            subst (λ (x : Lane). StandsAs cap x (walk_at 0 p g (kept_by c e b len))) (ap (λ (x : ℕ). L.Busy g left len x h.flips) w.content ∙ sym lane)
            (kept_busy cap p g h left i c e b len y z f (sym w.content) (sym w.flips) w.size (sym w.place)));
      }

  unkept_as : (w : Walk) (l : Lane) → t.sort ≤ 4 → t.flips ≡ 0 → lane_in t ≡ l → ((cap : ℕ) → StandsAs cap l w) → UnkeptAs t w
  unkept_as w l s f e stands = record { sort = s; flips = omega (arith, f); lane = λ cap. subst (λ (x : Lane). StandsAs cap x w) (sym e) (stands cap) }

  module _ (p : Phase) (g : Place) (f : t.flips ≡ 0) where
    pub track_none : t.sort ≡ 4 → UnkeptAs t (walk_at 0 p g None)
    track_none e = unkept_as (walk_at 0 p g None) L.Other (omega (arith, e)) f (lane_none e) (λ cap. omega arith)

    pub track_lost : t.sort ≡ 0 → p ≡ Lost → UnkeptAs t (walk_at 0 p g None)
    track_lost e q = unkept_as (walk_at 0 p g None) L.Lost (omega (arith, e)) f (lane_lost e) (λ cap. (ap (λ (x : Phase). walk_at 0 x g None) q, omega arith))

    pub track_idle : t.sort ≡ 1 → (n w : ℕ) → p ≡ Head n w → n ≡ 0 → Settled p → UnkeptAs t (walk_at 0 p g None)
    track_idle e n w q z s = unkept_as (walk_at 0 p g None) L.Idle (omega (arith, e)) f (lane_idle e) (λ cap. unkept_idle cap p g n w q z s)

    pub track_cut : t.sort ≡ 2 → (n w : ℕ) → lane_in t ≡ L.Cut g n w → p ≡ Head n w → (n ≡ 0 → ⊥) → Settled p → UnkeptAs t (walk_at 0 p g None)
    track_cut e n w l q z s = unkept_as (walk_at 0 p g None) (L.Cut g n w) (omega (arith, e)) f l (λ cap. unkept_cut cap p g n w q z s)
