-- A receiver in a lane can be called, and what a TP's header makes of its first call. Assumes nothing.
use Prim.Native.Nat.{ℕ, ◌≤◌, ◌<◌}
use mathlib.Core.Path.{◌≡◌, refl, subst}
use native.Mathlib.Omega.{arith}
use Rattle.receiver.specs.declared.Place.{Place}
use Rattle.receiver.specs.declared.Receiver.{Receiver}
use Rattle.receiver.specs.declared.Stage.{Stage}
use Rattle.receiver.specs.declared.Stage.TheVariants.{Fresh, Low, Due, Plain}
use Rattle.receiver.specs.declared.lane.Lane.{Lane}
use Rattle.receiver.specs.declared.lane.Lane.TheVariants as L
use Rattle.receiver.specs.Lanes.{Tidy, in_lane, walk_in}
use Rattle.receiver.specs.State.{Able, Settled, Sound, Staged}

-- a stage's own conditions
abbrev pub StageAt : Stage → ℕ → Type 0
StageAt Fresh at = 0 ≤ 0
StageAt (Low o) at = (o < 2048) × (4 ≤ at)
StageAt (Due o) at = (o < 2048) × (4 ≤ at)
StageAt Plain at = 0 ≤ 0

pub at_in : (g : Place) (l : Lane) (at : ℕ) → at ≡ (walk_in g l at).at
at_in g L.Other at = refl
at_in g L.Lost at = refl
at_in g L.Idle at = refl
at_in g (L.Cut p n w) at = refl
at_in g (L.Busy p left len c e) at = refl

sound_in : (cap size : ℕ) (g : Place) (l : Lane) (at : ℕ) → Tidy cap l → at ≤ size → Sound cap size (walk_in g l at)
sound_in cap size g L.Other at t i = record { at = i; phase = omega arith }
sound_in cap size g L.Lost at t i = record { at = i; phase = omega arith }
sound_in cap size g L.Idle at t i = record { at = i; phase = (omega arith, omega arith, omega arith) }
sound_in cap size g (L.Cut p n w) at t i = record { at = i; phase = (t.1, t.2, omega arith) }
sound_in cap size g (L.Busy p left len c e) at t i = record { at = i; phase = t.1 }

settled_in : (cap : ℕ) (g : Place) (l : Lane) (at : ℕ) → Tidy cap l → Settled (walk_in g l at).phase
settled_in cap g L.Other at t = omega arith
settled_in cap g L.Lost at t = omega arith
settled_in cap g L.Idle at t = (omega arith, omega arith)
settled_in cap g (L.Cut p n w) at t = (t.1, t.2)
settled_in cap g (L.Busy p left len c e) at t = t.0

pub lane_able : (b : Receiver) (k : ℕ) (l : Lane) (s : Stage) (at : ℕ) → 16 ≤ b.size → Tidy b.limit l → at ≤ b.size → StageAt s at → Able (in_lane b k l s at)
lane_able b k l s at size t i f = record { size = size; walk = sound_in b.limit b.size b.walk.began l at t i; stage = staged s f }
  where
    staged : (s : Stage) → StageAt s at → Staged s (walk_in b.walk.began l at)
    staged Fresh f = settled_in b.limit b.walk.began l at t
    staged (Low o) f = (f.0, subst (λ (i : ℕ). 4 ≤ i) (at_in b.walk.began l at) f.1, settled_in b.limit b.walk.began l at t)
    staged (Due o) f = (f.0, subst (λ (i : ℕ). 4 ≤ i) (at_in b.walk.began l at) f.1, settled_in b.limit b.walk.began l at t)
    staged Plain f = omega arith
