-- THE SEAM: where the forecast agrees with an offset at which an EP begins, reading stands between two EPs there, as does a receiver
-- that starts at the offset. Assumes nothing.
use Prim.Native.Nat.{ℕ, zero, suc, ◌<◌}
use mathlib.Core.Path.{◌≡◌, refl}
use mathlib.Core.List.{List, [], ◌∷◌}
use native.Mathlib.Omega.{arith}
use lib.ListN.{length, take}
use Rattle.std.specs.Prelude.{Option, None, Some}
use Rattle.receiver.specs.Frame.{Code, Frame, lost, idle, head, body, step, after}
use Rattle.receiver.specs.Forecast.{later, foretold}

module _ (C : Code) where
  pub back : (o : Option ℕ) (n : ℕ) → later C o ≡ Some (suc n) → o ≡ Some n
  back None n e = cc
  back (Some m) n e = cc

  never : (o : Option ℕ) → later C o ≡ Some 0 → ⊥
  never None e = let z : ◌≡◌ {A = ℕ} 0 1 = cc in omega arith
  never (Some m) e = let z : ◌≡◌ {A = ℕ} 0 1 = cc in omega arith

  pub seam : (n : ℕ) (f : Frame C) (bs : List C.B) → foretold C f bs ≡ Some n → n < length bs → after C f (take n bs) ≡ idle
  seam n f [] e l = absurd (omega arith)
  seam zero lost (b ∷ bs) e l = cc
  seam zero idle (b ∷ bs) e l = refl
  seam zero (head p k hs) (b ∷ bs) e l = absurd (never (foretold C (step C (head p k hs) b).0 bs) e)
  seam zero (body h k) (b ∷ bs) e l = absurd (never (foretold C (step C (body h k) b).0 bs) e)
  seam (suc n) lost (b ∷ bs) e l = cc
  seam (suc n) idle (b ∷ bs) e l = cc
  seam (suc n) (head p k hs) (b ∷ bs) e l =
      seam n (step C (head p k hs) b).0 bs (back (foretold C (step C (head p k hs) b).0 bs) n e) (omega arith)
  seam (suc n) (body h k) (b ∷ bs) e l =
      seam n (step C (body h k) b).0 bs (back (foretold C (step C (body h k) b).0 bs) n e) (omega arith)
