-- Bytes with their places: what is kept of them, and parts of them. Assumes nothing.
use mathlib.Core.Path.{ap, refl, ◌∙◌, ◌≡◌}
use mathlib.Core.List.{List, [], ◌++◌, ◌∷◌}
use Prim.Native.Nat.{suc, zero, ℕ, ◌+◌}
use native.Mathlib.Omega.{arith}
use lib.ListN.{drop, length}
use Rattle.receiver.specs.declared.Stamp.{Stamp}
use Rattle.receiver.specs.Frame.{Code}
use Rattle.receiver.specs.Low.{wire}
use Rattle.receiver.specs.Place.{place_at, placed}

-- what is kept of bytes
abbrev pub plain : (C : Code) → List C.B → List C.K
plain C [] = []
plain C (b ∷ bs) = C.keep b ∷ plain C bs

module _ (t : Stamp) where
  pub plain_placed : (i : ℕ) (bs : List ℕ) → plain wire (placed t i bs) ≡ bs
  plain_placed i [] = refl
  plain_placed i (b ∷ bs) = ap (λ (l : List ℕ). b ∷ l) (plain_placed (suc i) bs)

  pub length_placed : (i : ℕ) (bs : List ℕ) → length (placed t i bs) ≡ length bs
  length_placed i [] = refl
  length_placed i (b ∷ bs) = ap suc (length_placed (suc i) bs)

  pub placed_append : (i j : ℕ) (xs ys : List ℕ) → j ≡ i + length xs → placed t i (xs ++ ys) ≡ placed t i xs ++ placed t j ys
  placed_append i j [] ys e = let q : i ≡ j = omega arith in ap (λ (k : ℕ). placed t k ys) q
  placed_append i j (x ∷ xs) ys e = ap (λ l. (place_at t i, x) ∷ l) (placed_append (suc i) j xs ys (omega arith))

  pub drop_placed : (n i : ℕ) (bs : List ℕ) → drop n (placed t i bs) ≡ placed t (i + n) (drop n bs)
  drop_placed zero i bs = let q : i ≡ i + 0 = omega arith in ap (λ (k : ℕ). placed t k bs) q
  drop_placed (suc n) i [] = refl
  drop_placed (suc n) i (b ∷ bs) =
      let q : suc i + n ≡ i + suc n = omega arith in
      drop_placed n (suc i) bs ∙ ap (λ (k : ℕ). placed t k (drop n bs)) q
