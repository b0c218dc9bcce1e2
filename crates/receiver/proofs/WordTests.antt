-- Small tests of numbers that the words of a receiver need. Assumes nothing.
use Prim.Native.Nat.{ℕ, ◌≤◌, ◌<◌}
use mathlib.Core.Bool.{Bool, true, false, cond, ◌||◌}
use mathlib.Core.Path.{◌≡◌, refl}
use native.Mathlib.Omega.{arith}
use lib.Dec.{ltb, eqb}
use borrow.Author.Tests.{eq-eqb, ne_eqb, eqb-false}
use Rattle.receiver.specs.Words.{begunb, left_in, phasedb, stagedb}

over_two : (n : ℕ) → (n ≡ 0 → ⊥) → (n ≡ 1 → ⊥) → (n ≡ 2 → ⊥) → 2 < n
over_two n a b c = omega (arith, a, b, c)

past_two : (n : ℕ) → 2 < n → (n ≡ 3 → ⊥) → (n ≡ 4 → ⊥) → (n ≡ 5 → ⊥) → 5 < n
past_two n h d e f = omega (arith, h, d, e, f)

pub over_five : (n : ℕ) → (n ≡ 0 → ⊥) → (n ≡ 1 → ⊥) → (n ≡ 2 → ⊥) → (n ≡ 3 → ⊥) → (n ≡ 4 → ⊥) → (n ≡ 5 → ⊥) → 5 < n
over_five n a b c d e f = past_two n (over_two n a b c) d e f

-- ---- by a sort

module _ (s : ℕ) where
  pub staged_past : (o at : ℕ) → 3 < s → false ≡ stagedb s o at
  unfolding stagedb
  staged_past o at h =
      let a : eqb s 0 ≡ false = ne_eqb s 0 (λ (e : s ≡ 0). omega arith) in
      let b : eqb s 1 ≡ false = ne_eqb s 1 (λ (e : s ≡ 1). omega arith) in
      let c : eqb s 2 ≡ false = ne_eqb s 2 (λ (e : s ≡ 2). omega arith) in
      let d : eqb s 3 ≡ false = ne_eqb s 3 (λ (e : s ≡ 3). omega arith) in
      rw (a, b, c, d)

  pub staged_begun : (o at : ℕ) → (s ≡ 0 → ⊥) → (s ≡ 3 → ⊥) → s ≤ 3 → begunb o at ≡ stagedb s o at
  unfolding stagedb
  staged_begun o at a d h = go (eqb s 1) refl
    where
      go : (t : Bool) → eqb s 1 ≡ t → begunb o at ≡ cond (eqb s 0) true (cond t (begunb o at) (cond (eqb s 2) (begunb o at) (eqb s 3)))
      go true e = rw (ne_eqb s 0 a)
      go false e = let two : s ≡ 2 = omega (arith, a, d, eqb-false s 1 e) in rw (ne_eqb s 0 a, eq-eqb s 2 two)

  pub left_none : (n : ℕ) → s < 3 → 0 ≡ left_in s n
  unfolding left_in
  left_none n h = go (eqb s 0) (eqb s 1) refl refl
    where
      go : (t u : Bool) → eqb s 0 ≡ t → eqb s 1 ≡ u → 0 ≡ cond t 0 (cond u 0 (cond (eqb s 2) 0 n))
      go true u e f = refl
      go false true e f = refl
      go false false e f = let two : s ≡ 2 = omega (arith, eqb-false s 0 e, eqb-false s 1 f) in rw (eq-eqb s 2 two)

  pub phased_past : (stage a b left : ℕ) → 3 < s → false ≡ phasedb stage s a b left
  unfolding phasedb
  phased_past stage a b left h =
      let x : eqb s 0 ≡ false = ne_eqb s 0 (λ (e : s ≡ 0). omega arith) in
      let y : eqb s 1 ≡ false = ne_eqb s 1 (λ (e : s ≡ 1). omega arith) in
      let z : eqb s 2 ≡ false = ne_eqb s 2 (λ (e : s ≡ 2). omega arith) in
      let w : eqb s 3 ≡ false = ne_eqb s 3 (λ (e : s ≡ 3). omega arith) in
      rw (x, y, z, w)

  pub phased_under_way : (stage a b left : ℕ) → (s ≡ 0 → ⊥) → (s ≡ 1 → ⊥) → (s ≡ 2 → ⊥) → s ≤ 3 → eqb stage 3 || ltb 0 left ≡ phasedb stage s a b left
  unfolding phasedb
  phased_under_way stage a b left x y w h = let three : s ≡ 3 = omega (arith, x, y, w) in rw (ne_eqb s 0 x, ne_eqb s 1 y, ne_eqb s 2 w, eq-eqb s 3 three)

  pub left_all : (n : ℕ) → 3 ≤ s → n ≡ left_in s n
  unfolding left_in
  left_all n h =
      let a : eqb s 0 ≡ false = ne_eqb s 0 (λ (e : s ≡ 0). omega arith) in
      let b : eqb s 1 ≡ false = ne_eqb s 1 (λ (e : s ≡ 1). omega arith) in
      let c : eqb s 2 ≡ false = ne_eqb s 2 (λ (e : s ≡ 2). omega arith) in
      rw (a, b, c)
