-- Laws of the exclusive or, and of the count of ones.
-- Assumes nothing.
use mathlib.Core.Path.{◌≡◌, refl, sym, ap, ap₂, ◌∙◌}
use mathlib.Core.Logic.{◌⊎◌, inl, inr}
use mathlib.Core.List.{List, [], ◌∷◌}
use Prim.Native.Nat.{ℕ, zero, suc, ◌+◌, ◌*◌, ◌/◌, ◌%◌, ◌^◌, ◌≤◌, ◌<◌, zero-le}
use native.Mathlib.Nat.{not-suc-le-zero, le_of_suc-le-suc, mod-lt, zero-lt-suc, zero-add, zero-mul, one-mul, suc-add, div-one}
use native.Mathlib.Omega.{arith}
use mathlib.Core.Bool.{Bool, true, false}
use lib.Arith.{bin_ind, lt-one}
use lib.Pow.{pow_pos, shr_lt, shr-shr, field, mod-mod-pow}
use borrow.Author.Tests.{eqb-true, eqb-false, eq-eqb, ne_eqb}
use lib.Dec.{T, ltb, eqb, ltb→lt}
use Rattle.golay.proofs.Test.{both, both_left, both_right}
use lib.Bits.{bit_xor, differ, xor_step, xor_lt, xor_shr, xor_mod, xor_comm, xor_self, xor_zero_r}
use lib.Count.{ones, ones_in, ones_step}
use lib.ListN.{length}
use native.Mathlib.Numerals.{add-one, one-add}
use Rattle.golay.specs.Golay.{chosen}

bit : (n : ℕ) → (n % 2 ≡ 0) ⊎ (n % 2 ≡ 1)
bit n = go (n % 2) (mod-lt n (zero-lt-suc 1))
  where
    go : (x : ℕ) → x < 2 → (x ≡ 0) ⊎ (x ≡ 1)
    go zero h = inl refl
    go (suc zero) h = inr refl
    go (suc (suc x)) h = absurd (not-suc-le-zero (le_of_suc-le-suc (le_of_suc-le-suc h)))

-- what holds of both bits holds of n % 2
pub by_bit : (P : ℕ → Type 0) → P 0 → P 1 → (n : ℕ) → P (n % 2)
by_bit P z o n = go (bit n)
  where
    go : (n % 2 ≡ 0) ⊎ (n % 2 ≡ 1) → P (n % 2)
    go (inl e) = rw e z
    go (inr e) = rw e o

differ_assoc : (a b c : ℕ) → differ (differ (a % 2) (b % 2)) (c % 2) ≡ differ (a % 2) (differ (b % 2) (c % 2))
differ_assoc a b c =
    by_bit (λ x. differ (differ x (b % 2)) (c % 2) ≡ differ x (differ (b % 2) (c % 2))) refl
    (by_bit (λ y. differ (differ 1 y) (c % 2) ≡ differ 1 (differ y (c % 2))) refl
    (by_bit (λ z. differ (differ 1 1) z ≡ differ 1 (differ 1 z)) refl refl c) b) a

xor_low : (a b : ℕ) → bit_xor a b % 2 ≡ differ (a % 2) (b % 2)
xor_low a b = xor_mod a b 1 ∙ by_bit (λ x. bit_xor x (b % 2) ≡ differ x (b % 2)) refl (by_bit (λ y. bit_xor 1 y ≡ differ 1 y) refl refl b) a

pub xor_assoc : (a b c : ℕ) → bit_xor (bit_xor a b) c ≡ bit_xor a (bit_xor b c)
xor_assoc =
    bin_ind (λ (a : ℕ). (b c : ℕ) → bit_xor (bit_xor a b) c ≡ bit_xor a (bit_xor b c)) (λ b c. refl)
    (λ a ih b c.
    xor_step (bit_xor a b) c
    ∙ ap₂ (λ (x y : ℕ). bit_xor x (c / 2) * 2 + differ y (c % 2)) (xor_shr a b 1) (xor_low a b)
    ∙ ap₂ (λ (x y : ℕ). x * 2 + y) (ih (b / 2) (c / 2)) (differ_assoc a b c)
    ∙ sym (ap₂ (λ (x y : ℕ). bit_xor (a / 2) x * 2 + differ (a % 2) y) (xor_shr b c 1) (xor_low b c))
    ∙ sym (xor_step a (bit_xor b c)))

-- an operand used twice is gone
pub xor_twice : (a b : ℕ) → bit_xor a (bit_xor a b) ≡ b
xor_twice a b = sym (xor_assoc a a b) ∙ ap (λ (x : ℕ). bit_xor x b) (xor_self a)

pub xor_swap : (a b c : ℕ) → bit_xor a (bit_xor b c) ≡ bit_xor b (bit_xor a c)
xor_swap a b c = sym (xor_assoc a b c) ∙ ap (λ (x : ℕ). bit_xor x c) (xor_comm a b) ∙ xor_assoc b a c

pub xor_pairs : (a b c d : ℕ) → bit_xor (bit_xor a b) (bit_xor c d) ≡ bit_xor (bit_xor a c) (bit_xor b d)
xor_pairs a b c d = xor_assoc a b (bit_xor c d) ∙ ap (bit_xor a) (xor_swap b c d) ∙ sym (xor_assoc a c (bit_xor b d))

-- the sum is 0 just where both are the same
pub xor_none : (a b : ℕ) → bit_xor a b ≡ 0 → a ≡ b
xor_none a b none = sym (xor_zero_r a) ∙ ap (bit_xor a) (sym none) ∙ xor_twice a b

pub xor_test : (a b : ℕ) → eqb a b ≡ eqb (bit_xor a b) 0
xor_test a b = go (eqb a b) refl
  where
    go : (t : Bool) → eqb a b ≡ t → t ≡ eqb (bit_xor a b) 0
    go true h = sym (eq-eqb (bit_xor a b) 0 (ap (bit_xor a) (sym (eqb-true a b h)) ∙ xor_self a))
    go false h = sym (ne_eqb (bit_xor a b) 0 (λ z. eqb-false a b h (xor_none a b z)))

-- ---- the choice of rows is linear

chosen_bit : (a b r : ℕ) → bit_xor a b % 2 * r ≡ bit_xor (a % 2 * r) (b % 2 * r)
chosen_bit a b r = ap (λ (x : ℕ). x * r) (xor_low a b)
    ∙ by_bit (λ x. differ x (b % 2) * r ≡ bit_xor (x * r) (b % 2 * r)) (rw zero-mul)
    (by_bit (λ y. differ 1 y * r ≡ bit_xor (1 * r) (y * r)) (rw (zero-mul, xor_zero_r)) (rw (zero-mul, xor_self)) b) a

pub chosen_xor : (rs : List ℕ) (a b : ℕ) → chosen rs (bit_xor a b) ≡ bit_xor (chosen rs a) (chosen rs b)
unfolding chosen
chosen_xor [] a b = refl
chosen_xor (r ∷ rs) a b =
    ap₂ (λ (x y : ℕ). bit_xor (x % 2 * r) y) (xor_shr a b (length rs)) (chosen_xor rs a b)
    ∙ ap (λ (x : ℕ). bit_xor x (bit_xor (chosen rs a) (chosen rs b))) (chosen_bit (a / 2 ^ length rs) (b / 2 ^ length rs) r)
    ∙ xor_pairs (a / 2 ^ length rs % 2 * r) (b / 2 ^ length rs % 2 * r) (chosen rs a) (chosen rs b)

-- what is chosen from rows of k bits has k bits
unfoldable pub within : ℕ → List ℕ → Bool
within k [] = true
within k (r ∷ rs) = both (ltb r (2 ^ k)) (within k rs)

pub chosen_lt : (k n : ℕ) (rs : List ℕ) → T (within k rs) → chosen rs n < 2 ^ k
unfolding chosen within
chosen_lt k n [] t = pow_pos k
chosen_lt k n (r ∷ rs) t =
    let here : r < 2 ^ k = ltb→lt r (2 ^ k) (both_left (ltb r (2 ^ k)) (within k rs) t) in
    xor_lt k (n / 2 ^ length rs % 2 * r) (chosen rs n)
    (by_bit (λ x. x * r < 2 ^ k) (rw zero-mul (pow_pos k)) (rw one-mul here) (n / 2 ^ length rs))
    (chosen_lt k n rs (both_right (ltb r (2 ^ k)) (within k rs) t))

-- ---- counts

pub ones_xor_le : (k a b : ℕ) → ones_in k (bit_xor a b) ≤ ones_in k a + ones_in k b
unfolding ones_in
ones_xor_le zero a b = zero-le
ones_xor_le (suc k) a b =
    let low : bit_xor a b % 2 ≤ a % 2 + b % 2 = rw (xor_low a b) (by_bit (λ x. differ x (b % 2) ≤ x + b % 2) (omega arith) (by_bit (λ y. differ 1 y ≤ 1 + y) (omega arith) (omega arith) b) a) in
    let rest : ones_in k (bit_xor a b / 2) ≤ ones_in k (a / 2) + ones_in k (b / 2) = rw (xor_shr a b 1) (ones_xor_le k (a / 2) (b / 2)) in
    omega arith

-- the k bits above the j low ones are counted apart
pub ones_add : (j k n : ℕ) → ones_in (j + k) n ≡ ones_in j n + ones_in k (n / 2 ^ j)
unfolding ones_in
ones_add zero k n = rw (zero-add k, div-one n, zero-add (ones_in k n))
ones_add (suc j) k n =
    let rest : ones_in (j + k) (n / 2) ≡ ones_in j (n / 2) + ones_in k (n / 2 ^ suc j) = rw (← one-add j, ← shr-shr n 1 j) (ones_add j k (n / 2)) in
    rw (suc-add j k) (omega arith)

pub ones_mod : (k n : ℕ) → ones_in k (n % 2 ^ k) ≡ ones_in k n
unfolding ones_in
ones_mod zero n = refl
ones_mod (suc k) n =
    let low : n % 2 ^ suc k % 2 ≡ n % 2 = rw (← add-one k) (mod-mod-pow n k 1) in
    let high : n % 2 ^ suc k / 2 ≡ n / 2 % 2 ^ k = rw (← add-one k) (field n k 1) in
    rw (low, high, ones_mod k (n / 2))

-- only the k low bits count
pub ones_same : (k a a' b b' : ℕ) → a % 2 ^ k ≡ a' % 2 ^ k → b % 2 ^ k ≡ b' % 2 ^ k → ones_in k (bit_xor a b) ≡ ones_in k (bit_xor a' b')
ones_same k a a' b b' p q =
    sym (ones_mod k (bit_xor a b)) ∙ ap (ones_in k) (xor_mod a b k ∙ ap₂ bit_xor p q ∙ sym (xor_mod a' b' k)) ∙ ones_mod k (bit_xor a' b')

pub ones_all : (k n : ℕ) → n < 2 ^ k → ones n ≡ ones_in k n
unfolding ones ones_in
ones_all zero n h = rw (lt-one h)
ones_all (suc k) n h = ones_step n ∙ ap (λ (x : ℕ). n % 2 + x) (ones_all k (n / 2) (shr_lt k 1 (rw add-one h)))

-- a number of k bits that has no ones is 0
pub no_ones : (k n : ℕ) → n < 2 ^ k → ones_in k n ≡ 0 → n ≡ 0
unfolding ones_in
no_ones zero n h e = lt-one h
no_ones (suc k) n h e = let rest : n / 2 ≡ 0 = no_ones k (n / 2) (shr_lt k 1 (rw add-one h)) (omega arith) in omega arith

-- two words are no further apart than their distances from a third sum to
pub ones_near : (k w a b : ℕ) → ones_in k (bit_xor a b) ≤ ones_in k (bit_xor w a) + ones_in k (bit_xor w b)
ones_near k w a b =
    let e : bit_xor (bit_xor w a) (bit_xor w b) ≡ bit_xor a b = xor_pairs w a w b ∙ ap (λ (x : ℕ). bit_xor x (bit_xor a b)) (xor_self w) in
    rw e at (ones_xor_le k (bit_xor w a) (bit_xor w b))
