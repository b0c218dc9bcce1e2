-- A number's decimal digits, counted from the last one on and written from the last one on. Assumes nothing.
use Prim.Native.Nat.{ℕ, zero, suc, ◌+◌, ◌*◌, ◌/◌, ◌%◌, ◌^◌, ◌≤◌, ◌<◌, max}
use mathlib.Core.Path.{◌≡◌, refl, ap, ◌∙◌}
use mathlib.Core.List.{List, [], ◌∷◌, ◌++◌}
use native.Mathlib.Nat.{pow-suc, div-lt_iff_lt-mul}
use mathlib.Core.Bool.{Bool, true, false, cond}
use lib.Dec.{ltb}
use lib.ListN.{length, length-append}
use native.Mathlib.Omega.{arith}
use borrow.Author.Tests.{lt-ltb, le-ltb, ltb-true}
use Rattle.block.specs.Decimal.{decimal_in, decimal, padded}

-- ---- the definition's two cases

pub last : (j n : ℕ) → 10 ≤ n → decimal_in (suc j) n ≡ decimal_in j (n / 10) ++ (48 + n % 10) ∷ []
last j n h = rw (le-ltb n 10 h)

pub single : (j n : ℕ) → n < 10 → decimal_in (suc j) n ≡ (48 + n) ∷ []
single j n h = rw (lt-ltb n 10 h)

some : (j n : ℕ) → 1 ≤ length (decimal_in (suc j) n)
some j n = go (ltb n 10)
  where
    go : (t : Bool) → 1 ≤ length (cond t ((48 + n) ∷ []) (decimal_in j (n / 10) ++ (48 + n % 10) ∷ []))
    go true = omega arith
    go false = rw length-append (omega arith)

pub fewer : (j n : ℕ) → n < 10 ^ suc (suc j) → n / 10 < 10 ^ suc j
fewer j n h = let most : n < 10 ^ suc j * 10 = rw (← pow-suc) h in (div-lt_iff_lt-mul {k = 10} (omega arith)).1 most

pub digits_most : (k n : ℕ) → length (decimal_in k n) ≤ k
digits_most zero n = omega arith
digits_most (suc k) n = go (ltb n 10) (digits_most k (n / 10))
  where
    go : (t : Bool) → length (decimal_in k (n / 10)) ≤ k → length (cond t ((48 + n) ∷ []) (decimal_in k (n / 10) ++ (48 + n % 10) ∷ [])) ≤ suc k
    go true h = omega arith
    go false h = rw length-append (omega arith)

-- a number of 64 bits has at most 20 digits
pub decimal_most : (n : ℕ) → length (decimal n) ≤ 20
unfolding decimal
decimal_most n = digits_most 20 n

pub decimal_some : (n : ℕ) → 1 ≤ length (decimal n)
unfolding decimal
decimal_some n = some 19 n

pub padded_long : (k n : ℕ) → length (padded k n) ≡ k
padded_long zero n = refl
padded_long (suc k) n = length-append (padded k (n / 10)) ((48 + n % 10) ∷ []) ∙ sums (length (padded k (n / 10))) k (padded_long k (n / 10))
  where
    sums : (a b : ℕ) → a ≡ b → a + 1 ≡ suc b
    sums a b e = omega arith

power_some : (k : ℕ) → 1 ≤ 10 ^ k
power_some zero = omega arith
power_some (suc k) = let power : 10 ^ suc k ≡ 10 ^ k * 10 = pow-suc 10 k in omega (arith, power_some k)

-- how many digits a number has between two powers of ten
pub digits_count : (j k n : ℕ) → k ≤ j → 10 ^ k ≤ max n 1 → n < 10 * 10 ^ k → length (decimal_in (suc j) n) ≡ k + 1
digits_count j zero n le low high = ap length (single j n (omega (arith, high)))
digits_count zero (suc k) n le low high = absurd (omega arith)
digits_count (suc j) (suc k) n le low high =
    let power : 10 ^ suc k ≡ 10 ^ k * 10 = pow-suc 10 k in
    let positive = power_some k in
    let some : 10 ≤ n = omega arith in
    ap length (last (suc j) n some)
    ∙ length-append (decimal_in (suc j) (n / 10)) ((48 + n % 10) ∷ [])
    ∙ ap (λ (x : ℕ). x + 1) (digits_count j k (n / 10) (omega arith) (omega arith) (omega arith) ∙ omega arith)

-- its last digits are all, where they are as many
padded_same : (j n : ℕ) → padded (length (decimal_in j n)) n ≡ decimal_in j n
padded_same zero n = refl
padded_same (suc j) n = go (padded_same j (n / 10)) (ltb n 10) refl
  where
    go : padded (length (decimal_in j (n / 10))) (n / 10) ≡ decimal_in j (n / 10) → (t : Bool) → ltb n 10 ≡ t → padded (length (cond t ((48 + n) ∷ []) (decimal_in j (n / 10) ++ (48 + n % 10) ∷ []))) n ≡ cond t ((48 + n) ∷ []) (decimal_in j (n / 10) ++ (48 + n % 10) ∷ [])
    go rest true e = let same : n % 10 ≡ n = omega (arith, ltb-true n 10 e) in ap (λ (x : ℕ). (48 + x) ∷ []) same
    go rest false e =
        let longer : length (decimal_in j (n / 10) ++ (48 + n % 10) ∷ []) ≡ suc (length (decimal_in j (n / 10))) =
        length-append (decimal_in j (n / 10)) ((48 + n % 10) ∷ []) ∙ omega arith in
        ap (λ (k : ℕ). padded k n) longer ∙ ap (λ (x : List ℕ). x ++ (48 + n % 10) ∷ []) rest

pub padded_all : (n : ℕ) → padded (length (decimal n)) n ≡ decimal n
unfolding decimal
padded_all n = padded_same 20 n
