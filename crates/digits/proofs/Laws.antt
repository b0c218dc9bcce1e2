-- Digits and numbers undo each other, and both can be taken in parts.
-- Assumes nothing.
use mathlib.Core.Path.{◌≡◌, refl, sym, ap, ◌∙◌}
use mathlib.Core.List.{List, [], ◌∷◌, ◌++◌, append_assoc, append-nil}
use Prim.Native.Nat.{ℕ, zero, suc, ◌+◌, ◌-◌, ◌*◌, ◌/◌, ◌%◌, ◌^◌, ◌<◌, ◌≤◌}
use native.Mathlib.Omega.{arith}
use lib.ListN.{length, get_or, set, drop, length-append}
use lib.Seq.{drop-length}
use native.Mathlib.Numerals.{add-one}
use Rattle.std.proofs.lemmas.List.{drop-set}
use Rattle.digits.specs.Digits.{digits, number}

pub length_digits : (k n : ℕ) → length (digits k n) ≡ k
length_digits zero n = refl
length_digits (suc k) n = omega (arith, length-append (digits k (n / 256)) (n % 256 ∷ []), length_digits k (n / 256))

pub number_append : (n : ℕ) (xs ys : List ℕ) → number n (xs ++ ys) ≡ number (number n xs) ys
number_append n [] ys = refl
number_append n (x ∷ xs) ys = number_append (n * 256 + x) xs ys

pub number_digits : (k n : ℕ) → n < 256 ^ k → number 0 (digits k n) ≡ n
number_digits zero n h = let e : n ≡ 0 = omega arith in sym e
number_digits (suc k) n h =
    let upper = number_digits k (n / 256) (omega arith) in
    number_append 0 (digits k (n / 256)) (n % 256 ∷ []) ∙ ap (λ (m : ℕ). m * 256 + n % 256) upper ∙ omega arith

-- ---- a number's digits written from the last on, i of them left

module _ (N n : ℕ) (bs : List ℕ) where
  pub none_written : length bs ≡ N → digits N n ++ drop N bs ≡ digits N n
  none_written e = rw (← e, drop-length bs, append-nil (digits (length bs) n))

module _ (n : ℕ) (bs : List ℕ) where
  one_written : (k : ℕ) → k < length bs → digits k (n / 256) ++ drop k (set bs k (n % 256)) ≡ digits (suc k) n ++ drop (suc k) bs
  one_written k within =
      ap (λ (ys : List ℕ). digits k (n / 256) ++ ys) (rw add-one at (drop-set bs k (n % 256) within))
      ∙ sym (append_assoc (digits k (n / 256)) (n % 256 ∷ []) (drop (suc k) bs))

  pub one_more : (i : ℕ) → 0 < i → i ≤ length bs → digits (i - 1) (n / 256) ++ drop (i - 1) (set bs (i - 1) (n % 256)) ≡ digits i n ++ drop i bs
  one_more i some within = let next : suc (i - 1) ≡ i = omega arith in one_written (i - 1) (omega arith) ∙ ap (λ (j : ℕ). digits j n ++ drop j bs) next

pub all_written : (i n : ℕ) (bs : List ℕ) → i ≤ 0 → bs ≡ digits i n ++ drop i bs
all_written zero n bs none = refl
all_written (suc k) n bs none = absurd (omega arith)

abbrev pub Bytes : List ℕ → Type 0
Bytes bs = (i : ℕ) → get_or bs i 0 < 256

pub digits_number : (k j n : ℕ) (bs : List ℕ) → Bytes bs → j ≡ k + length bs → digits j (number n bs) ≡ digits k n ++ bs
digits_number k j n [] small e = let same : j ≡ k = omega arith in rw same (sym (append-nil (digits k n)))
digits_number k j n (b ∷ bs) small e =
    let byte = small 0 in
    let upper : (n * 256 + b) / 256 ≡ n = omega arith in
    let lowest : (n * 256 + b) % 256 ≡ b = omega arith in
    digits_number (suc k) j (n * 256 + b) bs (λ i. small (suc i)) (omega arith)
    ∙ rw (upper, lowest) (append_assoc (digits k n) (b ∷ []) bs)

pub number_lt : (k j n : ℕ) (bs : List ℕ) → Bytes bs → j ≡ k + length bs → n < 256 ^ k → number n bs < 256 ^ j
number_lt k j n [] small e h = let same : j ≡ k = omega arith in rw same h
number_lt k j n (b ∷ bs) small e h =
    let byte = small 0 in
    number_lt (suc k) j (n * 256 + b) bs (λ i. small (suc i)) (omega arith) (omega arith)
