-- What a word's syndrome, and the table's entry at it, say of the word.
-- Assumes nothing.
use mathlib.Core.Path.{◌≡◌, refl, sym, ap, ◌∙◌}
use mathlib.Core.Logic.{⊎_elim, inl, inr}
use Prim.Native.Nat.{ℕ, suc, ◌+◌, ◌*◌, ◌/◌, ◌%◌, ◌^◌, ◌≤◌, ◌<◌}
use native.Mathlib.Nat.{mod-lt, mod-eq_of_lt, lt_of_not-le, le_of_suc-le-suc}
use native.Mathlib.Omega.{arith}
use lib.Bits.{bit_xor, xor_lt, xor_zero_r}
use lib.Count.{ones_in}
use lib.Pow.{pow_pos, mod-mod-pow}
use lib.Dec.{eqb, lit<, lit≤}
use borrow.Author.Tests.{ne_eqb}
use Rattle.golay.specs.Golay.{high, low, checks, chosen, code_word, weight, distance, places_to, syndrome}
use Rattle.std.specs.Prelude.{Some, None}
use Rattle.golay.specs.Answers.{Corrects, Enters, correction_of, found, Nearest, Decodes, Mends}
use Rattle.golay.proofs.Xor.{xor_test, within, chosen_lt, ones_same, no_ones}
use Rattle.golay.proofs.Words.{alone, parity_lt, repaired}

-- a code word within four flips is a nearest one
pub nearest : (w n c : ℕ) → n < 4096 → distance w (code_word n) ≡ c → c ≤ 4 → Nearest w c
nearest w n c lt e few = (
  (λ m hm.
      le_of_suc-le-suc (lt_of_not-le (λ (h : suc (distance w (code_word m)) ≤ c).
      let same : m ≡ n = alone w m n hm lt (omega arith) in
      let also : distance w (code_word m) ≡ c = rw same e in
      omega arith))),
  (n, lt, e),
)

flip_lt : (w e : ℕ) → bit_xor (high w) (high e) < 4096
flip_lt w e = xor_lt 12 (high w) (high e) (mod-lt (w / 4096) (lit< tt)) (mod-lt (e / 4096) (lit< tt))

pub syndrome_lt : (w : ℕ) → syndrome w < 4096
unfolding syndrome within
syndrome_lt w = xor_lt 12 (chosen checks (low w)) (high w) (chosen_lt 12 (low w) checks tt) (mod-lt (w / 4096) (lit< tt))

module _ (w x : ℕ) (c : Corrects (syndrome w) x) where
  pub near : (x ≡ 0xFFFF → ⊥) → (bit_xor (high w) x < 4096) × (distance w (code_word (bit_xor (high w) x)) ≤ 3)
  near some =
      ⊎_elim
      (λ p.
      let e = p.0 in
      let lt : e / 4096 < 4096 = omega arith in
      let same : high e ≡ x = mod-eq_of_lt lt ∙ sym p.4 in
      rw (← same) (flip_lt w e, rw (repaired w e (sym p.2)) p.3))
      (λ p. absurd (some p.0))
      c

  pub far : x ≡ 0xFFFF → Nearest w 4
  far mark =
      ⊎_elim
      (λ p. absurd (omega arith))
      (λ p. let e = p.1.0 in nearest w (bit_xor (high w) (high e)) 4 (flip_lt w e) (repaired w e (sym p.1.2) ∙ p.1.3) (lit≤ tt))
      c

-- ---- the table's entry: the count of flips above A.3's

half : (y c x : ℕ) → x < 4096 → y ≡ c * 4096 + x → x ≡ y % 4096
half y c x lt e = omega arith

top : (y c x : ℕ) → x < 4096 → y ≡ c * 4096 + x → c ≡ y / 4096
top y c x lt e = omega arith

pub correction_of_lem : (s y : ℕ) → Enters s y → Corrects s (correction_of y)
correction_of_lem s y =
    ⊎_elim
    (λ p.
    let e = p.0 in
    let lt : e / 4096 < 4096 = omega arith in
    let other : y ≡ 0xFFFF → ⊥ = λ mark. omega arith in
    rw (ne_eqb y 0xFFFF other) (inl (e, p.1, p.2, p.3, sym (half y (weight e) (e / 4096) lt p.4))))
    (λ p. rw p.0 (inr (refl, p.1)))

-- ---- where the flips are

-- the places of the flips from the code word of n
module _ (w n : ℕ) where
  word_lt : code_word n < 2 ^ 24
  unfolding code_word
  word_lt = let high_lt : n % 4096 < 4096 = mod-lt n (lit< tt) in omega (arith, parity_lt n)

  places_lt : places_to w n < 2 ^ 24
  places_lt = xor_lt 24 (w % 2 ^ 24) (code_word n) (mod-lt w (pow_pos 24)) word_lt

  -- as many as the distance
  pub as_many : ones_in 24 (places_to w n) ≡ distance w (code_word n)
  unfolding distance weight
  as_many = ones_same 24 (w % 2 ^ 24) w (code_word n) (code_word n) (mod-mod-pow w 0 24) refl

  no_places : distance w (code_word n) ≡ 0 → places_to w n ≡ 0
  no_places none = no_ones 24 (places_to w n) places_lt (as_many ∙ none)

-- a word of syndrome 0 is a code word
pub intact : (w : ℕ) → syndrome w ≡ 0 → Decodes w (found (high w) 0 0)
unfolding Decodes syndrome weight chosen ones_in
intact w e =
    let none : distance w (code_word (high w)) ≡ 0 = rw (xor_zero_r (high w)) at (repaired w 0 e) in
    (mod-lt (w / 4096) (lit< tt), none, lit≤ tt, sym (no_places w (high w) none))

-- what the table's entry says of the word
module _ (w y : ℕ) (c : Enters (syndrome w) y) where
  pub mends : (y ≡ 0xFFFF → ⊥) → Mends w (Some (record { number = bit_xor (high w) (y % 4096); flips = y / 4096 }))
  unfolding Mends Decodes
  mends some =
      ⊎_elim
      (λ p.
      let e = p.0 in
      let lt : e / 4096 < 4096 = omega arith in
      let same : high e ≡ y % 4096 = mod-eq_of_lt lt ∙ half y (weight e) (e / 4096) lt p.4 in
      let many : weight e ≡ y / 4096 = top y (weight e) (e / 4096) lt p.4 in
      (rw same at (flip_lt w e), rw same at (repaired w e (sym p.2)) ∙ many, rw many at p.3, refl))
      (λ p. absurd (some p.0))
      c

  pub none_near : y ≡ 0xFFFF → Mends w None
  unfolding Mends Decodes
  none_near mark = far w (correction_of y) (correction_of_lem (syndrome w) y c) (ap correction_of mark)

-- a word is intact where both halves say the same number
pub same_halves : (w c : ℕ) → c ≡ chosen checks (low w) → eqb c (high w) ≡ eqb (syndrome w) 0
unfolding syndrome
same_halves w c e = rw e (xor_test (chosen checks (low w)) (high w))
