-- Laws of a queued header by its two words. Assumes nothing.
use Rattle.std.specs.Prelude.{Some, None}
use mathlib.Core.Path.{◌≡◌, refl, sym, ap, ◌∙◌}
use mathlib.Core.Bool.{Bool, true, false, cond}
use Prim.Native.Nat.{ℕ, ◌+◌, ◌*◌, ◌/◌, ◌%◌, ◌^◌, ◌≤◌, ◌<◌}
use native.Mathlib.Omega.{arith}
use Rattle.digits.specs.Digits.{number}
use Rattle.golay.specs.Golay.{code_word}
use Rattle.golay.proofs.Words.{parity_lt}
use Rattle.wire.specs.Wire.{header}
use Rattle.wire.proofs.Laws.{code_lt}
use Rattle.sender.specs.Offering.{known}
use Rattle.sender.specs.Drawing.{size_in, content_in, low_in}
use Rattle.sender.specs.Steps.{first_word}
use Rattle.sender.proofs.Firsts.{known_is, is_first}
use Rattle.sender.proofs.Heads.{header_number, low_short, low_long, low_right, low_case}

-- a code word has its number in its upper half
upper : (n : ℕ) → n < 4096 → code_word n / 4096 ≡ n
unfolding code_word
upper n h = omega (arith, parity_lt n)

-- a first word tells that its content is known
first_known : (c x : ℕ) → first_word c ≡ Some x → known c ≡ true
unfolding first_word
first_known c x e = by (known c) e
  where
    by : (t : Bool) → cond t (Some (code_word (c * 64))) None ≡ Some x → t ≡ true
    by true k = refl
    by false k = cc

pub the_same : (a b : ℕ) → Some a ≡ Some b → a ≡ b
the_same a b e = cc

pub not_some : (a : ℕ) → None ≡ Some a → ⊥
not_some a e = cc

same_words : (x y v w : ℕ) → y < 16777216 → w < 16777216 → v * 16777216 + w ≡ x * 16777216 + y → (v ≡ x) × (w ≡ y)
same_words x y v w hy hw e = (omega arith, omega arith)

module _ (x y : ℕ) (hx : x < 16777216) (hy : y < 16777216) where
  size_words : size_in (x * 16777216 + y) ≡ x / 4096 % 16 * 4096 + y / 4096
  unfolding size_in
  size_words =
      let u : (x * 16777216 + y) / 2 ^ 36 ≡ x / 4096 = omega arith in
      let v : (x * 16777216 + y) / 2 ^ 12 % 4096 ≡ y / 4096 = omega arith in
      rw (u, v) refl

  content_words : content_in (x * 16777216 + y) ≡ x / 262144 % 16
  unfolding content_in
  content_words = let u : (x * 16777216 + y) / 2 ^ 42 ≡ x / 262144 = omega arith in rw u refl

  module _ (P n : ℕ) where
    pub is_short : n < 6 + y / 4096 → 0 ≡ low_in P n (x * 16777216 + y)
    is_short h = low_short P n (x * 16777216 + y) (omega (arith, size_words))

    pub is_long : P < 7 + y / 4096 → 0 ≡ low_in P n (x * 16777216 + y)
    is_long h = low_long P n (x * 16777216 + y) (omega (arith, size_words))

    module _ (p : P ≤ 2047) where
      accepted : 7 + size_in (x * 16777216 + y) ≤ P → known (content_in (x * 16777216 + y)) ≡ true
          → number 0 (header (content_in (x * 16777216 + y)) 0 (size_in (x * 16777216 + y))) ≡ x * 16777216 + y
          → (first_word (x / 262144) ≡ Some x) × (code_word (y / 4096) ≡ y)
      accepted q k e = by (content_in (x * 16777216 + y)) (size_in (x * 16777216 + y)) (omega arith) k e
        where
          by : (c s : ℕ) → s < 4096 → known c ≡ true → number 0 (header c 0 s) ≡ x * 16777216 + y → (first_word (x / 262144) ≡ Some x) × (code_word (y / 4096) ≡ y)
          by c s hs k e =
              let m = (known_is c k).1 in
              let f₁ : c * 64 + s / 4096 ≡ c * 64 = omega arith in
              let f₂ : s % 4096 ≡ s = omega arith in
              let u = same_words x y (code_word (c * 64 + s / 4096)) (code_word (s % 4096)) hy (code_lt (s % 4096)) (header_number c s (code_word (c * 64 + s / 4096)) (code_word (s % 4096)) (omega arith) (omega arith) refl refl ∙ e) in
              let xe : code_word (c * 64) ≡ x = ap code_word (sym f₁) ∙ u.0 in
              let ye : code_word s ≡ y = ap code_word (sym f₂) ∙ u.1 in
              let ux : x / 4096 ≡ c * 64 = ap (λ (z : ℕ). z / 4096) (sym xe) ∙ upper (c * 64) (omega arith) in
              let uy : y / 4096 ≡ s = ap (λ (z : ℕ). z / 4096) (sym ye) ∙ upper s hs in
              let tx : x / 262144 ≡ c = omega arith in
              (ap first_word tx ∙ is_first c k ∙ ap Some xe, ap code_word uy ∙ ye)

      pub not_first : (first_word (x / 262144) ≡ Some x → ⊥) → 0 ≡ low_in P n (x * 16777216 + y)
      not_first f = low_case P n (x * 16777216 + y) (λ m. 0 ≡ m) refl (λ a b k e. absurd (f (accepted b k e).0))

      pub not_second : (code_word (y / 4096) ≡ y → ⊥) → 0 ≡ low_in P n (x * 16777216 + y)
      not_second f = low_case P n (x * 16777216 + y) (λ m. 0 ≡ m) refl (λ a b k e. absurd (f (accepted b k e).1))

    pub is_low : 6 + y / 4096 ≤ n → 7 + y / 4096 ≤ P → first_word (x / 262144) ≡ Some x → code_word (y / 4096) ≡ y → 6 + y / 4096 ≡ low_in P n (x * 16777216 + y)
    is_low a b fe ye =
        let k = first_known (x / 262144) x fe in
        let m = (known_is (x / 262144) k).1 in
        let hs : y / 4096 < 4096 = omega arith in
        let xe : code_word (x / 262144 * 64) ≡ x = the_same _ _ (sym (is_first (x / 262144) k) ∙ fe) in
        let ux : x / 4096 ≡ x / 262144 * 64 = ap (λ (z : ℕ). z / 4096) (sym xe) ∙ upper (x / 262144 * 64) (omega arith) in
        let z : x / 4096 % 16 ≡ 0 = omega arith in
        let se : size_in (x * 16777216 + y) ≡ y / 4096 = size_words ∙ rw z (omega arith) in
        let ce : content_in (x * 16777216 + y) ≡ x / 262144 = content_words ∙ omega arith in
        let f₁ : x / 262144 * 64 + y / 4096 / 4096 ≡ x / 262144 * 64 = omega arith in
        let f₂ : y / 4096 % 4096 ≡ y / 4096 = omega arith in
        let e : number 0 (header (x / 262144) 0 (y / 4096)) ≡ x * 16777216 + y =
        sym (header_number (x / 262144) (y / 4096) x y (omega arith) (omega arith) (sym (ap code_word f₁ ∙ xe)) (sym (ap code_word f₂ ∙ ye))) in
        ap (λ (i : ℕ). 6 + i) (sym se) ∙ low_right P n (x * 16777216 + y) (rw se a) (rw se b) (rw ce k) (rw (ce, se) e)
