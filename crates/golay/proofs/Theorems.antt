-- What the crates above may use: the decoder's contract allows one answer, which is the nearest code word and its distance;
-- and the table is A.3's. Assumes nothing.
use mathlib.Core.Path.{◌≡◌, refl, sym, ap, ap₂, ◌∙◌}
use mathlib.Core.Logic.{⊎_elim}
use mathlib.Core.Bool.{Bool, true, false, cond}
use Prim.Native.Nat.{ℕ, zero, suc, ◌/◌, ◌^◌, ◌≤◌, ◌<◌}
use native.Mathlib.Nat.{mod-eq_of_lt, not-suc-le-zero, lt_of_not-le}
use native.Mathlib.Omega.{arith}
use lib.Bits.{bit_xor, xor_zero_r}
use lib.Count.{ones_in}
use lib.Dec.{leb, lit<, lit≤}
use borrow.Author.Tests.{leb-true, leb-false, lt-leb}
use Rattle.golay.specs.Golay.{high, chosen, code_word, weight, distance, places_to, syndrome}
use Rattle.std.specs.Prelude.{Option, Some, None}
use Rattle.golay.specs.Answers.{Nearest, Decodes, Corrects, count, found, reading_below, reading}
use Rattle.golay.specs.declared.Word.{Word}
use Rattle.golay.proofs.Xor.{xor_twice}
use Rattle.golay.proofs.Words.{alone}
use Rattle.golay.proofs.Decoder.{nearest, near, far, as_many}

found_same : {m n c d e f : ℕ} → m ≡ n → c ≡ d → e ≡ f → found m c e ≡ found n d f
found_same p q r = rw (p, q, r)

pub one_answer : (w : ℕ) (r s : Option Word) → Decodes w r → Decodes w s → r ≡ s
unfolding Decodes
one_answer w (Some x) (Some y) p q =
    let same : x.number ≡ y.number = alone w x.number y.number p.0 q.0 (omega arith) in
    found_same same (sym p.1 ∙ ap (λ (n : ℕ). distance w (code_word n)) same ∙ q.1) (p.3 ∙ ap (places_to w) same ∙ sym q.3)
one_answer w (Some x) None p q = absurd (omega (arith, q.0 x.number p.0))
one_answer w None (Some y) p q = absurd (omega (arith, p.0 y.number q.0))
one_answer w None None p q = refl

-- the count is the distance to the nearest code word
pub true_count : (w : ℕ) (r : Option Word) → Decodes w r → Nearest w (count r)
unfolding Decodes
true_count w (Some x) d = nearest w x.number x.flips d.0 d.1 (omega arith)
true_count w None d = d

-- the contract is false of an invented count: of any that is not the distance, and so of the number's half counted alone
pub invented : (w n c e : ℕ) → (c ≡ distance w (code_word n) → ⊥) → Decodes w (found n c e) → ⊥
unfolding Decodes
invented w n c e other d = other (sym d.1)

pub half_counted : (e : ℕ) → Decodes 0x000007 (found 0x000 0 e) → ⊥
unfolding distance weight code_word chosen ones_in
half_counted e = invented 0x000007 0x000 0 e (λ z. omega arith)

-- as many places are told as flips are counted
pub places_count : (w n c e : ℕ) → Decodes w (found n c e) → ones_in 24 e ≡ c
unfolding Decodes
places_count w n c e d = ap (ones_in 24) d.3 ∙ as_many w n ∙ d.1

-- the table as A.3 fills it: at the syndrome of an error of at most three flips stands the number's half of that error
pub a3 : (e x : ℕ) → e < 2 ^ 24 → weight e ≤ 3 → Corrects (syndrome e) x → x ≡ e / 4096
unfolding distance code_word chosen
a3 e x lt few entry =
    let zero_word : distance e (code_word 0) ≡ weight e = ap weight (xor_zero_r e) in
    let half : e / 4096 < 4096 = omega arith in
    ⊎_elim
    (λ p.
    let c = near e x entry (λ mark. omega arith) in
    let none : bit_xor (high e) x ≡ 0 = alone e (bit_xor (high e) x) 0 c.0 (lit< tt) (omega arith) in
    sym (xor_twice (high e) x) ∙ ap (bit_xor (high e)) none ∙ xor_zero_r (high e) ∙ mod-eq_of_lt half)
    (λ p. absurd (omega (arith, (far e x entry p.0).0 0 (lit< tt))))
    entry

-- so the table's rule allows one entry at a syndrome
pub one_entry : (s x y : ℕ) → Corrects s x → Corrects s y → x ≡ y
one_entry s x y p q =
    ⊎_elim
    (λ a. a.4 ∙ sym (a3 a.0 y a.1 a.3 (rw a.2 q)))
    (λ a. ⊎_elim (λ b. a3 b.0 x b.1 b.3 (rw b.2 p) ∙ sym b.4) (λ b. a.0 ∙ sym b.0) q)
    p

-- ---- the answer as a function

module _ (w : ℕ) where
  finds : (k n : ℕ) → n < k → k ≤ 4096 → distance w (code_word n) ≤ 3 → reading_below k w ≡ found n (distance w (code_word n)) (places_to w n)
  unfolding reading_below
  finds zero n h g few = absurd (not-suc-le-zero h)
  finds (suc k) n h g few = go (leb (distance w (code_word k)) 3) refl (λ other. finds k n other (omega arith) few)
    where
      go : (t : Bool) → leb (distance w (code_word k)) 3 ≡ t
          → (n < k → reading_below k w ≡ found n (distance w (code_word n)) (places_to w n))
          → cond t (found k (distance w (code_word k)) (places_to w k)) (reading_below k w) ≡ found n (distance w (code_word n)) (places_to w n)
      go true e below =
          let same : k ≡ n = alone w k n (omega arith) (omega arith) (omega (arith, leb-true (distance w (code_word k)) 3 e)) in
          rw same
      go false e below = below (lt_of_not-le (λ (le : k ≤ n).
          let same : k ≡ n = omega arith in
          let near : distance w (code_word k) ≤ 3 = rw same few in
          omega (arith, leb-false (distance w (code_word k)) 3 e)))

  misses : (k : ℕ) → k ≤ 4096 → ((n : ℕ) → n < 4096 → 4 ≤ distance w (code_word n)) → reading_below k w ≡ None
  unfolding reading_below
  misses zero g far-off = refl
  misses (suc k) g far-off =
      let over : 3 < distance w (code_word k) = far-off k (omega arith) in
      rw (lt-leb (distance w (code_word k)) 3 over) (misses k (omega arith) far-off)

  pub is_reading : (r : Option Word) → Decodes w r → r ≡ reading w
  unfolding Decodes reading
  is_reading (Some x) d =
      sym (finds 4096 x.number d.0 (lit≤ tt) (omega arith) ∙ ap₂ (found x.number) d.1 (sym d.3))
  is_reading None d = sym (misses 4096 (lit≤ tt) d.0)

  -- a word within three flips of a code word is read as its number, with exactly that count
  pub reading_near : (n : ℕ) → n < 4096 → distance w (code_word n) ≤ 3 → reading w ≡ found n (distance w (code_word n)) (places_to w n)
  unfolding reading
  reading_near n lt few = finds 4096 n lt (lit≤ tt) few
