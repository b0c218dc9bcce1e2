-- What the receiver reads in headers and end bytes that are damaged within the limits. Assumes nothing.
use mathlib.Core.Path.{◌≡◌, refl, ap, ◌∙◌, subst, subst⁻¹}
use mathlib.Core.List.{List, ◌++◌, append_assoc}
use Prim.Native.Nat.{ℕ, ◌+◌, ◌*◌, ◌/◌, ◌%◌, ◌^◌, ◌≤◌, ◌<◌}
use native.Mathlib.Omega.{arith}
use lib.ListN.{length, take, drop, length-take, length-drop}
use lib.Seq.{take_at, drop_at, take-add}
use borrow.Author.Tests.{le-leb, ne_eqb}
use Rattle.std.specs.Prelude.{Some}
use Rattle.digits.specs.Digits.{number}
use Rattle.digits.proofs.Laws.{number_append, number_lt}
use Rattle.golay.specs.Golay.{code_word, distance}
use Rattle.golay.specs.Answers.{end_of}
use Rattle.golay.specs.declared.End.TheVariants.{Zeros, Ones}
use Rattle.golay.proofs.Ends.{end_near}
use Rattle.wire.specs.declared.Header.{Header}
use Rattle.wire.specs.Wire.{word, first_number, header, ep}
use Rattle.wire.specs.Reading.{sort_of, header_of}
use Rattle.wire.proofs.Laws.{word_length, word_number, header_flips, header_back}
use Rattle.receiver.specs.declared.kind.Kind.TheVariants.{Fill, Complete, First, Middle, Last}
use Rattle.receiver.specs.Kind.{piece_of, kind_of}
use Rattle.downlink.specs.Damage.{Bytes, Near, NearEnd, HeadNear}
use Rattle.downlink.proofs.Heads.{three}

-- a header read with so many flips
abbrev pub head_of : ℕ → ℕ → ℕ → ℕ → Header
head_of c f n k = record { content = c; fragment = f; size = n; flips = k }

-- how many bits of the header of an EP with the data d differ where it arrived
abbrev pub flips_in : ℕ → ℕ → List ℕ → List ℕ → ℕ
flips_in c f d bs = header_flips c f (length d) (number 0 (take 6 bs))

-- ---- words

pub near_word : (m : ℕ) (g : List ℕ) → Near (word m) g → distance (number 0 g) (code_word m) ≤ 3
near_word m g h = subst (λ (w : ℕ). distance (number 0 g) w ≤ 3) (word_number m) h.1

word_lt : (g : List ℕ) → length g ≡ 3 → Bytes g → number 0 g < 2 ^ 24
word_lt g l b = number_lt 0 3 0 g b (omega arith) (omega arith)

-- ---- headers

module _ (c f : ℕ) (d : List ℕ) where
  abbrev pub n : ℕ
  n = length d

  pub first_word : take 3 (ep c f d) ≡ word (first_number c f n)
  unfolding ep header
  first_word =
      ap (take 3) (append_assoc (word (first_number c f n)) (word (n % 4096)) d)
      ∙ take_at (word (first_number c f n)) (word (n % 4096) ++ d) 3 (word_length (first_number c f n))

  pub second_word : take 3 (drop 3 (ep c f d)) ≡ word (n % 4096)
  unfolding ep header
  second_word =
      ap (λ l. take 3 (drop 3 l)) (append_assoc (word (first_number c f n)) (word (n % 4096)) d)
      ∙ ap (take 3) (drop_at (word (first_number c f n)) (word (n % 4096) ++ d) 3 (word_length (first_number c f n)))
      ∙ take_at (word (n % 4096)) d 3 (word_length (n % 4096))

  pub header_reads : (bs : List ℕ) → c < 16 → f < 4 → n < 65536 → 6 ≤ length bs → HeadNear (ep c f d) bs → header_of (take 6 bs) ≡ Some (head_of c f n (flips_in c f d bs))
  unfolding header_of
  header_reads bs p q s six near =
      let a : List ℕ = take 3 bs in
      let b : List ℕ = take 3 (drop 3 bs) in
      let a_length : length a ≡ 3 = omega (arith, length-take 3 bs) in
      let b_length : length b ≡ 3 = omega (arith, length-take 3 (drop 3 bs), length-drop 3 bs) in
      let w : ℕ = number 0 (take 6 bs) in
      let w_is : w ≡ number 0 a * 2 ^ 24 + number 0 b = ap (number 0) (take-add 3 3 bs) ∙ number_append 0 a b ∙ three (number 0 a) b b_length in
      let a_lt : number 0 a < 2 ^ 24 = word_lt a a_length near.0.0 in
      let b_lt : number 0 b < 2 ^ 24 = word_lt b b_length near.1.0 in
      let up : w / 2 ^ 24 % 2 ^ 24 ≡ number 0 a = ap (λ (x : ℕ). x / 2 ^ 24 % 2 ^ 24) w_is ∙ omega arith in
      let low : w % 2 ^ 24 ≡ number 0 b = ap (λ (x : ℕ). x % 2 ^ 24) w_is ∙ omega arith in
      let near₁ : Near (word (first_number c f n)) a = subst (λ (z : List ℕ). Near z a) first_word near.0 in
      let near₂ : Near (word (n % 4096)) b = subst (λ (z : List ℕ). Near z b) second_word near.1 in
      header_back c f n p q s w
      (subst⁻¹ (λ (x : ℕ). distance x (code_word (first_number c f n)) ≤ 3) up (near_word (first_number c f n) a near₁))
      (subst⁻¹ (λ (x : ℕ). distance x (code_word (n % 4096)) ≤ 3) low (near_word (n % 4096) b near₂))

-- ---- kinds

pub kind_fill : (n k : ℕ) → kind_of (head_of 0 0 n k) ≡ Fill
unfolding kind_of sort_of
kind_fill n k = refl

module _ (c n k : ℕ) (c₁ : 1 ≤ c) (c₆ : c ≤ 6) where
  pub kind_complete : kind_of (head_of c 0 n k) ≡ Complete
  unfolding kind_of sort_of piece_of
  kind_complete = rw (ne_eqb c 0 (omega arith), le-leb c 6 c₆)

  pub kind_first : kind_of (head_of c 1 n k) ≡ First
  unfolding kind_of sort_of piece_of
  kind_first = rw (ne_eqb c 0 (omega arith), le-leb c 6 c₆)

  pub kind_middle : kind_of (head_of c 2 n k) ≡ Middle
  unfolding kind_of sort_of piece_of
  kind_middle = rw (ne_eqb c 0 (omega arith), le-leb c 6 c₆)

  pub kind_last : kind_of (head_of c 3 n k) ≡ Last
  unfolding kind_of sort_of piece_of
  kind_last = rw (ne_eqb c 0 (omega arith), le-leb c 6 c₆)

-- ---- end bytes

pub end_more : (b : ℕ) → NearEnd 0xFF b → end_of b ≡ Ones
end_more b h = end_near b h.0 Ones 0xFF refl h.1

pub end_last : (b : ℕ) → NearEnd 0x00 b → end_of b ≡ Zeros
end_last b h = end_near b h.0 Zeros 0x00 refl h.1
