-- EP headers as the sender reads its own: by the number halves of their words. Assumes nothing.
use mathlib.Core.Path.{◌≡◌, ap, ap₂, ◌∙◌}
use mathlib.Core.List.{List, [], ◌∷◌, ◌++◌, append_assoc}
use Prim.Native.Nat.{ℕ, ◌+◌, ◌*◌, ◌/◌, ◌%◌, ◌^◌, ◌<◌}
use native.Mathlib.Omega.{arith}
use lib.ListN.{length, take}
use lib.Seq.{take_at}
use Rattle.digits.specs.Digits.{number}
use Rattle.digits.proofs.Laws.{number_append}
use Rattle.golay.specs.Golay.{code_word, parity}
use Rattle.golay.proofs.Words.{parity_lt}
use Rattle.wire.specs.Wire.{word, first_number, header, ep}
use Rattle.wire.proofs.Laws.{word_length, header_length, word_number}
use Rattle.sender.specs.Drawing.{head_at, size_in, content_in}

pub three : (n : ℕ) (g : List ℕ) → length g ≡ 3 → number n g ≡ n * 2 ^ 24 + number 0 g
three n [] e = absurd (omega arith)
three n (a ∷ []) e = absurd (omega arith)
three n (a ∷ b ∷ []) e = absurd (omega arith)
three n (a ∷ b ∷ c ∷ []) e = omega arith
three n (a ∷ b ∷ c ∷ d ∷ g) e = absurd (omega arith)

-- the number halves of two code words in a row
module _ (a p b q : ℕ) (p-lt : p < 4096) (b_lt : b < 4096) (q-lt : q < 4096) where
  upper : ((a * 4096 + p) * 2 ^ 24 + (b * 4096 + q)) / 2 ^ 36 ≡ a
  upper = omega arith

  lower : ((a * 4096 + p) * 2 ^ 24 + (b * 4096 + q)) / 2 ^ 12 % 4096 ≡ b
  lower = omega arith

  top : ((a * 4096 + p) * 2 ^ 24 + (b * 4096 + q)) / 2 ^ 42 ≡ a / 64
  top = omega arith

module _ (c f n : ℕ) where
  abbrev first_half : ℕ
  first_half = first_number c f n % 4096

  abbrev second_half : ℕ
  second_half = n % 4096 % 4096

  header_number : number 0 (header c f n) ≡ (first_half * 4096 + parity (first_number c f n)) * 2 ^ 24 + (second_half * 4096 + parity (n % 4096))
  unfolding header code_word
  header_number =
      number_append 0 (word (first_number c f n)) (word (n % 4096))
      ∙ three (number 0 (word (first_number c f n))) (word (n % 4096)) (word_length (n % 4096))
      ∙ ap₂ (λ (a b : ℕ). a * 2 ^ 24 + b) (word_number (first_number c f n)) (word_number (n % 4096))

  halves : n < 65536 → first_half % 16 * 4096 + second_half ≡ n
  unfolding first_number
  halves h = omega arith

  content : c < 16 → first_half / 64 % 16 ≡ c
  unfolding first_number
  content h = omega arith

  pub size_in_lem : n < 65536 → size_in (number 0 (header c f n)) ≡ n
  unfolding size_in
  size_in_lem h =
      let p = parity_lt (first_number c f n) in
      let q = parity_lt (n % 4096) in
      let b : second_half < 4096 = omega arith in
      rw (header_number, upper first_half (parity (first_number c f n)) second_half (parity (n % 4096)) p b q, lower first_half (parity (first_number c f n)) second_half (parity (n % 4096)) p b q)
      (halves h)

  pub content_in_lem : c < 16 → content_in (number 0 (header c f n)) ≡ c
  unfolding content_in
  content_in_lem h =
      let b : second_half < 4096 = omega arith in
      rw (header_number, top first_half (parity (first_number c f n)) second_half (parity (n % 4096)) (parity_lt (first_number c f n)) b (parity_lt (n % 4096)))
      (content h)

pub head_at_lem : (c f : ℕ) (d q : List ℕ) → head_at (ep c f d ++ q) ≡ number 0 (header c f (length d))
unfolding head_at ep
head_at_lem c f d q =
    ap (λ l. number 0 (take 6 l)) (append_assoc (header c f (length d)) d q)
    ∙ ap (number 0) (take_at (header c f (length d)) (d ++ q) 6 (header_length c f (length d)))
