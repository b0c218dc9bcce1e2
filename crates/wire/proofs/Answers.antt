-- What the decoder's answers make of a header's words.
-- Assumes nothing.
use mathlib.Core.Path.{◌≡◌, refl, sym, ap, ◌∙◌}
use mathlib.Core.Bool.{Bool, true, false, cond, ◌&&◌}
use lib.Dec.{eqb}
use borrow.Author.Tests.{eqb-true}
use Prim.Native.Nat.{ℕ, ◌+◌, ◌/◌, ◌%◌, ◌^◌, ◌≤◌}
use native.Mathlib.Omega.{arith}
use Rattle.std.specs.Prelude.{Option, Some, None}
use Rattle.golay.specs.declared.Word.{Word}
use Rattle.golay.specs.declared.Mended.{Mended}
use Rattle.golay.specs.Golay.{high, syndrome, places_to}
use Rattle.golay.specs.Answers.{Decodes, Mends, found, reading}
use Rattle.golay.proofs.Decoder.{intact}
use Rattle.golay.proofs.Theorems.{is_reading}
use Rattle.wire.specs.declared.Header.{Header}
use Rattle.wire.specs.Reading.{number_of, fields_of, header_from, header_in, intact_in, tp_number_in, tp_word_from, tp_word_of}

pub number_is : (w : ℕ) (r : Option Word) → Decodes w r → number_of (reading w) ≡ number_of r
number_is w r d = ap number_of (sym (is_reading w r d))

-- two words' flips are few
pub few : (w v : ℕ) (x y : Mended) → Mends w (Some x) → Mends v (Some y) → x.flips + y.flips ≤ 6
unfolding Mends Decodes
few w v x y d e = omega (arith, d.2, e.2)

-- what a mended word is read as
pub says : (w : ℕ) (x : Mended) → Mends w (Some x) → reading w ≡ found x.number x.flips (places_to w x.number)
unfolding Mends
says w x d = sym (is_reading w (found x.number x.flips (places_to w x.number)) d)

pub says_none : (w : ℕ) → Mends w None → reading w ≡ None
unfolding Mends
says_none w d = sym (is_reading w None d)

pub word_says : (w : ℕ) (x : Mended) → Mends w (Some x) → Some (tp_word_from x.number) ≡ tp_word_of (tp_number_in w)
unfolding tp_number_in
word_says w x d = rw (says w x d)

pub word-beyond : (w : ℕ) → Mends w None → None ≡ tp_word_of (tp_number_in w)
unfolding tp_number_in
word-beyond w d = rw (says_none w d)

-- a header's two words
module _ (w v : ℕ) where
  pub first-beyond : Mends w None → None ≡ header_from (reading w) (reading v)
  first-beyond d = rw (says_none w d)

  pub second-beyond : (x : Mended) → Mends w (Some x) → Mends v None → None ≡ header_from (reading w) (reading v)
  second-beyond x d e = rw (says w x d, says_none v e)

  pub both-whole : (x y : Mended) → Mends w (Some x) → Mends v (Some y)
      → Some (fields_of x.number y.number (x.flips + y.flips)) ≡ header_from (reading w) (reading v)
  both-whole x y d e = rw (says w x d, says v y e)

-- an intact word says its number
pub intact-word : (w : ℕ) → syndrome w ≡ 0 → reading w ≡ found (high w) 0 0
intact-word w e = sym (is_reading w (found (high w) 0 0) (intact w e))

pub word-intact : (w : ℕ) → syndrome w ≡ 0 → Some (tp_word_from (high w)) ≡ tp_word_of (tp_number_in w)
unfolding tp_number_in
word-intact w e = rw (intact-word w e)

pub words-intact : (w v : ℕ) → syndrome w ≡ 0 → syndrome v ≡ 0 → Some (fields_of (high w) (high v) 0) ≡ header_from (reading w) (reading v)
words-intact w v d e = rw (intact-word w d, intact-word v e)

abbrev told : Option Header → ℕ
told None = 0
told (Some h) = 1

-- two intact words say what they hold
pub intact-is : (w : ℕ) (h : Header) → intact_in w ≡ Some h → header_in w ≡ Some h
unfolding intact_in header_in
intact-is w h e = by (eqb (syndrome a) 0) (eqb (syndrome b) 0) refl refl e
  where
    a : ℕ
    a = w / 2 ^ 24 % 2 ^ 24

    b : ℕ
    b = w % 2 ^ 24

    read : (v : ℕ) → eqb (syndrome v) 0 ≡ true → reading v ≡ found (high v) 0 0
    read v x = intact-word v (eqb-true (syndrome v) 0 x)

    by : (x y : Bool) → eqb (syndrome a) 0 ≡ x → eqb (syndrome b) 0 ≡ y → cond (x && y) (Some (fields_of (high a) (high b) 0)) None ≡ Some h
        → header_from (reading a) (reading b) ≡ Some h
    by true true p q f = rw (read a p, read b q) f
    by true false p q f = let z : ◌≡◌ {A = ℕ} 0 1 = ap told f in absurd (omega arith)
    by false y p q f = let z : ◌≡◌ {A = ℕ} 0 1 = ap told f in absurd (omega arith)

-- what `wire::read_intact` answers, by its two tests
module _ (w : ℕ) where
  pub both-intact : (h : Header) → eqb (syndrome (w / 2 ^ 24 % 2 ^ 24)) 0 ≡ true → eqb (syndrome (w % 2 ^ 24)) 0 ≡ true
      → h ≡ fields_of (high (w / 2 ^ 24 % 2 ^ 24)) (high (w % 2 ^ 24)) 0 → Some h ≡ intact_in w
  unfolding intact_in
  both-intact h e f is = rw (e, f, is)

  pub second-flipped : eqb (syndrome (w / 2 ^ 24 % 2 ^ 24)) 0 ≡ true → eqb (syndrome (w % 2 ^ 24)) 0 ≡ false → None ≡ intact_in w
  unfolding intact_in
  second-flipped e f = rw (e, f)

  pub first-flipped : eqb (syndrome (w / 2 ^ 24 % 2 ^ 24)) 0 ≡ false → None ≡ intact_in w
  unfolding intact_in
  first-flipped e = rw e

-- an answer of two intact words is the header that they hold, of which no bit was flipped
pub read-intact-is : (w : ℕ) (r : Option Header) (h : Header) → r ≡ intact_in w → r ≡ Some h → header_in w ≡ Some h
read-intact-is w r h a b = intact-is w h (sym a ∙ b)
