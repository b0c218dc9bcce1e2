-- What is sent is read back, also with up to three flips in each word.
-- Assumes nothing.
use mathlib.Core.Path.{◌≡◌, refl, ap, ap₂, ◌∙◌}
use mathlib.Core.Bool.{Bool, true, false, cond}
use mathlib.Core.List.{List}
use Prim.Native.Nat.{ℕ, zero, suc, ◌+◌, ◌*◌, ◌/◌, ◌%◌, ◌^◌, ◌≤◌, ◌<◌}
use native.Mathlib.Nat.{mod-lt}
use native.Mathlib.Omega.{arith}
use lib.Bits.{bit_xor, xor_self}
use lib.Count.{ones_in}
use lib.Dec.{leb, lit<}
use lib.ListN.{length, length-append}
use Rattle.digits.specs.Digits.{number}
use Rattle.digits.proofs.Laws.{length_digits, number_digits}
use Rattle.golay.specs.Golay.{chosen, code_word, distance, places_to, weight}
use borrow.Author.Tests.{leb-true}
use Rattle.std.specs.Prelude.{Option, Some, None}
use Rattle.golay.specs.declared.Word.{Word}
use Rattle.golay.specs.Answers.{count, found, reading, reading_below}
use Rattle.golay.proofs.Words.{parity_lt}
use Rattle.golay.proofs.Theorems.{reading_near}
use Rattle.wire.specs.declared.Header.{Header}
use Rattle.wire.specs.Wire.{word, first_number, header, ep, stream_byte, offset_number, tp_header}
use Rattle.wire.specs.Reading.{number_of, fields_of, header_from, header_in, tp_number_in, stream_of, version_of}

-- ---- lengths

pub word_length : (n : ℕ) → length (word n) ≡ 3
unfolding word
word_length n = length_digits 3 (code_word n)

pub header_length : (c f n : ℕ) → length (header c f n) ≡ 6
unfolding header
header_length c f n =
    length-append (word (first_number c f n)) (word (n % 4096)) ∙ ap₂ ◌+◌ (word_length (first_number c f n)) (word_length (n % 4096))

pub ep_length : (c f : ℕ) (d : List ℕ) → length (ep c f d) ≡ 6 + length d
unfolding ep
ep_length c f d = length-append (header c f (length d)) d ∙ ap (λ (n : ℕ). n + length d) (header_length c f (length d))

pub tp_header_length : (s : ℕ) (low : Bool) (o : ℕ) → length (tp_header s low o) ≡ 4
unfolding tp_header
tp_header_length s low o = ap suc (word_length (offset_number low o))

-- ---- a word read back

pub code_lt : (n : ℕ) → code_word n < 2 ^ 24
unfolding code_word
code_lt n = omega (arith, parity_lt n)

pub word_number : (n : ℕ) → number 0 (word n) ≡ code_word n
unfolding word
word_number n = number_digits 3 (code_word n) (code_lt n)

-- an intact word is at no distance from itself
pub near_itself : (w : ℕ) → distance w w ≤ 3
unfolding distance weight ones_in
near_itself w = let z : ones_in 24 (bit_xor w w) ≡ 0 = ap (ones_in 24) (xor_self w) in omega arith

-- within three flips of the code word of n
module _ (w n : ℕ) (small : n < 4096) (near : distance w (code_word n) ≤ 3) where
  pub number_back : number_of (reading w) ≡ Some n
  number_back = ap number_of (reading_near w n small near)

-- no count is more than that of a word beyond repair
count_most : (k w : ℕ) → count (reading_below k w) ≤ 4
unfolding reading_below
count_most zero w = omega arith
count_most (suc k) w = by (leb (distance w (code_word k)) 3) refl (count_most k w)
  where
    by : (t : Bool) → leb (distance w (code_word k)) 3 ≡ t → count (reading_below k w) ≤ 4 → count (cond t (found k (distance w (code_word k)) (places_to w k)) (reading_below k w)) ≤ 4
    by true e rest = omega (arith, leb-true (distance w (code_word k)) 3 e)
    by false e rest = rest

flips_most : (r s : Option Word) (h : Header) → count r ≤ 4 → count s ≤ 4 → header_from r s ≡ Some h → h.flips ≤ 8
flips_most (Some x) (Some y) h p q e = let z : x.flips + y.flips ≡ h.flips = cc in omega arith
flips_most (Some x) None h p q e = let z : ◌≡◌ {A = ℕ} 0 1 = cc in absurd (omega arith)
flips_most None s h p q e = let z : ◌≡◌ {A = ℕ} 0 1 = cc in absurd (omega arith)

pub few_flips : (w : ℕ) (h : Header) → header_in w ≡ Some h → h.flips ≤ 8
unfolding header_in reading
few_flips w h e = flips_most (reading (w / 2 ^ 24 % 2 ^ 24)) (reading (w % 2 ^ 24)) h (count_most 4096 (w / 2 ^ 24 % 2 ^ 24)) (count_most 4096 (w % 2 ^ 24)) e

-- ---- an EP header read back

pub first_lt : (c f n : ℕ) → first_number c f n < 4096
unfolding first_number
first_lt c f n = omega arith

-- how many bits of six bytes, as a number, differ from the header that was sent
abbrev pub header_flips : ℕ → ℕ → ℕ → ℕ → ℕ
header_flips c f n w = distance (w / 2 ^ 24 % 2 ^ 24) (code_word (first_number c f n)) + distance (w % 2 ^ 24) (code_word (n % 4096))

module _ (c f n : ℕ) (known : c < 16) (flag : f < 4) (short : n < 65536) where
  fields : (k : ℕ) → fields_of (first_number c f n) (n % 4096) k ≡ record { content = c; fragment = f; size = n; flips = k }
  unfolding first_number
  fields k =
      let content : (c % 16 * 64 + f % 4 * 16 + n / 4096 % 16) / 64 % 16 ≡ c = omega arith in
      let fragment : (c % 16 * 64 + f % 4 * 16 + n / 4096 % 16) / 16 % 4 ≡ f = omega arith in
      let size : (c % 16 * 64 + f % 4 * 16 + n / 4096 % 16) % 16 * 4096 + n % 4096 ≡ n = omega arith in
      rw (content, fragment, size)

  -- an encoded header, with at most three flips in each word, is read as what was encoded, with so many flips
  pub header_back : (w : ℕ) → distance (w / 2 ^ 24 % 2 ^ 24) (code_word (first_number c f n)) ≤ 3 → distance (w % 2 ^ 24) (code_word (n % 4096)) ≤ 3
      → header_in w ≡ Some (record { content = c; fragment = f; size = n; flips = header_flips c f n w })
  unfolding header_in
  header_back w first second =
      ap₂ header_from (reading_near (w / 2 ^ 24 % 2 ^ 24) (first_number c f n) (first_lt c f n) first) (reading_near (w % 2 ^ 24) (n % 4096) (mod-lt n (lit< tt)) second)
      ∙ ap Some (fields (header_flips c f n w))

-- bits 11 and 10 of word 0 are sent zero, and ignored: two numbers that differ only there are read alike
pub top_ignored : (a b d k : ℕ) → fields_of (d * 1024 + a % 1024) b k ≡ fields_of (a % 1024) b k
top_ignored a b d k =
    let content : (d * 1024 + a % 1024) / 64 % 16 ≡ a % 1024 / 64 % 16 = omega arith in
    let fragment : (d * 1024 + a % 1024) / 16 % 4 ≡ a % 1024 / 16 % 4 = omega arith in
    let upper : (d * 1024 + a % 1024) % 16 ≡ a % 1024 % 16 = omega arith in
    rw (content, fragment, upper)

pub top_zero : (c f n : ℕ) → first_number c f n < 1024
unfolding first_number
top_zero c f n = omega arith

-- ---- a TP header read back

pub offset_lt : (low : Bool) (o : ℕ) → offset_number low o < 4096
unfolding offset_number
offset_lt true o = omega arith
offset_lt false o = omega arith

pub tp_word_back : (w : ℕ) (low : Bool) (o : ℕ) → distance w (code_word (offset_number low o)) ≤ 3 → tp_number_in w ≡ Some (offset_number low o)
unfolding tp_number_in
tp_word_back w low o near = number_back w (offset_number low o) (offset_lt low o) near

-- the code word of 2047 holds 2047: no low-latency part, and no EP begins
pub no_start : (w : ℕ) → w ≡ code_word 2047 → tp_number_in w ≡ Some 2047
unfolding tp_number_in
no_start w e = rw e (number_back (code_word 2047) 2047 (lit< tt) (near_itself (code_word 2047)))

-- as a number
pub no_start_is : 0x7FF38A ≡ code_word 2047
unfolding code_word chosen
no_start_is = refl

-- bits 3 and 2 of the stream byte are sent zero, and ignored
pub stream_back : (s r : ℕ) → s < 16 → r < 4 → (stream_of (stream_byte s + r * 4) ≡ s) × (version_of (stream_byte s + r * 4) ≡ 0)
unfolding stream_byte
stream_back s r h g = (omega arith, omega arith)
