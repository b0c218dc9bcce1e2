-- Laws of headers read from queued bytes. Assumes nothing.
use Rattle.std.specs.Prelude.{Ok, Err}
use mathlib.Core.Path.{◌≡◌, refl, sym, ap, ◌∙◌}
use mathlib.Core.Bool.{Bool, true, false, cond, not, ◌&&◌}
use mathlib.Core.Logic.{⊎_elim}
use mathlib.Core.List.{List, [], ◌∷◌}
use Prim.Native.Nat.{ℕ, ◌+◌, ◌-◌, ◌*◌, ◌/◌, ◌%◌, ◌^◌, ◌≤◌, ◌<◌}
use native.Mathlib.Nat.{div-div-eq-div-mul}
use native.Mathlib.Omega.{arith}
use lib.Dec.{leb, ltb, eqb}
use lib.ListN.{length, take, drop, get_or}
use borrow.Author.Tests.{le-ltb, lt-ltb, le-leb, eq-eqb, ne_eqb, leb-true, ltb-true, eqb-true}
use Rattle.digits.specs.Digits.{digits, number}
use Rattle.digits.proofs.Laws.{number_append}
use Rattle.golay.specs.Golay.{code_word}
use Rattle.queue.specs.declared.Ring.{Ring}
use Rattle.queue.specs.Ring.{held, Kept}
use Rattle.queue.proofs.Sixes.{six_from, run_held}
use Rattle.wire.specs.Wire.{word, first_number, header}
use Rattle.wire.proofs.Laws.{code_lt}
use Rattle.sender.specs.declared.Refusal.TheVariants.{Limits, Buffer}
use Rattle.sender.specs.Offering.{known}
use Rattle.sender.specs.Steps.{checked, first_of, drawable}
use Rattle.sender.specs.Drawing.{head_at, size_in, content_in, low_in, low_at, next, span, overwritten}
use Rattle.sender.proofs.Bools.{and_left, and_right, and_false, cond_case, split}
use Rattle.sender.proofs.Passing.{is_no}

-- ---- six bytes as a number

number_parts : (a b c d e f : ℕ) → number 0 (a ∷ b ∷ c ∷ d ∷ []) * 65536 + number 0 (e ∷ f ∷ []) ≡ number 0 (a ∷ b ∷ c ∷ d ∷ e ∷ f ∷ [])
number_parts a b c d e f = omega arith

-- each looked for by itself
pub head_apart : (s : List ℕ) (i a b c d e f x y : ℕ) → i + 6 ≤ length s → a ≡ get_or s i 0 → b ≡ get_or s (i + 1) 0 → c ≡ get_or s (i + 2) 0 → d ≡ get_or s (i + 3) 0
    → e ≡ get_or s (i + 4) 0 → f ≡ get_or s (i + 5) 0 → x ≡ number 0 (a ∷ b ∷ c ∷ d ∷ []) → y ≡ number 0 (e ∷ f ∷ []) → x * 65536 + y ≡ head_at (drop i s)
unfolding head_at
head_apart s i a b c d e f x y h ae be ce de ee fe xe ye =
    let n : x * 65536 + y ≡ number 0 (a ∷ b ∷ c ∷ d ∷ e ∷ f ∷ []) = rw (xe, ye) (number_parts a b c d e f) in
    let l : a ∷ b ∷ c ∷ d ∷ e ∷ f ∷ [] ≡ take 6 (drop i s) = rw (ae, be, ce, de, ee, fe) (six_from s i h) in
    n ∙ ap (number 0) l

-- in one run
pub head_run : (b : List ℕ) (q : Ring) (i at : ℕ) → Kept b q → i + 6 ≤ q.len
    → at ≡ cond (leb (length b) (q.head + i)) (q.head + i - length b) (q.head + i) → at + 6 ≤ length b
    → number 0 (get_or b at 0 ∷ get_or b (at + 1) 0 ∷ get_or b (at + 2) 0 ∷ get_or b (at + 3) 0 ∷ get_or b (at + 4) 0 ∷ get_or b (at + 5) 0 ∷ []) ≡ head_at (drop i (held b q))
unfolding head_at
head_run b q i at w p a r = ap (number 0) (six_from b at r ∙ run_held b q i 6 at w p a r)

-- as two words
pub words_run : (a b c d e f x y : ℕ) → x ≡ number 0 (a ∷ b ∷ c ∷ []) → y ≡ number 0 (d ∷ e ∷ f ∷ []) → x * 16777216 + y ≡ number 0 (a ∷ b ∷ c ∷ d ∷ e ∷ f ∷ [])
words_run a b c d e f x y xe ye = omega arith

-- the length stands in three of them
high_nibble : (a b : ℕ) → b < 256 → (a * 256 + b) / 16 % 16 ≡ b / 16
high_nibble a b h = omega arith

high_bytes : (x d e : ℕ) → d < 256 → e < 256 → ((x * 256 + d) * 256 + e) / 16 % 4096 ≡ d * 16 + e / 16
high_bytes x d e hd he = omega arith

size_bytes : (a b c d e f : ℕ) → b < 256 → c < 256 → d < 256 → e < 256 → f < 256
    → b / 16 * 4096 + d * 16 + e / 16 ≡ size_in (number 0 (a ∷ b ∷ c ∷ d ∷ e ∷ f ∷ []))
unfolding size_in
size_bytes a b c d e f hb hc hd he hf =
    let h : ℕ = number 0 (a ∷ b ∷ c ∷ d ∷ e ∷ f ∷ []) in
    let u : h / 4294967296 ≡ a * 256 + b = omega arith in
    let v : h / 256 ≡ (((a * 256 + b) * 256 + c) * 256 + d) * 256 + e = omega arith in
    rw (← div-div-eq-div-mul h 4294967296 16, ← div-div-eq-div-mul h 256 16, u, v, high_nibble a b hb, high_bytes ((a * 256 + b) * 256 + c) d e hd he) (omega arith)

-- read with the parity byte between them
pub size_four : (a b c d e f x : ℕ) → b < 256 → c < 256 → d < 256 → e < 256 → f < 256 → x ≡ number 0 (b ∷ c ∷ d ∷ e ∷ [])
    → x / 268435456 * 4096 + x / 16 % 4096 ≡ size_in (number 0 (a ∷ b ∷ c ∷ d ∷ e ∷ f ∷ []))
size_four a b c d e f x hb hc hd he hf xe =
    let u : x / 268435456 ≡ b / 16 = omega arith in
    let w : x ≡ ((b * 256 + c) * 256 + d) * 256 + e = omega arith in
    let v : x / 16 % 4096 ≡ d * 16 + e / 16 = rw w (high_bytes (b * 256 + c) d e hd he) in
    rw (u, v) (omega arith) ∙ size_bytes a b c d e f hb hc hd he hf

-- a header's number by its two code words
number_word : (m v : ℕ) → v < 2 ^ 24 → number m (digits 3 v) ≡ m * 16777216 + v
number_word m v h = omega arith

pub header_number : (c n x y : ℕ) → c < 16 → n < 65536 → x ≡ code_word (c * 64 + n / 4096) → y ≡ code_word (n % 4096) → x * 16777216 + y ≡ number 0 (header c 0 n)
unfolding header word first_number
header_number c n x y hc hn xe ye =
    let f : c % 16 * 64 + 0 % 4 * 16 + n / 4096 % 16 ≡ c * 64 + n / 4096 = omega arith in
    sym (number_append 0 (digits 3 (code_word (c % 16 * 64 + 0 % 4 * 16 + n / 4096 % 16))) (digits 3 (code_word (n % 4096)))
    ∙ rw (f, ← xe, ← ye, number_word 0 x (rw xe (code_lt (c * 64 + n / 4096))), number_word (0 * 16777216 + x) y (rw ye (code_lt (n % 4096)))) (omega arith))

-- ---- an EP that could have been accepted

module _ (P n h : ℕ) where
  pub low_right : 6 + size_in h ≤ n → 7 + size_in h ≤ P → known (content_in h) ≡ true → number 0 (header (content_in h) 0 (size_in h)) ≡ h → 6 + size_in h ≡ low_in P n h
  unfolding low_in
  low_right p q k e = rw (le-leb (6 + size_in h) n p, le-leb (7 + size_in h) P q, k, eq-eqb (number 0 (header (content_in h) 0 (size_in h))) h e)

  -- either 0, or what all tests tell
  pub low_case : (Q : ℕ → Type 0) → Q 0 → (6 + size_in h ≤ n → 7 + size_in h ≤ P → known (content_in h) ≡ true → number 0 (header (content_in h) 0 (size_in h)) ≡ h → Q (6 + size_in h))
      → Q (low_in P n h)
  unfolding low_in
  low_case Q none some =
      let a : Bool = leb (6 + size_in h) n in
      let b : Bool = leb (7 + size_in h) P in
      let k : Bool = known (content_in h) in
      let e : Bool = eqb (number 0 (header (content_in h) 0 (size_in h))) h in
      cond_case Q (a && (b && (k && e))) (6 + size_in h) 0
      (λ t. let u = and_right a (b && (k && e)) t in
      let v = and_right b (k && e) u in
      some (leb-true (6 + size_in h) n (and_left a (b && (k && e)) t)) (leb-true (7 + size_in h) P (and_left b (k && e) u)) (and_left k e v) (eqb-true (number 0 (header (content_in h) 0 (size_in h))) h (and_right k e v)))
      (λ t. none)

  pub low_short : n < 6 + size_in h → 0 ≡ low_in P n h
  low_short p = low_case (λ m. 0 ≡ m) refl (λ a b k e. absurd (omega arith))

  pub low_long : P < 7 + size_in h → 0 ≡ low_in P n h
  low_long p = low_case (λ m. 0 ≡ m) refl (λ a b k e. absurd (omega arith))

  low_within : low_in P n h ≤ n
  low_within = low_case (λ m. m ≤ n) (omega arith) (λ a b k e. a)

-- where less is left than P, what fits goes by what is left
low_either : (P n h left : ℕ) → left ≤ P → 7 + size_in h ≤ left → low_in P n h ≡ low_in left n h
unfolding low_in
low_either P n h left p r = rw (le-leb (7 + size_in h) P (omega arith), le-leb (7 + size_in h) left r)

low_left : (P n h left : ℕ) → left ≤ P → cond (ltb (low_in P n h) left) (low_in P n h) 0 ≡ low_in left n h
low_left P n h left p =
    ⊎_elim
    (λ r. let l : low_in left n h < left = low_case left n h (λ m. m < left) (omega arith) (λ a b k e. omega arith) in
    rw (low_either P n h left p r, lt-ltb (low_in left n h) left l))
    (λ r. low_case P n h (λ m. cond (ltb m left) m 0 ≡ 0) (cond_case (λ m. m ≡ 0) (ltb 0 left) 0 0 (λ t. refl) (λ t. refl)) (λ a b k e. rw (le-ltb (6 + size_in h) left (omega arith))) ∙ low_long left n h r)
    (split (7 + size_in h) left)

module _ (P : ℕ) (q : List ℕ) where
  pub low_few : length q < 6 → 0 ≡ low_at P q
  unfolding low_at
  low_few h = low_short P (length q) (head_at q) (omega arith)

  pub next_is : (left : ℕ) → left ≤ P → next P q left ≡ low_at left q
  unfolding next low_at
  next_is left p = low_left P (length q) (head_at q) left p

  pub next_within : (left : ℕ) → (next P q left ≤ length q) × (0 < next P q left → next P q left < left)
  unfolding next low_at
  next_within left =
      cond_case (λ n. (n ≤ length q) × (0 < n → n < left)) (ltb (low_at P q) left) (low_at P q) 0
      (λ e. (low_within P (length q) (head_at q), λ p. ltb-true (low_at P q) left e)) (λ e. (omega arith, λ p. absurd (omega arith)))

  pub over_none : length q ≡ 0 → false ≡ overwritten P q
  unfolding overwritten
  over_none h = rw (eq-eqb (length q) 0 h)

  pub over_some : (length q ≡ 0 → ⊥) → eqb (low_at P q) 0 ≡ overwritten P q
  unfolding overwritten
  over_some h = rw (ne_eqb (length q) 0 h)

-- a span counts at most what is queued, and something
pub span_short : (q : List ℕ) → length q < 6 → length q ≡ span q
unfolding span
span_short q h = omega arith

pub span_within : (q : List ℕ) → span q ≤ length q
unfolding span
span_within q = omega arith

pub span_some : (q : List ℕ) → 0 < length q → 0 < span q
unfolding span
span_some q h = omega arith

module _ (P : ℕ) (q : List ℕ) where
  pub is_over : 0 < length q → low_at P q ≡ 0 → overwritten P q ≡ true
  is_over h e = sym (over_some P q (λ z. absurd (omega arith))) ∙ eq-eqb (low_at P q) 0 e

  pub not_over : (low_at P q ≡ 0 → ⊥) → overwritten P q ≡ false
  unfolding overwritten
  not_over h = rw (ne_eqb (low_at P q) 0 h) (and_false (not (eqb (length q) 0)))

  -- ---- what a draw is refused for

  module _ (n : ℕ) where
    pub limits_first : overwritten P q ≡ true → drawable P q n ≡ Err Limits
    unfolding drawable
    limits_first e = rw e refl

    pub buffer_then : overwritten P q ≡ false → (n ≡ P + 4 → ⊥) → drawable P q n ≡ Err Buffer
    unfolding drawable
    buffer_then e f = rw (e, ne_eqb n (P + 4) f) refl

    pub can_draw : overwritten P q ≡ false → n ≡ P + 4 → drawable P q n ≡ Ok tt
    unfolding drawable
    can_draw e f = rw (e, eq-eqb n (P + 4) f) refl

    pub length_drawable : drawable P q n ≡ Ok tt → n ≡ P + 4
    unfolding drawable
    length_drawable j = eqb-true n (P + 4) (by (overwritten P q) (eqb n (P + 4)) j)
      where
        by : (t u : Bool) → first_of (checked t Limits) (checked (not u) Buffer) ≡ Ok tt → u ≡ true
        by true u k = absurd (omega (arith, ap is_no k))
        by false true k = refl
        by false false k = absurd (omega (arith, ap is_no k))
