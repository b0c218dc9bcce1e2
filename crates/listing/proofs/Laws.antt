-- A line put piece by piece into a block with room for it is the line; and where the block was a text of its own, its start is
-- the line. A find that goes on makes the block hold more. Assumes nothing.
use Rattle.std.proofs.Common.{◌≡◌, ℕ, ◌+◌, ◌-◌, ◌%◌, ◌<◌, ◌≤◌, Bool, true, false, cond, leb, List, [], ◌∷◌, ◌++◌, length, take, drop, sym, refl, ap, ◌∙◌, subst, ap₂, append_assoc, arith, length-append, le-leb, leb-false, leb-true}
use borrow.Author.Tests.{lt-leb}
use lib.Seq.{take-append_seam}
use Rattle.block.specs.Block.{Block, placed, put}
use Rattle.block.specs.Decimal.{decimal}
use Rattle.block.proofs.Laws.{fits, held_placed, length_placed, then, room, block_of}
use Rattle.block.proofs.Decimals.{decimal_most}
use Rattle.block.proofs.Straight.{one_digit}
use Rattle.receiver.specs.declared.Find.{Find}
use Rattle.receiver.specs.declared.Find.TheVariants.{Nothing, Refused, Notice, Low, Ordinary}
use Rattle.listing.specs.Lines.{low_word, ordinary_word, notice_word, line_with, line_of, behind, rest_of}
use Rattle.receiver.specs.Call.{lasts}
use Rattle.listing.specs.Tens.{Begun}

-- ---- a block's room, and the block after a put that had it

pub shifted : (at size : ℕ) → at ≤ size → leb 80 (size - at) ≡ leb (at + 80) size
shifted at size h = go (leb (at + 80) size) refl
  where
    go : (t : Bool) → leb (at + 80) size ≡ t → leb 80 (size - at) ≡ t
    go true e = let fit = leb-true (at + 80) size e in le-leb 80 (size - at) (omega arith)
    go false e = let none = leb-false (at + 80) size e in lt-leb 80 (size - at) (omega arith)

module _ (d y s : List ℕ) (n r : ℕ) (h : n + length s ≤ length d) (e : block_of y r ≡ put d n s) where
  put_whole : block_of y r ≡ block_of (placed d n s) (n + length s)
  put_whole = e ∙ fits d n s h

  pub put_held : r ≡ n + length s
  put_held = ap (λ (k : Block). k.at) put_whole

  pub put_long : length y ≡ length d
  put_long = ap (λ (k : Block). length k.bytes) put_whole ∙ length_placed d n s h

  pub put_bytes : y ≡ placed d n s
  put_bytes = ap (λ (k : Block). k.bytes) put_whole

-- ---- the pieces

abbrev pub tail : ℕ → ℕ → List ℕ
tail c n = decimal c ++ (32 ∷ []) ++ decimal n ++ (10 ∷ [])

tail_most : (c n : ℕ) → length (tail c n) ≤ 42
tail_most c n = simp length-append (omega (arith, decimal_most c, decimal_most n))

pub numbered : (d : List ℕ) (at c n : ℕ) → at + 42 ≤ length d → (y₁ y₂ y₃ y₄ : List ℕ) (r₁ r₂ r₃ r₄ : ℕ)
    → block_of y₁ r₁ ≡ put d at (decimal c)
    → block_of y₂ r₂ ≡ put y₁ r₁ (32 ∷ [])
    → block_of y₃ r₃ ≡ put y₂ r₂ (decimal n)
    → block_of y₄ r₄ ≡ put y₃ r₃ (10 ∷ [])
    → block_of y₄ r₄ ≡ put d at (tail c n)
numbered d at c n h y₁ y₂ y₃ y₄ r₁ r₂ r₃ r₄ e₁ e₂ e₃ e₄ =
    let b = decimal_most c in
    let f = decimal_most n in
    let e₁₂ = then d y₁ y₂ (decimal c) (32 ∷ []) at r₁ r₂ (omega arith) e₁ e₂ in
    let e₁₃ = then d y₂ y₃ (decimal c ++ (32 ∷ [])) (decimal n) at r₂ r₃ (simp length-append (omega arith)) e₁₂ e₃ in
    then d y₃ y₄ (decimal c ++ (32 ∷ []) ++ decimal n) (10 ∷ []) at r₃ r₄ (simp length-append (omega arith)) e₁₃ e₄

-- a word, and the numbers behind it
module _ (w : List ℕ) (d : List ℕ) (at : ℕ) (short : length w ≤ 10) (h : at + 52 ≤ length d) (y : List ℕ) (r : ℕ) (e : block_of y r ≡ put d at w) where
  pub free : r + 42 ≤ length y
  free = room d y w at r 42 e (omega arith)

  pub worded : (c n : ℕ) (z : List ℕ) (q : ℕ) → block_of z q ≡ put y r (tail c n) → block_of z q ≡ put d at (behind w c n)
  worded c n z q f = then d y z w (tail c n) at r q (omega (arith, tail_most c n)) e f

-- a word with a content of one digit, then the bytes
module _ (w : List ℕ) (d : List ℕ) (at c : ℕ) (short : length w ≤ 10) (h : at + 52 ≤ length d) (few : c ≤ 9) where
  abbrev once : List ℕ
  once = w ++ (48 + c) ∷ 32 ∷ []

  digit : (48 + c) ∷ [] ≡ decimal c
  digit = let same : 48 + c ≡ 48 + c % 10 = omega arith in ap (λ (v : ℕ). v ∷ []) same ∙ sym (one_digit c (omega arith))

  once_long : length once ≡ length w + 2
  once_long = length-append w ((48 + c) ∷ 32 ∷ [])

  module _ (y₁ : List ℕ) (r₁ : ℕ) (e₁ : block_of y₁ r₁ ≡ put d at once) where
    pub once_room : r₁ + 40 ≤ length y₁
    once_room = room d y₁ once at r₁ 40 e₁ (omega (arith, once_long))

    pub at_once : (n : ℕ) (y₂ y₃ : List ℕ) (r₂ r₃ : ℕ) → block_of y₂ r₂ ≡ put y₁ r₁ (decimal n) → block_of y₃ r₃ ≡ put y₂ r₂ (10 ∷ [])
        → block_of y₃ r₃ ≡ put d at (behind w c n)
    at_once n y₂ y₃ r₂ r₃ e₂ e₃ =
        let f = decimal_most n in
        let e₁₂ = then d y₁ y₂ once (decimal n) at r₁ r₂ (omega (arith, once_long, f)) e₁ e₂ in
        then d y₂ y₃ (once ++ decimal n) (10 ∷ []) at r₂ r₃ (omega (arith, once_long, f, length-append once (decimal n))) e₁₂ e₃
        ∙ ap (put d at)
        (append_assoc once (decimal n) (10 ∷ [])
        ∙ append_assoc w ((48 + c) ∷ 32 ∷ []) (decimal n ++ (10 ∷ []))
        ∙ ap (λ (s : List ℕ). w ++ (s ++ (32 ∷ []) ++ decimal n ++ (10 ∷ []))) digit)

-- ---- the line of a find: a TP's number, and the rest

behind_most : (w : List ℕ) (c n : ℕ) → length w ≤ 10 → length (behind w c n) ≤ 52
behind_most w c n short = omega (arith, length-append w (tail c n), tail_most c n)

pub behind_some : (w : List ℕ) (c n : ℕ) → 5 ≤ length w → 7 ≤ length (behind w c n)
behind_some w c n some = omega (arith, length-append w (tail c n), length-append (decimal c ++ (32 ∷ []) ++ decimal n) (10 ∷ []), length-append (decimal c ++ (32 ∷ [])) (decimal n), length-append (decimal c) (32 ∷ []))

with_word : (t : ℕ) (w : List ℕ) (c n : ℕ) → decimal t ++ behind w c n ≡ line_with t w c n
unfolding line_with
with_word t w c n = simp append_assoc

pub rest_most : (f : Find) → length (rest_of f) ≤ 52
rest_most Nothing = omega arith
rest_most Refused = behind_most notice_word 1 0 (omega arith)
rest_most (Notice k) = behind_most notice_word k 0 (omega arith)
rest_most (Low c start n) = behind_most low_word c n (omega arith)
rest_most (Ordinary c n) = behind_most ordinary_word c n (omega arith)

pub rest_some : (f : Find) → (f ≡ Nothing → ⊥) → 7 ≤ length (rest_of f)
rest_some Nothing h = absurd (h refl)
rest_some Refused h = behind_some notice_word 1 0 (omega arith)
rest_some (Notice k) h = behind_some notice_word k 0 (omega arith)
rest_some (Low c start n) h = behind_some low_word c n (omega arith)
rest_some (Ordinary c n) h = behind_some ordinary_word c n (omega arith)

pub line_of_lem : (t : ℕ) (f : Find) → (f ≡ Nothing → ⊥) → decimal t ++ rest_of f ≡ line_of t f
line_of_lem t Nothing h = absurd (h refl)
line_of_lem t Refused h = with_word t notice_word 1 0
line_of_lem t (Notice k) h = with_word t notice_word k 0
line_of_lem t (Low c start n) h = with_word t low_word c n
line_of_lem t (Ordinary c n) h = with_word t ordinary_word c n

pub whole_most : (t : ℕ) (f : Find) → length (decimal t ++ rest_of f) ≤ 72
whole_most t f = omega (arith, length-append (decimal t) (rest_of f), decimal_most t, rest_most f)

length_line : (t : ℕ) (w : List ℕ) (c n : ℕ) → length w ≤ 10 → length (line_with t w c n) ≤ 80
length_line t w c n short = omega (arith, ap length (with_word t w c n), length-append (decimal t) (behind w c n), decimal_most t, behind_most w c n short)

pub line_most : (t : ℕ) (f : Find) → length (line_of t f) ≤ 80
line_most t Nothing = omega arith
line_most t Refused = length_line t notice_word 1 0 (omega arith)
line_most t (Notice k) = length_line t notice_word k 0 (omega arith)
line_most t (Low c start n) = length_line t low_word c n (omega arith)
line_most t (Ordinary c n) = length_line t ordinary_word c n (omega arith)

-- the rest has room behind the number, and makes the line
module _ (t : ℕ) (f : Find) (d : List ℕ) (at : ℕ) (h : at + 72 ≤ length d) (y : List ℕ) (r : ℕ) (e : block_of y r ≡ put d at (decimal t)) where
  pub rest_room : r + 52 ≤ length y
  rest_room = room d y (decimal t) at r 52 e (omega (arith, decimal_most t))

  pub spelled : (z : List ℕ) (q : ℕ) → block_of z q ≡ put y r (rest_of f) → block_of z q ≡ put d at (decimal t ++ rest_of f)
  spelled z q g = then d y z (decimal t) (rest_of f) at r q (omega (arith, decimal_most t, rest_most f)) e g

-- the rest is put over what stands behind a number that was begun
module _ (d : List ℕ) (at t : ℕ) (y : List ℕ) (r : ℕ) (b : Begun d at t y r) (h : at + 80 ≤ length d) where
  pub begun_room : r + 52 ≤ length y
  begun_room = omega (arith, b.held, b.long, decimal_most t)

  pub begun_line : (f : Find) → 7 ≤ length (rest_of f) → (z : List ℕ) (q : ℕ) → block_of z q ≡ put y r (rest_of f) → block_of z q ≡ put d at (decimal t ++ rest_of f)
  begun_line f some z q g =
      let w = rest_of f in
      let fit : r + length w ≤ length d = omega (arith, begun_room, b.long, rest_most f) in
      let end : r + length w ≡ at + length (decimal t ++ w) = omega (arith, b.held, length-append (decimal t) w) in
      g
      ∙ fits y r w (omega (arith, fit, b.long))
      ∙ ap₂ (λ (x : List ℕ) (k : ℕ). block_of x k) (b.over w some fit) end
      ∙ sym (fits d at (decimal t ++ w) (omega (arith, end, fit)))

-- what a text of its own begins with
module _ (d s : List ℕ) (long : length s ≤ length d) (y : List ℕ) (r : ℕ) (e : block_of y r ≡ put d 0 s) where
  fit : 0 + length s ≤ length d
  fit = omega arith

  pub within : r ≤ length y
  within = omega (arith, put_held d y s 0 r fit e, put_long d y s 0 r fit e)

  pub cut : take (r - 0) y ≡ s
  cut =
      let size : r - 0 ≡ length s = omega (arith, put_held d y s 0 r fit e) in
      ap (λ (k : ℕ). take k y) size
      ∙ ap (take (length s)) (put_bytes d y s 0 r fit e)
      ∙ take-append_seam s (drop (0 + length s) d)

-- ---- a find that goes on has a line

some_line : (t : ℕ) (w : List ℕ) (c n : ℕ) → 1 ≤ length (line_with t w c n)
unfolding line_with
some_line t w c n = omega (arith, length-append (decimal t ++ w ++ decimal c ++ (32 ∷ []) ++ decimal n) (10 ∷ []))

some : (t : ℕ) (f : Find) → lasts f ≡ true → 1 ≤ length (line_of t f)
some t Nothing e = subst (λ (b : Bool). 1 ≤ cond b 1 0) (sym e) (omega arith)
some t Refused e = some_line t notice_word 1 0
some t (Notice k) e = some_line t notice_word k 0
some t (Low c start n) e = some_line t low_word c n
some t (Ordinary c n) e = some_line t ordinary_word c n

-- where the longest line has room, it makes the block hold more
module _ (t : ℕ) (f : Find) (d y : List ℕ) (at r : ℕ) (room : at + 80 ≤ length d) (e : block_of y r ≡ put d at (line_of t f)) where
  moved : r ≡ at + length (line_of t f)
  moved = put_held d y (line_of t f) at r (omega (arith, line_most t f)) e

  pub no_less : at ≤ r
  no_less = omega (arith, moved)

  pub grows : lasts f ≡ true → at < r
  grows on = omega (arith, moved, some t f on)

  -- and holds the line behind what it held
  pub line_held : take r y ≡ take at d ++ line_of t f
  line_held =
      let l = line_of t f in
      let h : at + length l ≤ length d = omega (arith, line_most t f) in
      ap (λ (n : ℕ). take n y) moved ∙ ap (take (at + length l)) (put_bytes d y l at r h e) ∙ held_placed d at l h
