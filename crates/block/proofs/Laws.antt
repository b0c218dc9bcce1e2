-- What is put in two goes is put in one: so a line is put piece by piece. Assumes nothing.
use Prim.Native.Nat.{ℕ, ◌+◌, ◌-◌, ◌≤◌, ◌<◌, min}
use mathlib.Core.Path.{◌≡◌, refl, ap, ap₂, sym, ◌∙◌}
use mathlib.Core.Bool.{Bool, true, false, cond}
use mathlib.Core.List.{List, [], ◌++◌, append_assoc, append-nil}
use native.Mathlib.Omega.{arith}
use borrow.Author.Tests.{le-leb, lt-leb}
use borrow.Rule.Slice.PartMut.{put_mid, Post-is}
use lib.Dec.{leb}
use lib.ListN.{length, take, drop, length-append, length-drop, take-append-drop}
use lib.Seq.{paste, take-length, length-take-le, take_at, drop-drop, drop-append-add, take-append-le, take-append-add}
use Rattle.block.specs.Block.{Block, placed, put}

pub fits : (d : List ℕ) (n : ℕ) (s : List ℕ) → n + length s ≤ length d → put d n s ≡ record { bytes = placed d n s; at = n + length s }
unfolding put
fits d n s h = rw (le-leb _ _ h)

pub misfits : (d : List ℕ) (n : ℕ) (s : List ℕ) → length d < n + length s → put d n s ≡ record { bytes = d; at = n }
unfolding put
misfits d n s h = rw (lt-leb _ _ h)

-- a copy for which there is place, as `queue::copy_at` makes it (`queue.Ring.copied`), is what is put
pub copies : (d : List ℕ) (n : ℕ) (s : List ℕ) → n + length s ≤ length d → paste d n s (min (length s) (length d - n)) ≡ placed d n s
copies d n s h =
    let e : min (length s) (length d - n) ≡ length s = omega arith in
    rw (e, take-length)

-- a part that is as long as s, and becomes s
pub in_part : (d s b : List ℕ) (n : ℕ) → n + length s ≤ length d → b ≡ s → put_mid n (n + length s - n) d b ≡ placed d n s
in_part d s b n h e =
    ap (λ (x : List ℕ). take n d ++ (b ++ x)) (Post-is n (n + length s) d (omega arith))
    ∙ ap (λ (x : List ℕ). take n d ++ (x ++ drop (n + length s) d)) e
    ∙ sym (append_assoc (take n d) s (drop (n + length s) d))

-- what is held then
front : (d : List ℕ) (n : ℕ) (s : List ℕ) → n ≤ length d → length (take n d ++ s) ≡ n + length s
front d n s h = rw (length-append, length-take-le n d h)

pub held_placed : (d : List ℕ) (n : ℕ) (s : List ℕ) → n + length s ≤ length d → take (n + length s) (placed d n s) ≡ take n d ++ s
held_placed d n s h = take_at (take n d ++ s) (drop (n + length s) d) (n + length s) (front d n s (omega arith))

pub length_placed : (d : List ℕ) (n : ℕ) (s : List ℕ) → n + length s ≤ length d → length (placed d n s) ≡ length d
length_placed d n s h = let k : n ≤ length d = omega arith in rw (length-append, front d n s k, length-drop) (omega arith)

abbrev pub block_of : List ℕ → ℕ → Block
block_of d n = record { bytes = d; at = n }

module _ (d : List ℕ) (n : ℕ) (s t : List ℕ) (h : n + length s + length t ≤ length d) where
  holds : n ≤ length d
  holds = omega arith

  taken : take (n + length s) (placed d n s) ≡ take n d ++ s
  taken = held_placed d n s (omega arith)

  dropped : drop (n + length s + length t) (placed d n s) ≡ drop (n + length s + length t) d
  dropped =
      ap (λ (k : ℕ). drop (k + length t) (placed d n s)) (sym (front d n s holds))
      ∙ drop-append-add (take n d ++ s) (drop (n + length s) d) (length t)
      ∙ drop-drop (length t) (n + length s) d

  ends : n + length s + length t ≡ n + length (s ++ t)
  ends = rw length-append (omega arith)

  pub placed_twice : placed (placed d n s) (n + length s) t ≡ placed d n (s ++ t)
  placed_twice =
      ap (λ (x : List ℕ). x ++ t ++ drop (n + length s + length t) (placed d n s)) taken
      ∙ ap (λ (x : List ℕ). take n d ++ s ++ t ++ x) dropped
      ∙ ap (λ (k : ℕ). take n d ++ s ++ t ++ drop k d) ends
      ∙ ap (λ (x : List ℕ). x ++ drop (n + length (s ++ t)) d) (append_assoc (take n d) s t)

  pub joined : put (placed d n s) (n + length s) t ≡ put d n (s ++ t)
  joined =
      let first : n + length s ≤ length d = omega arith in
      let whole : n + length s + length t ≤ length (placed d n s) = omega (arith, length_placed d n s first) in
      let both : n + length (s ++ t) ≤ length d = omega (arith, ends) in
      fits (placed d n s) (n + length s) t whole
      ∙ ap (λ (x : List ℕ). block_of x (n + length s + length t)) placed_twice
      ∙ ap (block_of (placed d n (s ++ t))) ends
      ∙ sym (fits d n (s ++ t) both)

-- what is placed over the end of what was placed before, and reaches as far
module _ (d t w : List ℕ) (n k : ℕ) (some : k ≤ length t) (far : length t ≤ k + length w) (h : n + k + length w ≤ length d) where
  size : length (take n d) ≡ n
  size = length-take-le n d (omega arith)

  sized : length (take n d ++ t) ≡ n + length t
  sized = front d n t (omega arith)

  kept : take (n + k) (placed d n t) ≡ take n d ++ take k t
  kept =
      take-append-le (n + k) (take n d ++ t) (drop (n + length t) d) (omega (arith, sized))
      ∙ ap (λ (i : ℕ). take (i + k) (take n d ++ t)) (sym size)
      ∙ take-append-add (take n d) t k

  reach : (j : ℕ) → j + length t ≡ k + length w → drop (n + k + length w) (placed d n t) ≡ drop (n + k + length w) d
  reach j e =
      let far_end : n + k + length w ≡ length (take n d ++ t) + j = omega (arith, sized) in
      let same_end : n + length t + j ≡ n + k + length w = omega arith in
      ap (λ (i : ℕ). drop i (placed d n t)) far_end
      ∙ drop-append-add (take n d ++ t) (drop (n + length t) d) j
      ∙ drop-drop j (n + length t) d
      ∙ ap (λ (i : ℕ). drop i d) same_end

  pub overlaid : placed (placed d n t) (n + k) w ≡ placed d n (take k t ++ w)
  overlaid =
      let left : k + length w - length t + length t ≡ k + length w = omega arith in
      let end : n + k + length w ≡ n + length (take k t ++ w) = rw (length-append, length-take-le k t some) (omega arith) in
      ap (λ (x : List ℕ). x ++ w ++ drop (n + k + length w) (placed d n t)) kept
      ∙ ap (λ (x : List ℕ). take n d ++ take k t ++ w ++ x) (reach (k + length w - length t) left)
      ∙ ap (λ (x : List ℕ). x ++ drop (n + k + length w) d) (append_assoc (take n d) (take k t) w)
      ∙ ap (λ (i : ℕ). take n d ++ (take k t ++ w) ++ drop i d) end

-- one piece after another
pub then : (d y z s t : List ℕ) (n r q : ℕ) → n + length s + length t ≤ length d → block_of y r ≡ put d n s → block_of z q ≡ put y r t → block_of z q ≡ put d n (s ++ t)
then d y z s t n r q h first second =
    second ∙ ap (λ (k : Block). put k.bytes k.at t) (first ∙ fits d n s (omega arith)) ∙ joined d n s t h

-- so much more has room behind what was put
pub room : (d y s : List ℕ) (n r k : ℕ) → block_of y r ≡ put d n s → n + length s + k ≤ length d → r + k ≤ length y
room d y s n r k e h =
    let fit : n + length s ≤ length d = omega arith in
    let both : block_of y r ≡ block_of (placed d n s) (n + length s) = e ∙ fits d n s fit in
    let at : r ≡ n + length s = ap (λ (b : Block). b.at) both in
    let long : length y ≡ length d = ap (λ (b : Block). length b.bytes) both ∙ length_placed d n s fit in
    omega arith

-- nothing put
pub nothing : (d : List ℕ) (at : ℕ) → block_of d at ≡ put d at []
unfolding put
nothing d at = sym (go (leb (at + 0) (length d)))
  where
    stays : at + 0 ≡ at
    stays = omega arith

    same : take at d ++ [] ++ drop (at + 0) d ≡ d
    same = ap (λ (k : ℕ). take at d ++ [] ++ drop k d) stays ∙ ap (λ (x : List ℕ). x ++ drop at d) (append-nil (take at d)) ∙ take-append-drop at d

    go : (t : Bool) → cond t (block_of (take at d ++ [] ++ drop (at + 0) d) (at + 0)) (block_of d at) ≡ block_of d at
    go true = ap₂ (λ (x : List ℕ) (k : ℕ). block_of x k) same stays
    go false = refl
