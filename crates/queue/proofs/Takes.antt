-- Laws of bytes taken off what a ring holds. Assumes nothing.
use mathlib.Core.Path.{◌≡◌, refl, sym, ap, ◌∙◌}
use mathlib.Core.Bool.{Bool, true, false, cond}
use mathlib.Core.Logic.{⊎_elim}
use mathlib.Core.List.{List, ◌++◌, append_assoc}
use Prim.Native.Nat.{ℕ, ◌+◌, ◌-◌, ◌≤◌, ◌<◌, min}
use native.Mathlib.Nat.{add_assoc, sub-zero, sub-add-eq, add-zero}
use native.Mathlib.Omega.{arith}
use lib.Dec.{leb}
use lib.ListN.{length, take, drop, get_or, replicate, length-take, length-drop, length-replicate, get_or-append}
use Rattle.std.proofs.lemmas.List.{take-replicate}
use lib.Seq.{paste, drop-drop, length-take-le, get_or-take, get_or-drop, get_or-append-add}
use borrow.Author.Tests.{le-leb, lt-leb, leb-true, leb-false}
use Rattle.queue.specs.declared.Ring.{Ring}
use Rattle.queue.specs.Ring.{copied, around, held, Kept, kept, wrap, off, place, popped}
use Rattle.queue.proofs.Copies.{split}
use Rattle.queue.proofs.Runs.{rest_held, turn_on, turn_past, placed}
use Rattle.queue.proofs.Puts.{and_left, and_right, is_kept}

-- ---- taking

wrapped_by : (cap x : ℕ) (t : Bool) → leb x cap ≡ t → x ≤ cap + cap → cond t x (x - cap) ≤ cap
wrapped_by cap x true e p = leb-true x cap e
wrapped_by cap x false e p = omega arith

pub wrapped : (cap x : ℕ) → x ≤ cap + cap → wrap cap x ≤ cap
unfolding wrap
wrapped cap x p = wrapped_by cap x (leb x cap) refl p

pub wrap_within : (cap x : ℕ) → x ≤ cap → x ≡ wrap cap x
unfolding wrap
wrap_within cap x h = rw (le-leb x cap h)

pub wrap_past : (cap x : ℕ) → cap < x → x - cap ≡ wrap cap x
unfolding wrap
wrap_past cap x h = rw (lt-leb x cap h)

pub off_within : (cap : ℕ) (q : Ring) (n : ℕ) → q.head + n ≤ cap → record { head = q.head + n; len = q.len - n } ≡ off cap q n
unfolding off
off_within cap q n h = rw (← wrap_within cap (q.head + n) h)

pub off_past : (cap : ℕ) (q : Ring) (n : ℕ) → q.head ≤ cap → cap < q.head + n → record { head = n - (cap - q.head); len = q.len - n } ≡ off cap q n
unfolding off
off_past cap q n g h = let e : n - (cap - q.head) ≡ q.head + n - cap = omega arith in rw (← wrap_past cap (q.head + n) h, e)

pub has_place : (size at n : ℕ) → at + n ≤ size → place size at n ≡ true
unfolding place
has_place size at n h = rw (le-leb at size (omega arith), le-leb n (size - at) (omega arith))

module _ (b : List ℕ) (q : Ring) (n : ℕ) (w : Kept b q) (p : n ≤ q.len) where
  pub pop_fits : (d : List ℕ) (at : ℕ) → at + n ≤ length d → popped b q d at n ≡ record { ring = off (length b) q n; bytes = paste d at (held b q) n }
  unfolding popped
  pop_fits d at h = rw (is_kept b q w, le-leb n q.len p, has_place (length d) at n h)

  pub kept_off : Kept b (off (length b) q n)
  unfolding off
  kept_off =
      let wh = w.head in
      let wl = w.len in
      record { head = wrapped (length b) (q.head + n) (omega arith); len = omega arith }

  pub held_off : held b (off (length b) q n) ≡ drop n (held b q)
  unfolding held off wrap
  held_off =
      let wh = w.head in
      let wl = w.len in
      ⊎_elim
      (λ s. rw (le-leb (q.head + n) (length b) s) (rest_held b q.head q.len n (q.head + n) p wl wh (turn_on b q.head n s)))
      (λ s. rw (lt-leb (q.head + n) (length b) s) (rest_held b q.head q.len n (q.head + n - length b) p wl wh (turn_past b q.head n (q.head + n - length b) wh (omega arith) (omega arith))))
      (split (q.head + n) (length b))

-- a part of a buffer pasted over
pub part_pasted : (d x y : List ℕ) (at n : ℕ) → at + n ≤ length d → x ≡ take (length (take (at + n - at) (drop at d))) y
    → take at d ++ (x ++ drop (at + n - at) (drop at d)) ≡ paste d at y n
part_pasted d x y at n p e =
    let f : at + n - at ≡ n = omega arith in
    let g : length (take (at + n - at) (drop at d)) ≡ n = rw f (length-take-le n (drop at d) (omega (arith, length-drop at d))) in
    rw (e, g, f, drop-drop n at d) (simp append_assoc)

-- v written to n bytes of a buffer, as many as there is place for
pub part_filled : (d f : List ℕ) (at n v k : ℕ) → at ≤ length d → k ≡ min n (length d - at)
    → f ≡ replicate (length (take (at + k - at) (drop at d))) v
    → take at d ++ (f ++ drop (at + k - at) (drop at d)) ≡ copied d at (replicate n v)
part_filled d f at n v k p m e =
    let l : length (replicate n v) ≡ n = length-replicate n v in
    let g : length (take (at + k - at) (drop at d)) ≡ k = length-take-le (at + k - at) (drop at d) (omega (arith, length-drop at d)) ∙ omega arith in
    let t : take k (replicate n v) ≡ replicate k v = take-replicate k n v (omega arith) in
    part_pasted d f (replicate n v) at k (omega arith) (e ∙ rw g (sym t)) ∙ rw (l, m) refl

pub in_part : (d : List ℕ) (at n m : ℕ) → n ≤ m → length (take (at + n - at) (drop at d)) ≤ m
in_part d at n m h = let l = length-take (at + n - at) (drop at d) in omega arith

-- what the code tests
pub place_is : (size at n : ℕ) → place size at n ≡ true → at + n ≤ size
unfolding place
place_is size at n e =
    let p = leb-true at size (and_left (leb at size) (leb n (size - at)) e) in
    let r = leb-true n (size - at) (and_right (leb at size) (leb n (size - at)) e) in
    omega arith

module _ (b : List ℕ) (q : Ring) (d : List ℕ) (at n : ℕ) where
  pub pop_forged : kept (length b) q ≡ false → record { ring = q; bytes = d } ≡ popped b q d at n
  unfolding popped
  pop_forged e = rw e

  pub pop_few : kept (length b) q ≡ true → q.len < n → record { ring = q; bytes = d } ≡ popped b q d at n
  unfolding popped
  pop_few e h = rw (e, lt-leb n q.len h)

  pub pop_beyond : kept (length b) q ≡ true → n ≤ q.len → place (length d) at n ≡ false → record { ring = q; bytes = d } ≡ popped b q d at n
  unfolding popped
  pop_beyond e h f = rw (e, le-leb n q.len h, f)

  pub pop_done : (x : List ℕ) (r : Ring) → kept (length b) q ≡ true → n ≤ q.len → place (length d) at n ≡ true → r ≡ off (length b) q n
      → x ≡ take (length (take (at + n - at) (drop at d))) (held b q)
      → record { ring = r; bytes = take at d ++ (x ++ drop (at + n - at) (drop at d)) } ≡ popped b q d at n
  unfolding popped
  pop_done x r e h f g k = rw (e, le-leb n q.len h, f, g, part_pasted d x (held b q) at n (place_is (length d) at n f) k)

-- nothing, and twice
pub off_zero : (b : List ℕ) (q : Ring) → Kept b q → off (length b) q 0 ≡ q
unfolding off wrap
off_zero b q w = simp (add-zero, le-leb q.head (length b) w.head, sub-zero)

twice_by : (cap a m : ℕ) (t u v : Bool) → leb a cap ≡ t → leb (a + m) cap ≡ u → leb (cond t a (a - cap) + m) cap ≡ v → a + m ≤ cap + cap
    → cond v (cond t a (a - cap) + m) (cond t a (a - cap) + m - cap) ≡ cond u (a + m) (a + m - cap)
twice_by cap a m true true true e f g p = refl
twice_by cap a m true true false e f g p = absurd (omega (arith, leb-true (a + m) cap f, leb-false (a + m) cap g))
twice_by cap a m true false true e f g p = absurd (omega (arith, leb-true (a + m) cap g, leb-false (a + m) cap f))
twice_by cap a m true false false e f g p = refl
twice_by cap a m false true v e f g p = absurd (omega (arith, leb-true (a + m) cap f, leb-false a cap e))
twice_by cap a m false false true e f g p = omega (arith, leb-false a cap e)
twice_by cap a m false false false e f g p = absurd (omega (arith, leb-false (a - cap + m) cap g, leb-false a cap e))

pub off_off : (cap : ℕ) (q : Ring) (n m : ℕ) → q.head + n + m ≤ cap + cap → off cap (off cap q n) m ≡ off cap q (n + m)
unfolding off wrap
off_off cap q n m p =
    rw (twice_by cap (q.head + n) m (leb (q.head + n) cap) (leb (q.head + n + m) cap) (leb (cond (leb (q.head + n) cap) (q.head + n) (q.head + n - cap) + m) cap) refl refl refl p, add_assoc, sub-add-eq)

-- ---- a byte of what is held

get_d_past : (x y : List ℕ) (i j : ℕ) → i ≡ length x + j → get_or (x ++ y) i 0 ≡ get_or y j 0
get_d_past x y i j e = rw e (get_or-append-add x y j 0)

module _ (b : List ℕ) (q : Ring) (i : ℕ) (p : i < q.len) where
  byte_first : i < length b - q.head → get_or b (q.head + i) 0 ≡ get_or (held b q) i 0
  unfolding held around
  byte_first r =
      let k : i < length (drop q.head b) = omega (arith, length-drop q.head b) in
      sym (get_or-take q.len (drop q.head b ++ take q.head b) i 0 p ∙ get_or-append (drop q.head b) (take q.head b) 0 i k ∙ get_or-drop q.head b i 0)

  byte_past : (j : ℕ) → i ≡ length b - q.head + j → j < q.head → get_or b j 0 ≡ get_or (held b q) i 0
  unfolding held around
  byte_past j e r =
      sym (get_or-take q.head b j 0 r)
      ∙ sym (get_or-take q.len (drop q.head b ++ take q.head b) i 0 p ∙ get_d_past (drop q.head b) (take q.head b) i j (omega (arith, length-drop q.head b)))

  pub byte_is : Kept b q → (at : ℕ) → at ≡ cond (leb (length b) (q.head + i)) (q.head + i - length b) (q.head + i) → get_or b at 0 ≡ get_or (held b q) i 0
  byte_is w at a =
      let wh = w.head in
      let wl = w.len in
      ⊎_elim
      (λ h. byte_past at (omega arith) (omega arith))
      (λ h. ap (λ (z : ℕ). get_or b z 0) h.0 ∙ byte_first (omega arith))
      (placed (length b) q.head i wh at a)
