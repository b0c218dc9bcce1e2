-- A ring's bytes written and read in straight runs. Assumes nothing.
use mathlib.Core.Path.{◌≡◌, refl, sym, ap, ◌∙◌}
use mathlib.Core.Bool.{cond}
use mathlib.Core.Logic.{◌⊎◌, inl, inr, ⊎_elim}
use Prim.Native.Nat.{ℕ, ◌+◌, ◌-◌, ◌≤◌, ◌<◌, min}
use native.Mathlib.Omega.{arith}
use lib.Dec.{leb}
use borrow.Author.Tests.{le-leb, lt-leb}
use mathlib.Core.List.{List, ◌++◌, append_assoc}
use lib.ListN.{length, take, drop, length-append, length-take, length-drop, take-append-drop}
use lib.Seq.{paste, paste-zero, take_all, take-length, take-append-le, drop-append-le, take-take, drop-drop, length-take-le, length-paste, take_at, drop_at, take-add}
use Rattle.queue.specs.declared.Ring.{Ring}
use Rattle.queue.specs.Ring.{around, held, written, Kept}
use Rattle.queue.proofs.Copies.{drop_take, take_past, drop_past, paste_two, parts, two_parts, both_parts, split}

-- a run that starts at the tail and ends in the buffer
pub after : (b s : List ℕ) (h l : ℕ) → h + l + length s ≤ length b → around (paste b (h + l) s (length s)) h ≡ paste (around b h) l s (length s)
unfolding around
after b s h l p =
    let n : ℕ = length s in
    let e : length (take (h + l) b) ≡ h + l = length-take-le (h + l) b (omega arith) in
    let k : h ≤ length (take (h + l) b) = omega arith in
    let d : length (drop h b) ≡ length b - h = length-drop h b in
    let k2 : l ≤ length (drop h b) = omega arith in
    let k3 : l + n ≤ length (drop h b) = omega arith in
    let k4 : h ≤ h + l = omega arith in
    let e5 : h + (l + n) ≡ h + l + n = omega arith in
    simp (take-length, append_assoc, drop-append-le, take-append-le, drop_take, take-take, drop-drop, e5)

-- a run behind a tail that has passed the buffer's end
pub before : (b s : List ℕ) (h l t k : ℕ) → h ≡ t + length s + k → h ≤ length b → t + length b ≡ h + l → around (paste b t s (length s)) h ≡ paste (around b h) l s (length s)
unfolding around
before b s h l t k e p q =
    let ex : length (take t b ++ s) ≡ t + length s = length-append (take t b) s ∙ rw (length-take-le t b (omega arith)) in
    let d : length (drop h b) ≡ length b - h = length-drop h b in
    let th : t ≤ h = omega arith in
    let x = take t b ++ s in
    let y = drop (t + length s) b in
    let dr : drop (t + length s) (take h b) ≡ take k y = rw e (drop_take (t + length s) k b) in
    let hy : drop k y ≡ drop h b = drop-drop k (t + length s) b ∙ rw e in
    rw (
      take-length,
      drop_past x y h k (omega arith),
      take_past x y h k (omega arith),
      take_past (drop h b) (take h b) l t (omega arith),
      drop_past (drop h b) (take h b) (l + length s) (t + length s) (omega arith),
      dr,
      hy,
      take-take t h b th,
    ) (simp append_assoc)

pub length_around : (b : List ℕ) (h : ℕ) → h ≤ length b → length (around b h) ≡ length b
unfolding around
length_around b h p = simp (length-append, length-drop, length-take-le h b p) (omega arith)

pub length_around_all : (b : List ℕ) (h : ℕ) → length (around b h) ≡ length b
unfolding around
length_around_all b h = omega (arith, length-append (drop h b) (take h b), length-drop h b, length-take h b)

-- the two runs of a push that passes the buffer's end
pub both : (b s₁ s₂ b₁ b₂ : List ℕ) (h l : ℕ) → h + l + length s₁ ≡ length b → l + length s₁ + length s₂ ≤ length b
    → b₁ ≡ paste b (h + l) s₁ (length s₁) → b₂ ≡ paste b₁ 0 s₂ (length s₂)
    → around b₂ h ≡ paste (around b h) l (s₁ ++ s₂) (length (s₁ ++ s₂))
both b s₁ s₂ b₁ b₂ h l p q e₁ e₂ =
    let m : length b₁ ≡ length b = rw e₁ (length-paste b (h + l) s₁ (length s₁) (omega arith) (omega arith)) in
    rw (e₂, before b₁ s₂ h (l + length s₁) 0 (h - length s₂) (omega arith) (omega arith) (omega arith), e₁, after b s₁ h l (omega arith))
    (paste_two (around b h) s₁ s₂ l (omega (arith, length_around b h (omega arith))))

-- reading from n further on: what was passed over comes last
pub turn_on : (b : List ℕ) (h n : ℕ) → h + n ≤ length b → around b (h + n) ≡ drop n (around b h) ++ take n (around b h)
unfolding around
turn_on b h n p =
    let k : n ≤ length (drop h b) = omega (arith, length-drop h b) in
    simp (drop-append-le, take-append-le, drop-drop, take-add, append_assoc)

pub turn_past : (b : List ℕ) (h n m : ℕ) → h ≤ length b → h + n ≡ length b + m → m ≤ h → around b m ≡ drop n (around b h) ++ take n (around b h)
unfolding around
turn_past b h n m p e q =
    let d = length-drop h b in
    let k : m ≤ length (take h b) = omega (arith, length-take-le h b p) in
    let s : drop m b ≡ drop m (take h b) ++ drop h b = ap (drop m) (sym (take-append-drop h b)) ∙ drop-append-le m (take h b) (drop h b) k in
    rw (drop_past (drop h b) (take h b) n m (omega arith), take_past (drop h b) (take h b) n m (omega arith), take-take m h b q, s) (simp append_assoc)

-- what is held once n bytes are off
pub rest_held : (b : List ℕ) (h l n h' : ℕ) → n ≤ l → l ≤ length b → h ≤ length b → around b h' ≡ drop n (around b h) ++ take n (around b h)
    → take (l - n) (around b h') ≡ drop n (take l (around b h))
rest_held b h l n h' p q r e =
    let k : l - n ≤ length (drop n (around b h)) = omega (arith, length-drop n (around b h), length_around b h r) in
    let f : l ≡ n + (l - n) = omega arith in
    rw (e, take-append-le (l - n) (drop n (around b h)) (take n (around b h)) k) (sym (drop_take n (l - n) (around b h)) ∙ rw (← f))

-- turning back
pub undo : (b : List ℕ) (h : ℕ) → h ≤ length b → around (around b h) (length b - h) ≡ b
unfolding around
undo b h p =
    let d = length-drop h b in
    rw (drop_at (drop h b) (take h b) (length b - h) d, take_at (drop h b) (take h b) (length b - h) d) (take-append-drop h b)

-- the index of place i: past the buffer's end, or before it
module _ (cap head i : ℕ) (p : head ≤ cap) where
  pub place_past : cap - head ≤ i → i - (cap - head) ≡ cond (leb cap (head + i)) (head + i - cap) (head + i)
  place_past h = let e : i - (cap - head) ≡ head + i - cap = omega arith in e ∙ rw (le-leb cap (head + i) (omega arith)) refl

  pub place_before : i < cap - head → head + i ≡ cond (leb cap (head + i)) (head + i - cap) (head + i)
  place_before h = rw (lt-leb cap (head + i) (omega arith)) refl

  module _ (at : ℕ) (a : at ≡ cond (leb cap (head + i)) (head + i - cap) (head + i)) where
    pub placed : (cap + at ≡ head + i) ⊎ ((at ≡ head + i) × (at < cap))
    placed =
        ⊎_elim
        (λ h. let e : at ≡ head + i - cap = a ∙ rw (le-leb cap (head + i) h) refl in inl (omega arith))
        (λ h. let e : at ≡ head + i = a ∙ rw (lt-leb cap (head + i) h) refl in inr (e, omega arith))
        (split cap (head + i))

    pub place_in : i < cap → at < cap
    place_in h = ⊎_elim (λ g. omega arith) (λ g. g.1) placed

-- what was written, as an equation of the buffer
is_written : (b s b' : List ℕ) (q : Ring) → Kept b q → q.len + length s ≤ length b
    → around b' q.head ≡ paste (around b q.head) q.len s (length s) → b' ≡ written b q s
unfolding written
is_written b s b' q w p e =
    let wh = w.head in
    let l = length_around b q.head wh in
    let m : length b' ≡ length b = sym (length_around_all b' q.head) ∙ ap length e ∙ length-paste (around b q.head) q.len s (length s) (omega arith) (omega arith) ∙ l in
    rw (← e, ← m) (sym (undo b' q.head (omega arith)))

module _ (b s : List ℕ) (q : Ring) (w : Kept b q) (p : length s ≤ length b - q.len) where
  -- behind what is held, in one run
  pub write_run : (b' : List ℕ) (at : ℕ) → at ≡ cond (leb (length b) (q.head + q.len)) (q.head + q.len - length b) (q.head + q.len)
      → at + length s ≤ length b → b' ≡ paste b at s (length s) → b' ≡ written b q s
  write_run b' at a r e =
      let wh = w.head in
      let wl = w.len in
      ⊎_elim
      (λ h. is_written b s b' q w (omega arith) (rw e (before b s q.head q.len at (q.head - (at + length s)) (omega arith) wh (omega arith))))
      (λ h. is_written b s b' q w (omega arith) (rw (e, h.0) (after b s q.head q.len (omega arith))))
      (placed (length b) q.head q.len wh at a)

  write_two : (b₁ b₂ : List ℕ) (k : ℕ) → q.head + q.len + k ≡ length b → k < length s → b₁ ≡ paste b (q.head + q.len) (take k s) (length (take k s))
      → b₂ ≡ paste b₁ 0 (take (length s - k) (drop k s)) (length (take (length s - k) (drop k s))) → b₂ ≡ written b q s
  write_two b₁ b₂ k g h e₁ e₂ =
      let wl = w.len in
      let s₁ : List ℕ = take k s in
      let s₂ : List ℕ = take (length s - k) (drop k s) in
      let e : s₁ ++ s₂ ≡ s = parts s k in
      let m₁ : length s₁ ≡ k = length-take-le k s (omega arith) in
      let m₂ : length s₁ + length s₂ ≡ length s = sym (length-append s₁ s₂) ∙ ap length e in
      is_written b s b₂ q w (omega arith) (rw e at (both b s₁ s₂ b₁ b₂ q.head q.len (omega arith) (omega arith) e₁ e₂))

  -- up to the buffer's end, and then from its start
  pub write_runs : (b₁ b₂ : List ℕ) (at k : ℕ) → at ≡ cond (leb (length b) (q.head + q.len)) (q.head + q.len - length b) (q.head + q.len)
      → k ≡ min (length s) (length b - at) → b₁ ≡ paste b at (take k s) (length (take k s))
      → b₂ ≡ paste b₁ 0 (take (length s - k) (drop k s)) (length (take (length s - k) (drop k s))) → b₂ ≡ written b q s
  write_runs b₁ b₂ at k a m e₁ e₂ =
      let wh = w.head in
      let wl = w.len in
      ⊎_elim
      (λ g. write_run b₂ at a g (all (omega arith)))
      (λ g. ⊎_elim
      (λ h. absurd (omega arith))
      (λ h. write_two b₁ b₂ k (omega arith) (omega arith) (e₁ ∙ ap (λ (z : ℕ). paste b z (take k s) (length (take k s))) h.0) e₂)
      (placed (length b) q.head q.len wh at a))
      (split (at + length s) (length b))
    where
      all : k ≡ length s → b₂ ≡ paste b at s (length s)
      all l =
          let s₂ : List ℕ = take (length s - k) (drop k s) in
          let z : length s₂ ≡ 0 = omega (arith, length-take (length s - k) (drop k s)) in
          e₂ ∙ ap (paste b₁ 0 s₂) z ∙ sym (paste-zero b₁ 0 s₂) ∙ e₁ ∙ ap (λ (x : List ℕ). paste b at x (length x)) (take_all k s (omega arith))

module _ (b d : List ℕ) (q : Ring) (w : Kept b q) (p : length d ≤ q.len) where
  pub read_one : (d' : List ℕ) → length d ≤ length b - q.head → d' ≡ take (q.head + length d - q.head) (drop q.head b) → d' ≡ take (length d) (held b q)
  unfolding held around
  read_one d' r f =
      let h = q.head in
      let n = length d in
      let e : h + n - h ≡ n = omega arith in
      let k : n ≤ length (drop h b) = omega (arith, length-drop h b) in
      f ∙ rw (e, take-take n q.len (drop h b ++ take h b) p, take-append-le n (drop h b) (take h b) k)

  pub read_two : (d₁ d₂ : List ℕ) → length b - q.head < length d → d₁ ≡ take (length b - q.head) (drop q.head b)
      → d₂ ≡ take (length d - (length b - q.head)) b → two_parts d d₁ d₂ (length b - q.head) ≡ take (length d) (held b q)
  unfolding held around
  read_two d₁ d₂ r f₁ f₂ =
      let h = q.head in
      let n = length d in
      let m : ℕ = n - (length b - h) in
      let wh = w.head in
      let wl = w.len in
      let l₁ : length d₁ ≡ length b - h = ap length f₁ ∙ length-take-le (length b - h) (drop h b) (omega (arith, length-drop h b)) in
      let l₂ : length d₂ ≡ m = ap length f₂ ∙ length-take-le m b (omega arith) in
      both_parts d d₁ d₂ (length b - h) l₁
      ∙ rw (f₁, f₂, take-take n q.len (drop h b ++ take h b) p, take_past (drop h b) (take h b) n m (omega (arith, length-drop h b)), take-take m h b (omega arith), take_all (length b - h) (drop h b) (omega (arith, length-drop h b)))
