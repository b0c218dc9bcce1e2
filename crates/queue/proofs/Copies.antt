-- Laws of lists that are cut and pasted over, and of the copy. Assumes nothing.
use mathlib.Core.Path.{◌≡◌, refl, sym, ap, ◌∙◌}
use Prim.Native.Nat.{ℕ, zero, suc, ◌+◌, ◌-◌, ◌≤◌, ◌<◌, min}
use native.Mathlib.Nat.{zero-add, suc-add, add_assoc}
use native.Mathlib.Omega.{arith}
use mathlib.Core.Bool.{Bool, true, false}
use mathlib.Core.Logic.{◌⊎◌, inl, inr, ⊎_elim}
use lib.Dec.{leb}
use borrow.Author.Tests.{leb-true, leb-false}
use mathlib.Core.List.{List, [], ◌∷◌, ◌++◌, append_assoc, append-nil}
use lib.ListN.{length, take, drop, length-append, length-drop, take-append-drop}
use lib.Seq.{paste, paste-zero, take_all, take-length, take-append-add, drop-append-add, take-take, drop-drop, length-take-le, drop-nil, take-nil, length-paste, take_at, drop_at, drop-length}
use Rattle.queue.specs.Ring.{copied}

pub drop_take : (n m : ℕ) (l : List ℕ) → drop n (take (n + m) l) ≡ take m (drop n l)
drop_take zero m l = rw zero-add
drop_take (suc n) m [] = simp (drop-nil, take-nil)
drop_take (suc n) m (x ∷ l) = rw suc-add (drop_take n m l)

-- the first and the other elements of x ++ y, cut in y
pub take_past : (x y : List ℕ) (h k : ℕ) → h ≡ length x + k → take h (x ++ y) ≡ x ++ take k y
take_past x y h k e = rw e (take-append-add x y k)

pub drop_past : (x y : List ℕ) (h k : ℕ) → h ≡ length x + k → drop h (x ++ y) ≡ drop k y
drop_past x y h k e = rw e (drop-append-add x y k)

-- two pastes, one behind the other
pub paste_two : (r s₁ s₂ : List ℕ) (l : ℕ) → l ≤ length r
    → paste (paste r l s₁ (length s₁)) (l + length s₁) s₂ (length s₂) ≡ paste r l (s₁ ++ s₂) (length (s₁ ++ s₂))
paste_two r s₁ s₂ l p =
    let a : length (take l r ++ s₁) ≡ l + length s₁ = length-append (take l r) s₁ ∙ rw (length-take-le l r p) in
    let d : drop (l + length s₁ + length s₂) (take l r ++ s₁ ++ drop (l + length s₁) r) ≡ drop (l + length s₁ + length s₂) r =
    drop_past (take l r ++ s₁) (drop (l + length s₁) r) (l + length s₁ + length s₂) (length s₂) (omega arith) ∙ drop-drop (length s₂) (l + length s₁) r in
    simp take-length (rw (take_at (take l r ++ s₁) (drop (l + length s₁) r) (l + length s₁) a, d) (simp (length-append, append_assoc, add_assoc)))

-- a list as its first k elements and the others, as code takes them
pub parts : (s : List ℕ) (k : ℕ) → take k s ++ take (length s - k) (drop k s) ≡ s
parts s k = rw (take_all (length s - k) (drop k s) (omega (arith, length-drop k s))) (take-append-drop k s)

-- a paste of a list's first elements
pub paste_part : (d s : List ℕ) (at k : ℕ) → k ≤ length s → paste d at s k ≡ paste d at (take k s) (length (take k s))
paste_part d s at k p = rw (length-take-le k s p, take-take k k s (omega arith))

-- a paste by way of another list's first elements
pub paste_by : (d o s o' d' : List ℕ) (at n : ℕ) → n ≤ length s → o' ≡ paste o 0 s n → d' ≡ paste d at o' n → d' ≡ paste d at s n
paste_by d o s o' d' at n p e f =
    let same : take n o' ≡ take n s = ap (take n) e ∙ take_at (take n s) (drop (0 + n) o) n (length-take-le n s p) in
    f ∙ ap (λ (x : List ℕ). take at d ++ x ++ drop (at + n) d) same

-- a whole list pasted over, in one run and in two
pub over : (d s d' : List ℕ) → length s ≡ length d → d' ≡ paste d 0 s (length s) → d' ≡ s
over d s d' e f = f ∙ rw (take-length, zero-add, e, drop-length) (append-nil s)

pub over_two : (d s₁ s₂ d₁ d₂ : List ℕ) (k : ℕ) → length s₁ ≡ k → length s₁ + length s₂ ≡ length d
    → d₁ ≡ paste d 0 s₁ (length s₁) → d₂ ≡ paste d₁ k s₂ (length s₂) → d₂ ≡ s₁ ++ s₂
over_two d s₁ s₂ d₁ d₂ k e m f₁ f₂ =
    let f : k ≡ 0 + length s₁ = omega arith in
    over d (s₁ ++ s₂) d₂ (length-append s₁ s₂ ∙ m) (f₂ ∙ rw (f, f₁) (paste_two d s₁ s₂ 0 (omega arith)))

-- a list in two parts, once x and y are written to them
abbrev pub two_parts : List ℕ → List ℕ → List ℕ → ℕ → List ℕ
two_parts d x y k = take k (x ++ drop k d) ++ (y ++ drop (length (x ++ drop k d) - k) (drop k (x ++ drop k d)))

pub both_parts : (d x y : List ℕ) (k : ℕ) → length x ≡ k → two_parts d x y k ≡ x ++ y
both_parts d x y k l =
    let n : length (x ++ drop k d) - k ≡ length (drop k d) = omega (arith, length-append x (drop k d)) in
    rw (n, take_at x (drop k d) k l, drop_at x (drop k d) k l, drop-length) (ap (λ (z : List ℕ). x ++ z) (append-nil y))

-- a copy for which there is place is a paste
pub copied_all : (d s : List ℕ) (at : ℕ) → at + length s ≤ length d → copied d at s ≡ paste d at s (length s)
copied_all d s at p = let e : min (length s) (length d - at) ≡ length s = omega arith in rw e refl

pub split : (a b : ℕ) → (a ≤ b) ⊎ (b < a)
split a b = by (leb a b) refl
  where
    by : (t : Bool) → leb a b ≡ t → (a ≤ b) ⊎ (b < a)
    by true e = inl (leb-true a b e)
    by false e = inr (leb-false a b e)

pub length_copied : (d s : List ℕ) (at : ℕ) → length (copied d at s) ≡ length d
length_copied d s at =
    ⊎_elim
    (λ h. length-paste d at s (min (length s) (length d - at)) (omega arith) (omega arith))
    (λ h. let e : min (length s) (length d - at) ≡ 0 = omega arith in ap (λ (n : ℕ). length (paste d at s n)) e ∙ ap length (sym (paste-zero d at s)))
    (split at (length d))
