-- Laws of the ordinary bytes of a TP. Assumes nothing.
use mathlib.Core.Path.{◌≡◌, refl, sym, ap, subst, ◌∙◌}
use Prim.Native.Nat.{ℕ, zero, suc, ◌+◌, ◌-◌, ◌≤◌, ◌<◌, min}
use native.Mathlib.Nat.{suc-sub-suc, sub-zero, sub_self, zero-sub, zero-min, min-zero, suc-min-suc, min-eq_left, min-le_right, le_trans, le-add_right}
use native.Mathlib.Omega.{arith}
use mathlib.Core.List.{List, [], ◌∷◌, ◌++◌, append_assoc, append-nil}
use lib.ListN.{length, take, drop, replicate, length-append, length-take, length-replicate}
use lib.Seq.{paste, paste-zero, take-paste, length-paste, take_all, take-nil, drop-nil, length-take-le, take-length}
use Rattle.queue.specs.declared.Ring.{Ring}
use Rattle.queue.specs.Ring.{Left, copied, held, off, Kept, popped}
use Rattle.queue.proofs.Copies.{copied_all}
use Rattle.queue.proofs.Puts.{length_held}
use Rattle.queue.proofs.Takes.{pop_fits, off_zero}
use Rattle.wire.specs.Wire.{header, ep}
use Rattle.wire.proofs.Laws.{ep_length, header_length}
use Rattle.sender.specs.Drawing.{fill, lacking, stream, owed_after}
use Rattle.sender.specs.Steps.{Filled}

-- ---- lists

pub rep_length : (n a : ℕ) → length (replicate n a) ≡ n
rep_length n a = length-replicate n a

pub take_both : {A : Type 0} (n : ℕ) (x y : List A) → take n (x ++ y) ≡ take n x ++ take (n - length x) y
take_both n [] y = rw (take-nil, sub-zero)
take_both zero (a ∷ x) y = rw zero-sub
take_both (suc n) (a ∷ x) y = rw suc-sub-suc (ap (λ l. a ∷ l) (take_both n x y))

pub drop_both : {A : Type 0} (n : ℕ) (x y : List A) → drop n (x ++ y) ≡ drop n x ++ drop (n - length x) y
drop_both n [] y = rw (drop-nil, sub-zero)
drop_both zero (a ∷ x) y = rw zero-sub
drop_both (suc n) (a ∷ x) y = rw suc-sub-suc (drop_both n x y)

pub take_min : {A : Type 0} (n : ℕ) (x : List A) → take (min n (length x)) x ≡ take n x
take_min n [] = rw (take-nil, take-nil)
take_min zero (a ∷ x) = rw zero-min
take_min (suc n) (a ∷ x) = rw suc-min-suc (ap (λ l. a ∷ l) (take_min n x))

pub take_replicate : (n m a : ℕ) → take n (replicate m a) ≡ replicate (min n m) a
take_replicate zero m a = rw zero-min
take_replicate (suc n) zero a = rw min-zero
take_replicate (suc n) (suc m) a = rw suc-min-suc (ap (λ l. a ∷ l) (take_replicate n m a))

pub pasted : (d s d₁ : List ℕ) (at : ℕ) → at ≤ length d → d₁ ≡ paste d at s (length s) → take (at + length s) d₁ ≡ take at d ++ s
pasted d s d₁ at p e = rw e (take-paste d at s (length s) p (omega arith) ∙ rw take-length refl)

-- ---- fill

pub fill_length : (m : ℕ) → 0 < m → length (fill m) ≡ 6 + (m - 6)
unfolding fill
fill_length zero h = absurd (omega arith)
fill_length (suc m) h = ep_length 0 0 (replicate (suc m - 6) 0xAA) ∙ rw (rep_length (suc m - 6) 0xAA)

fill_zero : (m : ℕ) → m ≡ 0 → length (fill m) ≡ 0
unfolding fill
fill_zero m e = rw e

pub short_zero : (m : ℕ) → m ≡ 0 → 0 ≡ length (fill m) - m
short_zero m e = omega (arith, fill_zero m e)

pub short_some : (m k : ℕ) → 0 < m → k ≡ min 6 m → 6 - k ≡ length (fill m) - m
short_some m k p e = omega (arith, fill_length m p)

pub short_least : (m : ℕ) → length (fill m) - m ≤ 5
unfolding fill
short_least zero = omega arith
short_least (suc m) = omega (arith, fill_length (suc m) (omega arith))

pub owed_few : (sh m : ℕ) → sh ≡ length (fill m) - m → sh ≤ 5
owed_few sh m e = rw e (short_least m)

pub fill_enough : (m : ℕ) → m ≤ length (fill m)
unfolding fill
fill_enough zero = omega arith
fill_enough (suc m) = omega (arith, fill_length (suc m) (omega arith))

whole : (d : List ℕ) (j : ℕ) → j ≤ length d → length (take j d ++ take (length d - j) (fill (length d - j))) ≡ length d
whole d j h =
    let m : ℕ = length d - j in
    let f = length-take-le m (fill m) (fill_enough m) in
    let g = length-take-le j d h in
    length-append (take j d) (take m (fill m)) ∙ rw (f, g) (omega arith)

pub owed_least : (r owed : ℕ) (q : List ℕ) → owed ≤ 5 → owed_after r owed q ≤ 5
unfolding owed_after lacking
owed_least r owed q h = by (r - owed - length q) refl
  where
    by : (m : ℕ) → r - owed - length q ≡ m → owed - r + (length (fill m) - m) ≤ 5
    by zero e = omega (arith, fill_zero 0 refl)
    by (suc m) e = let z : owed - r ≡ 0 = omega arith in rw z (omega (arith, short_least (suc m)))

-- the first m bytes of fill for m
pub fill_taken : (m k : ℕ) → k ≡ min 6 m → take m (fill m) ≡ take k (header 0 0 (m - k)) ++ replicate (m - k) 0xAA
unfolding fill ep
fill_taken zero k e =
    let z : k ≡ 0 = omega arith in
    rw z refl
fill_taken (suc m) k e =
    let d : List ℕ = replicate (suc m - 6) 0xAA in
    let z : suc m - k ≡ suc m - 6 = omega arith in
    let l : length d ≡ suc m - 6 = rep_length (suc m - 6) 0xAA in
    let hl = header_length 0 0 (suc m - 6) in
    let kj : min (suc m) (length (header 0 0 (suc m - 6))) ≡ k = omega arith in
    let t : take (suc m) (header 0 0 (suc m - 6)) ≡ take k (header 0 0 (suc m - 6)) = sym (take_min (suc m) (header 0 0 (suc m - 6))) ∙ ap (λ (j : ℕ). take j (header 0 0 (suc m - 6))) kj in
    let u : take (suc m - 6) d ≡ d = take_all (suc m - 6) d (omega arith) in
    rw z (take_both (suc m) (header 0 0 (length d)) d ∙ rw (l, hl, t, u))

-- nothing is lacking
pub fill_nothing : (d : List ℕ) (at m : ℕ) → m ≡ length d - at → m ≡ 0 → d ≡ take at d ++ take m (fill m)
fill_nothing d at m e z =
    let t : take at d ≡ d = take_all at d (omega arith) in
    rw (z, t) (sym (append-nil d))

-- what it asks of numbers, each over bare ones: `omega` looks at all that is in reach

head_cut : (k l m : ℕ) → l ≡ 6 → k ≡ min 6 m → min (k - 0) l ≡ k
head_cut k l m e f = omega arith

head_room : (D at m k x : ℕ) → at ≤ D → m ≡ D - at → k ≡ min 6 m → x ≡ k → at + x ≤ D
head_room D at m k x p e f g = omega arith

fill_room : (D L at m k y : ℕ) → at ≤ D → m ≡ D - at → k ≡ min 6 m → y ≡ m - k → L ≡ D → at + k + y ≤ L
fill_room D L at m k y p e f g h = omega arith

start_room : (D L at m k : ℕ) → at ≤ D → m ≡ D - at → k ≡ min 6 m → L ≡ D → at + k ≤ L
start_room D L at m k p e f h = omega arith

all_filled : (D L at m k : ℕ) → at ≤ D → m ≡ D - at → k ≡ min 6 m → L ≡ D → L ≤ at + k + (m - k)
all_filled D L at m k p e f h = omega arith

as_long : (a b : ℕ) → a ≡ b → b ≤ a
as_long a b e = omega arith

pub fill_written : (d d₁ d₂ h : List ℕ) (at k m : ℕ) → at ≤ length d → m ≡ length d - at → k ≡ min 6 m → h ≡ header 0 0 (m - k)
    → d₁ ≡ copied d at (take (k - 0) h) → d₂ ≡ copied d₁ (at + k) (replicate (m - k) 0xAA)
    → d₂ ≡ take at d ++ take m (fill m)
fill_written d d₁ d₂ h at k m p e ke he c₁ c₂ =
    let x : List ℕ = take (k - 0) h in
    let y : List ℕ = replicate (m - k) 0xAA in
    let hl : length h ≡ 6 = rw he (header_length 0 0 (m - k)) in
    let lx : length x ≡ k = length-take (k - 0) h ∙ head_cut k (length h) m hl ke in
    let fits = head_room (length d) at m k (length x) p e ke lx in
    let ly = rep_length (m - k) 0xAA in
    let enough = as_long (length y) (m - k) ly in
    let e₁ : d₁ ≡ paste d at x (length x) = c₁ ∙ copied_all d x at fits in
    let l₁ : length d₁ ≡ length d = rw e₁ (length-paste d at x (length x) fits (as_long (length x) (length x) refl)) in
    let e₂ : d₂ ≡ paste d₁ (at + k) y (m - k) = c₂ ∙ copied_all d₁ y (at + k) (fill_room (length d) (length d₁) at m k (length y) p e ke ly l₁) ∙ ap (paste d₁ (at + k) y) ly in
    let l₂ : length d₂ ≡ length d = rw e₂ (length-paste d₁ (at + k) y (m - k) (fill_room (length d) (length d₁) at m k (m - k) p e ke refl l₁) enough ∙ l₁) in
    let t₁ : take (at + k) d₁ ≡ take at d ++ x = rw lx at (pasted d x d₁ at p e₁) in
    let t₂ : take (at + k + (m - k)) d₂ ≡ take (at + k) d₁ ++ take (m - k) y = rw e₂ (take-paste d₁ (at + k) y (m - k) (start_room (length d) (length d₁) at m k p e ke l₁) enough) in
    let w : take (at + k + (m - k)) d₂ ≡ d₂ = take_all (at + k + (m - k)) d₂ (all_filled (length d) (length d₂) at m k p e ke l₂) in
    let v : take (m - k) y ≡ y = take_all (m - k) y (as_long (m - k) (length y) (sym ly)) in
    sym w ∙ t₂ ∙ rw (t₁, v, fill_taken m k ke, ← he, sub-zero) (append_assoc (take at d) (take k h) y)

-- less than a header
pub fill_cut : (d d₁ h : List ℕ) (at m : ℕ) → at ≤ length d → m ≡ length d - at → m < 6 → h ≡ header 0 0 0
    → d₁ ≡ copied d at (take (m - 0) h) → d₁ ≡ take at d ++ take m (fill m)
fill_cut d d₁ h at m p e s he c₁ =
    let z : m - m ≡ 0 = sub_self m in
    fill_written d d₁ d₁ h at m m p e (omega arith) (rw z he) c₁ (rw (z, zero-min) (paste-zero d₁ (at + m) []))

-- a header and more
pub fill_whole : (d d₁ d₂ h : List ℕ) (at m : ℕ) → at ≤ length d → m ≡ length d - at → 6 ≤ m → h ≡ header 0 0 (m - 6)
    → d₁ ≡ copied d at h → d₂ ≡ copied d₁ (at + 6) (replicate (m - 6) 0xAA) → d₂ ≡ take at d ++ take m (fill m)
fill_whole d d₁ d₂ h at m p e s he c₁ c₂ =
    let l : length h ≡ 6 = rw he (header_length 0 0 (m - 6)) in
    let t : take 6 h ≡ h = take_all 6 h (omega arith) in
    fill_written d d₁ d₂ h at 6 m p e (omega arith) he (rw t c₁) c₂

pub short_none : (m : ℕ) → 6 ≤ m → 0 ≡ length (fill m) - m
short_none m s = omega (arith, fill_length m (omega arith))

-- ---- the stream

same_gone : (r owed k l m : ℕ) → k ≡ min owed r → m ≡ l → min (r - k) l ≡ min (r - owed) m
same_gone r owed k l m ke e = omega arith

same_left : (L D at k n : ℕ) → L ≡ D → L - (at + k + n) ≡ D - at - k - n
same_left L D at k n e = omega arith

same_owed : (owed k r : ℕ) → k ≡ min owed r → owed - k ≡ owed - r
same_owed owed k r e = omega arith

end_within : (D at k n owed l : ℕ) → at ≤ D → k ≡ min owed (D - at) → n ≡ min (D - at - k) l → at + k + n ≤ D
end_within D at k n owed l p ke ne = omega arith

same_lack : (r owed k n l m : ℕ) → k ≡ min owed r → m ≡ l → n ≡ min (r - k) l → r - k - n ≡ r - owed - m
same_lack r owed k n l m ke e ne = omega arith

pub stream_taken : (r owed k n m : ℕ) (q : List ℕ) → k ≡ min owed r → n ≡ min (r - k) (length q) → m ≡ r - k - n
    → take r (stream r owed q) ≡ replicate k 0 ++ (take n q ++ take m (fill m))
unfolding stream lacking
stream_taken r owed k n m q ke ne me =
    let M : ℕ = r - owed - length q in
    let f₁ : min r owed ≡ k = omega arith in
    let f₂ : min (r - owed) (length q) ≡ n = sym (ne ∙ same_gone r owed k (length q) (length q) ke refl) in
    let f₃ : M ≡ m = sym (me ∙ same_lack r owed k n (length q) (length q) ke refl ne) in
    take_both r (replicate owed 0) (q ++ fill M)
    ∙ rw (take_replicate r owed 0, f₁, rep_length owed 0, take_both (r - owed) q (fill M), ← take_min (r - owed) q, f₂, f₃)

pub owned : (b : List ℕ) (q t : Ring) (owed : ℕ) (d d₁ d₂ d₃ : List ℕ) (at k n sh : ℕ) → Kept b q → at ≤ length d
    → k ≡ min owed (length d - at) → d₁ ≡ copied d at (replicate k 0) → n ≡ min (length d - at - k) q.len
    → record { ring = t; bytes = d₂ } ≡ popped b q d₁ (at + k) n → d₃ ≡ take (at + k + n) d₂ ++ take (length d₂ - (at + k + n)) (fill (length d₂ - (at + k + n)))
    → sh ≡ length (fill (length d₂ - (at + k + n))) - (length d₂ - (at + k + n))
    → Filled b q owed d at d₃ t n (owed - k + sh)
unfolding owed_after lacking
owned b q t owed d d₁ d₂ d₃ at k n sh w p ke c₁ ne u e₃ se =
    let r : ℕ = length d - at in
    let Q : List ℕ = held b q in
    let lq : length Q ≡ q.len = length_held b q w in
    let lk = rep_length k 0 in
    let e₁ : d₁ ≡ paste d at (replicate k 0) k = c₁ ∙ copied_all d (replicate k 0) at (omega arith) ∙ ap (paste d at (replicate k 0)) lk in
    let l₁ : length d₁ ≡ length d = rw e₁ (length-paste d at (replicate k 0) k (omega arith) (omega arith)) in
    let nq : n ≤ q.len = rw ne (min-le_right (length d - at - k) q.len) in
    let n_q : n ≤ length Q = rw lq nq in
    let en : at + k + n ≤ length d₁ = rw l₁ (end_within (length d) at k n owed q.len p ke ne) in
    let v : ◌≡◌ {A = Left} (record { ring = t; bytes = d₂ }) (record { ring = off (length b) q n; bytes = paste d₁ (at + k) Q n }) = u ∙ pop_fits b q n w nq d₁ (at + k) en in
    let vb : d₂ ≡ paste d₁ (at + k) Q n = ap (λ (x : Left). x.bytes) v in
    let l₂ : length d₂ ≡ length d = rw vb (length-paste d₁ (at + k) Q n en n_q ∙ l₁) in
    let tz : take k (replicate k 0) ≡ replicate {A = ℕ} k 0 = take_all {A = ℕ} k (replicate k 0) (omega arith) in
    let t₁ : take (at + k) d₁ ≡ take at d ++ replicate k 0 = rw e₁ (take-paste d at (replicate k 0) k p (omega arith) ∙ rw tz refl) in
    let t₂ : take (at + k + n) d₂ ≡ take (at + k) d₁ ++ take n Q = rw vb (take-paste d₁ (at + k) Q n (le_trans (le-add_right (at + k) n) en) n_q) in
    let m : length d₂ - (at + k + n) ≡ r - k - n = same_left (length d₂) (length d) at k n l₂ in
    let f₁ : min (r - k) q.len ≡ min (r - owed) (length Q) = same_gone r owed k q.len (length Q) ke lq in
    let f₂ : owed - k ≡ owed - r = same_owed owed k r ke in
    let f₃ : r - k - n ≡ r - owed - length Q = same_lack r owed k n q.len (length Q) ke lq ne in
    record {
      bytes = e₃ ∙ rw (t₂, t₁, m, stream_taken r owed k n (r - k - n) Q ke (ne ∙ rw lq refl) refl) (simp append_assoc);
      same = ap length e₃ ∙ whole d₂ (at + k + n) (rw l₂ (end_within (length d) at k n owed q.len p ke ne)) ∙ l₂;
      gone = ne ∙ f₁;
      ring = ap (λ (x : Left). x.ring) v;
      left = rw (se, m, f₂, f₃) refl;
    }

-- the queue has enough: nothing is lacking, and nothing is owed afterwards
to_the_end : (D at owed : ℕ) → at ≤ D → owed ≤ D - at → at + owed + (D - at - owed) ≡ D
to_the_end D at owed p h = omega arith

pub owned_queued : (b : List ℕ) (q t : Ring) (owed : ℕ) (d d₁ d₂ : List ℕ) (at : ℕ) → Kept b q → at ≤ length d → owed ≤ length d - at → length d - at - owed ≤ q.len
    → d₁ ≡ copied d at (replicate owed 0) → record { ring = t; bytes = d₂ } ≡ popped b q d₁ (at + owed) (length d - at - owed) → length d₂ ≡ length d
    → Filled b q owed d at d₂ t (length d - at - owed) 0
owned_queued b q t owed d d₁ d₂ at w p ho hq c₁ u l₂ =
    let r : ℕ = length d - at in
    let n : ℕ = r - owed in
    let end : at + owed + n ≡ length d₂ = to_the_end (length d) at owed p ho ∙ sym l₂ in
    let none : length d₂ - (at + owed + n) ≡ 0 = rw end (sub_self (length d₂)) in
    let f = owned b q t owed d d₁ d₂ d₂ at owed n 0 w p (sym (min-eq_left ho)) c₁ (sym (min-eq_left hq)) u (fill_nothing d₂ (at + owed + n) (length d₂ - (at + owed + n)) refl none) (short_zero (length d₂ - (at + owed + n)) none) in
    subst (λ (x : ℕ). Filled b q owed d at d₂ t n (x + 0)) (sub_self owed) f

-- nothing is owed and nothing is queued
pub owned_idle : (b : List ℕ) (q : Ring) (owed : ℕ) (d d' : List ℕ) (at sh : ℕ) → Kept b q → owed ≡ 0 → q.len ≡ 0 → at ≤ length d
    → d' ≡ take at d ++ take (length d - at) (fill (length d - at)) → sh ≡ length (fill (length d - at)) - (length d - at) → Filled b q owed d at d' q 0 sh
unfolding owed_after lacking
owned_idle b q owed d d' at sh w o z p e se =
    let r : ℕ = length d - at in
    let Q : List ℕ = held b q in
    let lq : length Q ≡ 0 = length_held b q w ∙ z in
    let f : r - 0 - length Q ≡ r = omega arith in
    let i : Filled b q 0 d at d' q 0 sh =
    record {
      bytes = e ∙ ap (λ (x : List ℕ). take at d ++ x) (sym (stream_taken r 0 0 0 r Q (omega arith) (omega arith) (omega arith)));
      same = ap length e ∙ whole d at p;
      gone = omega arith;
      ring = sym (off_zero b q w);
      left = se ∙ rw f (omega arith);
    } in
    subst (λ (x : ℕ). Filled b q x d at d' q 0 sh) (sym o) i
