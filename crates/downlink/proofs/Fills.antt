-- Fill, and the offset. Assumes nothing.
use Prim.Native.Nat.{ℕ, zero, suc, ◌+◌, ◌-◌, ◌≤◌, ◌<◌, min}
use mathlib.Core.Path.{◌≡◌, refl, ap, ◌∙◌}
use mathlib.Core.Logic.{⊎_elim}
use mathlib.Core.List.{List, [], ◌∷◌, ◌++◌, append-nil}
use native.Mathlib.Nat.{sub-zero, zero-sub, suc-sub-suc, sub_self}
use native.Mathlib.Omega.{arith}
use lib.ListN.{length, drop, replicate, length-replicate, drop_of_length-le}
use lib.Seq.{drop-nil}
use borrow.Author.Tests.{le-ltb}
use Rattle.golay.specs.Golay.{code_word, chosen}
use Rattle.wire.specs.Wire.{word, first_number, header, ep}
use Rattle.wire.proofs.Laws.{ep_length}
use Rattle.sender.specs.Drawing.{fill, offset}
use Rattle.downlink.specs.Damage.{filler, fillers}
use Rattle.downlink.proofs.Marks.{ep_cells, Plain, plain_behind, Good, AllSent, good_eps}
use Rattle.downlink.proofs.Lows.{split}

-- ---- lists

pub drop_both : {A : Type 0} (n : ℕ) (x y : List A) → drop n (x ++ y) ≡ drop n x ++ drop (n - length x) y
drop_both n [] y = rw (drop-nil, sub-zero)
drop_both zero (a ∷ x) y = rw zero-sub
drop_both (suc n) (a ∷ x) y = rw suc-sub-suc (drop_both n x y)

pub drop_replicate : (n m a : ℕ) → drop n (replicate m a) ≡ replicate (m - n) a
drop_replicate zero m a = rw sub-zero
drop_replicate (suc n) zero a = rw zero-sub
drop_replicate (suc n) (suc m) a = rw suc-sub-suc (drop_replicate n m a)

-- ---- fill

fill_length : (m : ℕ) → 0 < m → length (fill m) ≡ 6 + (m - 6)
unfolding fill
fill_length zero h = absurd (omega arith)
fill_length (suc m) h = ep_length 0 0 (replicate (suc m - 6) 0xAA) ∙ ap (λ (n : ℕ). 6 + n) (length-replicate (suc m - 6) 0xAA)

pub fill_much : (m : ℕ) → m ≤ length (fill m)
unfolding fill
fill_much zero = omega arith
fill_much (suc m) = omega (arith, fill_length (suc m) (omega arith))

-- what a draw of m bytes leaves of it is zeros
pub fill_rest : (m : ℕ) → drop m (fill m) ≡ replicate (length (fill m) - m) 0
unfolding fill ep header word first_number code_word chosen
fill_rest zero = refl
fill_rest (suc zero) = refl
fill_rest (suc (suc zero)) = refl
fill_rest (suc (suc (suc zero))) = refl
fill_rest (suc (suc (suc (suc zero)))) = refl
fill_rest (suc (suc (suc (suc (suc zero))))) = refl
fill_rest (suc (suc (suc (suc (suc (suc m)))))) =
    let k : ℕ = suc (suc (suc (suc (suc (suc m))))) in
    let l : length (fill k) ≡ k = fill_length k (omega arith) ∙ omega arith in
    let g : length (fill k) ≤ k = omega arith in
    drop_of_length-le (fill k) g ∙ rw (l, sub_self) refl

pub fill_plain : (m : ℕ) → Plain (drop m (ep_cells (fill m)))
unfolding Plain fill
fill_plain zero = tt
fill_plain (suc m) = plain_behind m (ep 0 0 (replicate (suc m - 6) 0xAA))

pub fill_good : (m : ℕ) → m ≤ 2047 → Good 0 (ep_cells (fill m))
unfolding Good fill AllSent
fill_good zero h = tt
fill_good (suc m) h =
    let d : List ℕ = replicate (suc m - 6) 0xAA in
    let l : length d ≡ suc m - 6 = length-replicate (suc m - 6) 0xAA in
    rw append-nil at
    (good_eps (ep 0 0 d ∷ [])
    (record { content = 0; flag = 0; load = d; is = refl; known = omega arith; flagged = omega arith; short = omega arith }, tt))

-- what it is to the stream
pub fillers_some : (e : List ℕ) → 0 < length e → fillers e ≡ filler e ∷ []
fillers_some [] h = absurd (omega arith)
fillers_some (b ∷ e) h = refl

-- ---- the offset

pub same_offset : (low first r : ℕ) → offset low (min r first) r ≡ offset low first r
unfolding offset
same_offset low first r =
    ⊎_elim
    (λ s. let e : min r first ≡ r = omega arith in rw (e, le-ltb r r (omega arith), le-ltb first r s))
    (λ s. let e : min r first ≡ first = omega arith in rw e)
    (split r first)
