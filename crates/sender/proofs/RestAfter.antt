-- Laws of the EP under way. Assumes nothing.
use mathlib.Core.Path.{◌≡◌, sym, ◌∙◌}
use Prim.Native.Nat.{ℕ, zero, suc, ◌+◌, ◌-◌, ◌≤◌, ◌<◌}
use native.Mathlib.Nat.{suc-sub-suc, sub-zero, zero-sub}
use native.Mathlib.Omega.{arith}
use mathlib.Core.List.{List, [], ◌∷◌}
use lib.ListN.{length, drop, length-drop}
use lib.Seq.{drop-drop}
use Rattle.sender.specs.Drawing.{span, rest_after}
use Rattle.sender.proofs.Heads.{span_within, span_some}

-- n bytes over an EP of which rest are left
pub run : (n : ℕ) (q : List ℕ) (rest : ℕ) → rest ≤ length q → rest_after n q rest ≡ rest_after (n - rest) (drop rest q) (rest - n)
unfolding rest_after
run zero q rest h = rw (zero-sub, sub-zero)
run (suc n) q zero h = rw (sub-zero, zero-sub)
run (suc n) [] (suc rest) h = absurd (omega arith)
run (suc n) (b ∷ q) (suc rest) h = rw (suc-sub-suc, suc-sub-suc) (run n q rest (omega arith))

started : (k b : ℕ) (r : List ℕ) (w v : ℕ) → w ≡ suc v → v ≤ length r → rest_after k r v ≡ rest_after (suc k - w) (drop w (b ∷ r)) (w - suc k)
started k b r w v e h = rw (e, suc-sub-suc, suc-sub-suc) (run k r v h)

-- one EP more
pub start : (k : ℕ) (s : List ℕ) → 0 < length s → rest_after (suc k) s 0 ≡ rest_after (suc k - span s) (drop (span s) s) (span s - suc k)
unfolding rest_after
start k [] h = absurd (omega arith)
start k (b ∷ r) h =
    let w = span (b ∷ r) in
    let p = span_some (b ∷ r) h in
    let m = span_within (b ∷ r) in
    started k b r w (w - 1) (omega arith) (omega arith)

pub on : (n at : ℕ) (q : List ℕ) → at < n → n ≤ length q → rest_after (n - at) (drop at q) 0 ≡ rest_after (n - (at + span (drop at q))) (drop (at + span (drop at q)) q) (at + span (drop at q) - n)
on n at q h l =
    let z : 0 < length (drop at q) = omega (arith, length-drop at q) in
    let w = span (drop at q) in
    let f : n - at ≡ suc (n - at - 1) = omega arith in
    let g : n - (at + w) ≡ suc (n - at - 1) - w = omega arith in
    let g₂ : at + w - n ≡ w - suc (n - at - 1) = omega arith in
    rw (f, g, g₂, ← drop-drop w at q) (start (n - at - 1) (drop at q) z)

pub under_le : (n : ℕ) (q : List ℕ) (rest : ℕ) → rest ≤ length q → n ≤ length q → rest_after n q rest ≤ length q - n
unfolding rest_after
under_le zero q rest h l = rw sub-zero h
under_le (suc n) [] rest h l = absurd (omega arith)
under_le (suc n) (b ∷ q) zero h l = rw suc-sub-suc (under_le n q (span (b ∷ q) - 1) (omega (arith, span_within (b ∷ q))) (omega arith))
under_le (suc n) (b ∷ q) (suc rest) h l = rw suc-sub-suc (under_le n q rest (omega arith) (omega arith))

-- a turn of the loop, and its end
pub turn : (n at l rest : ℕ) (q : List ℕ) (w : ℕ) → length q ≡ l → n ≤ l → at < n → w ≡ span (drop at q) → rest_after n q rest ≡ rest_after (n - at) (drop at q) (at - n)
    → (at + w ≤ l) × (rest_after n q rest ≡ rest_after (n - (at + w)) (drop (at + w) q) (at + w - n))
turn n at l rest q w e p h f i =
    let z : at - n ≡ 0 = omega arith in
    let d = length-drop at q in
    let s = span_within (drop at q) in
    (omega arith, rw f (i ∙ rw z (on n at q h (omega arith))))

pub over : (n at l rest : ℕ) (q : List ℕ) → length q ≡ l → rest ≤ l → n ≤ l → n ≤ at → rest_after n q rest ≡ rest_after (n - at) (drop at q) (at - n)
    → (at - n ≡ rest_after n q rest) × (at - n ≤ l - n)
unfolding rest_after
over n at l rest q e r p h i =
    let z : n - at ≡ 0 = omega arith in
    let f : rest_after n q rest ≡ at - n = rw z at i in
    (sym f, rw (← f, ← e) (under_le n q rest (omega arith) (omega arith)))
