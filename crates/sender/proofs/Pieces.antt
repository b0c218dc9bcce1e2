-- Laws of an SP's pieces. Assumes nothing.
use mathlib.Core.Path.{◌≡◌, refl, sym, ap, ◌∙◌}
use mathlib.Core.List.{List, ◌∷◌, ◌++◌, append-nil, flatten}
use mathlib.Core.Logic.{⊎_elim}
use Prim.Native.Nat.{ℕ, zero, suc, ◌+◌, ◌-◌, ◌*◌, ◌/◌, ◌≤◌, ◌<◌}
use native.Mathlib.Nat.{div-eq_of_lt, div-eq-sub-div}
use native.Mathlib.Omega.{arith}
use lib.ListN.{length, take, drop, length-append, length-drop}
use lib.Seq.{length-take-le}
use borrow.Author.Tests.{le-leb, lt-leb}
use Rattle.wire.specs.Wire.{ep}
use Rattle.wire.proofs.Laws.{ep_length}
use Rattle.sender.specs.Offering.{later, last_piece, middle_piece, pieces, sp_bytes}
use Rattle.sender.proofs.Bools.{split}

pub last_bytes : (k F c : ℕ) (d : List ℕ) → length d ≤ F → flatten (later k F c d) ≡ ep c 3 d
unfolding flatten
last_bytes k F c d h = rw (last_piece k F c d h) (append-nil (ep c 3 d))

pub middle_bytes : (k F c : ℕ) (d : List ℕ) → F < length d → flatten (later (suc k) F c d) ≡ ep c 2 (take F d) ++ flatten (later k F c (drop F d))
unfolding flatten
middle_bytes k F c d h = rw (middle_piece k F c d h)

pub one_piece : (F c : ℕ) (d : List ℕ) → length d ≤ F → sp_bytes F c d ≡ ep c 0 d
unfolding sp_bytes pieces flatten
one_piece F c d h = rw (le-leb (length d) F h) (append-nil (ep c 0 d))

pub first_piece : (F c : ℕ) (d : List ℕ) → F < length d → sp_bytes F c d ≡ ep c 1 (take F d) ++ flatten (later (length d) F c (drop F d))
unfolding sp_bytes pieces flatten
first_piece F c d h = rw (lt-leb (length d) F h)

-- the bound on the number of pieces says nothing, once it is as large as the SP
pub later_any : (k j F c : ℕ) (d : List ℕ) → 1 ≤ F → length d ≤ k → length d ≤ j → later k F c d ≡ later j F c d
later_any zero j F c d p h g = last_piece zero F c d (omega arith) ∙ sym (last_piece j F c d (omega arith))
later_any (suc k) zero F c d p h g = last_piece (suc k) F c d (omega arith) ∙ sym (last_piece zero F c d (omega arith))
later_any (suc k) (suc j) F c d p h g =
    let m = length-drop F d in
    ⊎_elim
    (λ z. last_piece (suc k) F c d z ∙ sym (last_piece (suc j) F c d z))
    (λ z. let a : length (drop F d) ≤ k = omega arith in
    let b : length (drop F d) ≤ j = omega arith in
    middle_piece k F c d z ∙ ap (λ (l : List (List ℕ)). ep c 2 (take F d) ∷ l) (later_any k j F c (drop F d) p a b) ∙ sym (middle_piece j F c d z))
    (split (length d) F)

-- ---- lengths

pub piece_length : (F c f : ℕ) (d e : List ℕ) → F ≤ length d → length (ep c f (take F d) ++ e) ≡ 6 + F + length e
piece_length F c f d e h = length-append (ep c f (take F d)) e ∙ rw (ep_length c f (take F d), length-take-le F d h) refl

shorter : (n F : ℕ) → 1 ≤ F → F < n → (n - 1) / F ≡ (n - F - 1) / F + 1
shorter n F p h = let e : n - F - 1 ≡ n - 1 - F = omega arith in div-eq-sub-div p (omega arith) ∙ rw e refl

add_up : (n F x y : ℕ) → F ≤ n → y ≡ x + 1 → 6 + F + (n - F + 6 * (x + 1)) ≡ n + 6 * (y + 1)
add_up n F x y h e = omega arith

later_few : (k F c : ℕ) (d : List ℕ) → 1 ≤ F → 1 ≤ length d → length d ≤ F → length (flatten (later k F c d)) ≡ length d + 6 * ((length d - 1) / F + 1)
later_few k F c d p h l =
    let z : (length d - 1) / F ≡ 0 = div-eq_of_lt (omega arith) in
    ap length (last_bytes k F c d l) ∙ ep_length c 3 d ∙ rw z (omega arith)

later_length : (k F c : ℕ) (d : List ℕ) → 1 ≤ F → 1 ≤ length d → length d ≤ k → length (flatten (later k F c d)) ≡ length d + 6 * ((length d - 1) / F + 1)
later_length zero F c d p h l = absurd (omega arith)
later_length (suc k) F c d p h l =
    ⊎_elim
    (λ s. later_few (suc k) F c d p h s)
    (λ s. let m = length-drop F d in
    ap length (middle_bytes k F c d s)
    ∙ piece_length F c 2 d (flatten (later k F c (drop F d))) (omega arith)
    ∙ ap (λ (z : ℕ). 6 + F + z) (later_length k F c (drop F d) p (omega arith) (omega arith))
    ∙ rw m (add_up (length d) F ((length d - F - 1) / F) ((length d - 1) / F) (omega arith) (shorter (length d) F p s)))
    (split (length d) F)

pub sp_length : (F c : ℕ) (d : List ℕ) → 1 ≤ F → F < length d → length (sp_bytes F c d) ≡ length d + 6 * ((length d - 1) / F + 1)
sp_length F c d p h =
    let l = length-drop F d in
    let i = later_length (length d) F c (drop F d) p (omega arith) (omega arith) in
    rw (first_piece F c d h, piece_length F c 1 d (flatten (later (length d) F c (drop F d))) (omega arith), i, l)
    (add_up (length d) F ((length d - F - 1) / F) ((length d - 1) / F) (omega arith) (shorter (length d) F p h))

pub sp_least : (F c : ℕ) (d : List ℕ) → 1 ≤ F → length d ≤ length (sp_bytes F c d)
sp_least F c d p =
    ⊎_elim
    (λ h. let e = ap length (one_piece F c d h) ∙ ep_length c 0 d in omega arith)
    (λ h. let e = sp_length F c d p h in omega arith)
    (split (length d) F)
