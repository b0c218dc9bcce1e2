-- The EP that bytes begin with, as the code reads it; one that is whole lies within the bytes.
-- Assumes nothing.
use mathlib.Core.Path.{◌≡◌, refl, ap, ◌∙◌}
use mathlib.Core.Bool.{Bool, cond, true, false}
use Rattle.std.specs.Prelude.{Option, Some, None}
use mathlib.Core.List.{List, [], ◌∷◌}
use Prim.Native.Nat.{ℕ, ◌+◌, ◌-◌, ◌≤◌, ◌<◌}
use native.Mathlib.Omega.{arith}
use lib.Dec.{eqb, leb}
use lib.ListN.{length, take, get_or}
use borrow.Author.Tests.{le-leb, lt-leb, leb-true}
use Rattle.digits.specs.Digits.{number}
use Rattle.wire.specs.Reading.{header_in, header_of}
use Rattle.wire.specs.declared.Header.{Header}
use Rattle.lengths.specs.declared.queued.Ep.{Ep}
use Rattle.lengths.specs.Queued.{whole_of, ep_in}

-- six bytes read one by one
abbrev six : List ℕ → List ℕ
six s = get_or s 0 0 ∷ get_or s 1 0 ∷ get_or s 2 0 ∷ get_or s 3 0 ∷ get_or s 4 0 ∷ get_or s 5 0 ∷ []

six_are : (s : List ℕ) → 6 ≤ length s → six s ≡ take 6 s
six_are (a ∷ b ∷ c ∷ d ∷ e ∷ f ∷ s) l = refl
six_are [] l = absurd (omega arith)
six_are (a ∷ []) l = absurd (omega arith)
six_are (a ∷ b ∷ []) l = absurd (omega arith)
six_are (a ∷ b ∷ c ∷ []) l = absurd (omega arith)
six_are (a ∷ b ∷ c ∷ d ∷ []) l = absurd (omega arith)
six_are (a ∷ b ∷ c ∷ d ∷ e ∷ []) l = absurd (omega arith)

pub ep_short : (s : List ℕ) → length s < 6 → None ≡ ep_in s
unfolding ep_in
ep_short s l = rw (lt-leb 6 (length s) l)

long : (s : List ℕ) (n : ℕ) → 6 ≤ length s → n ≡ number 0 (six s) → whole_of (length s - 6) (header_in n) ≡ ep_in s
unfolding ep_in header_of
long s n l e =
    rw (le-leb 6 (length s) l)
    (ap (λ (n : ℕ). whole_of (length s - 6) (header_in n)) (e ∙ ap (number 0) (six_are s l)))

pub ep_read : (s : List ℕ) (n : ℕ) (o : Option Header) → 6 ≤ length s → n ≡ number 0 (six s) → o ≡ header_in n → whole_of (length s - 6) o ≡ ep_in s
ep_read s n o l e r = ap (whole_of (length s - 6)) r ∙ long s n l e

whole_within : (n : ℕ) (o : Option Header) (x : Ep) → whole_of n o ≡ Some x → x.size ≤ n
whole_within n None x e = let z : ◌≡◌ {A = ℕ} 0 1 = cc in omega arith
whole_within n (Some h) x e = by (eqb h.content 0) (leb h.size n) refl e
  where
    by : (t u : Bool) → leb h.size n ≡ u → cond t None (cond u (Some (record { fragment = h.fragment; size = h.size })) None) ≡ Some x → x.size ≤ n
    by true u q e = let z : ◌≡◌ {A = ℕ} 0 1 = cc in omega arith
    by false false q e = let z : ◌≡◌ {A = ℕ} 0 1 = cc in omega arith
    by false true q e =
        let same : record { fragment = h.fragment; size = h.size } ≡ x = cc in
        omega (arith, ap (λ (y : Ep). y.size) same, leb-true h.size n q)

pub within : (s : List ℕ) (x : Ep) → ep_in s ≡ Some x → 6 + x.size ≤ length s
unfolding ep_in
within s x e = by (leb 6 (length s)) refl e
  where
    by : (t : Bool) → leb 6 (length s) ≡ t → cond t (whole_of (length s - 6) (header_of (take 6 s))) None ≡ Some x → 6 + x.size ≤ length s
    by true q e = omega (arith, leb-true 6 (length s) q, whole_within (length s - 6) (header_of (take 6 s)) x e)
    by false q e = let z : ◌≡◌ {A = ℕ} 0 1 = cc in omega arith
