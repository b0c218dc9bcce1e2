-- Things of some size laid end to end: those that lie wholly within a stretch. Assumes nothing.
use Prim.Native.Nat.{ℕ, ◌+◌, ◌≤◌, ◌<◌}
use mathlib.Core.Path.{◌≡◌, refl, sym, ap, ◌∙◌}
use mathlib.Core.Bool.{Bool, true, false, ◌&&◌, ◌||◌}
use mathlib.Core.List.{List, [], ◌∷◌, ◌++◌}
use native.Mathlib.Omega.{arith}
use lib.Dec.{leb}
use borrow.Author.Tests.{le-leb, lt-leb, leb-true}

abbrev pub keep : {A : Type 0} → Bool → A → List A → List A
keep true x xs = x ∷ xs
keep false x xs = xs

-- from a on, before b: begun at `from` or later, the last place before `to`
abbrev pub inside : ℕ → ℕ → ℕ → ℕ → Bool
inside from to a b = leb from a && leb b to

module _ {A : Type 0} (size : A → ℕ) where
  abbrev pub total : List A → ℕ
  total [] = 0
  total (x ∷ xs) = size x + total xs

  -- of the things that lie end to end from place `at` on, those whose first place and the place behind them pass the test
  abbrev pub picked : (ℕ → ℕ → Bool) → ℕ → List A → List A
  picked t at [] = []
  picked t at (x ∷ xs) = keep (t at (at + size x)) x (picked t (at + size x) xs)

  abbrev pub within : ℕ → ℕ → ℕ → List A → List A
  within from to at xs = picked (inside from to) at xs

  module _ (from to : ℕ) where
    pub kept : (at : ℕ) (x : A) (xs : List A) → from ≤ at → at + size x ≤ to
        → within from to at (x ∷ xs) ≡ x ∷ within from to (at + size x) xs
    kept at x xs p q = rw (le-leb from at p, le-leb (at + size x) to q)

    pub too_early : (at : ℕ) (x : A) (xs : List A) → at < from → within from to at (x ∷ xs) ≡ within from to (at + size x) xs
    too_early at x xs p = rw (lt-leb from at p)

    pub too_late : (at : ℕ) (x : A) (xs : List A) → to < at + size x → within from to at (x ∷ xs) ≡ within from to (at + size x) xs
    too_late at x xs p = go (leb from at)
      where
        go : (b : Bool) → keep (b && leb (at + size x) to) x (within from to (at + size x) xs) ≡ within from to (at + size x) xs
        go true = rw (lt-leb (at + size x) to p)
        go false = refl

    pub beyond : (at : ℕ) (xs : List A) → to < at → within from to at xs ≡ []
    beyond at [] p = refl
    beyond at (x ∷ xs) p = too_late at x xs (omega arith) ∙ beyond (at + size x) xs (omega arith)

    pub all_in : (at : ℕ) (xs : List A) → from ≤ at → at + total xs ≤ to → within from to at xs ≡ xs
    all_in at [] p q = refl
    all_in at (x ∷ xs) p q = kept at x xs p (omega arith) ∙ ap (λ l. x ∷ l) (all_in (at + size x) xs (omega arith) (omega arith))

    keep_append : (b : Bool) (x : A) (xs ys : List A) → keep b x (xs ++ ys) ≡ keep b x xs ++ ys
    keep_append true x xs ys = refl
    keep_append false x xs ys = refl

    pub within_append : (at : ℕ) (xs ys : List A)
        → within from to at (xs ++ ys) ≡ within from to at xs ++ within from to (at + total xs) ys
    within_append at [] ys = ap (λ n. within from to n ys) (omega arith)
    within_append at (x ∷ xs) ys =
        let b = leb from at && leb (at + size x) to in
        ap (keep b x) (within_append (at + size x) xs ys ∙ ap (λ n. within from to (at + size x) xs ++ within from to n ys) (omega arith))
        ∙ keep_append b x (within from to (at + size x) xs) (within from to (at + (size x + total xs)) ys)

  -- where nothing is empty
  module _ (some : (x : A) → 0 < size x) where
    -- tests that agree on what is not empty
    pub alike : (t u : ℕ → ℕ → Bool) → ((a b : ℕ) → a < b → t a b ≡ u a b) → (at : ℕ) (xs : List A) → picked t at xs ≡ picked u at xs
    alike t u e at [] = refl
    alike t u e at (x ∷ xs) =
        ap (λ b. keep b x (picked t (at + size x) xs)) (e at (at + size x) (omega (arith, some x)))
        ∙ ap (keep (u at (at + size x)) x) (alike t u e (at + size x) xs)

    -- those within a stretch, then those that begin behind it, are those of either sort
    pub merged : (from to : ℕ) (t : ℕ → ℕ → Bool) → ((a b : ℕ) → t a b ≡ true → to ≤ a) → (at : ℕ) (xs : List A)
        → within from to at xs ++ picked t at xs ≡ picked (λ a b. inside from to a b || t a b) at xs
    merged from to t later at [] = refl
    merged from to t later at (x ∷ xs) =
        go (leb from at) (leb (at + size x) to) (t at (at + size x)) refl refl (merged from to t later (at + size x) xs)
      where
        n : ℕ
        n = at + size x

        behind : to ≤ at → within from to n xs ++ picked t n xs ≡ picked (λ a b. inside from to a b || t a b) n xs
            → within from to n xs ++ x ∷ picked t n xs ≡ x ∷ picked (λ a b. inside from to a b || t a b) n xs
        behind p ih =
            let none : within from to n xs ≡ [] = beyond from to n xs (omega (arith, some x)) in
            ap (λ l. l ++ x ∷ picked t n xs) none ∙ ap (λ l. x ∷ l) (sym (ap (λ l. l ++ picked t n xs) none) ∙ ih)

        go : (p q r : Bool) → leb n to ≡ q → t at n ≡ r
            → within from to n xs ++ picked t n xs ≡ picked (λ a b. inside from to a b || t a b) n xs
            → keep (p && q) x (within from to n xs) ++ keep r x (picked t n xs) ≡ keep (p && q || r) x (picked (λ a b. inside from to a b || t a b) n xs)
        go true true true e f ih = absurd (omega (arith, some x, leb-true n to e, later at n f))
        go true true false e f ih = ap (λ l. x ∷ l) ih
        go true false false e f ih = ih
        go false q false e f ih = ih
        go true false true e f ih = behind (later at n f) ih
        go false q true e f ih = behind (later at n f) ih
