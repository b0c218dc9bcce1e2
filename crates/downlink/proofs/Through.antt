-- A packet lies within one stretch of TPs that arrived exactly if every TP from its first byte to its last arrived; and where those from
-- TP k on arrive, if it begins there and ends before what was drawn does. Assumes nothing.
use Prim.Native.Nat.{ℕ, zero, suc, ◌+◌, ◌-◌, ◌≤◌, ◌<◌}
use mathlib.Core.Path.{◌≡◌, refl, sym, ap, ap₂, ◌∙◌}
use mathlib.Core.Bool.{Bool, true, false, cond, ◌&&◌, ◌||◌}
use mathlib.Core.Logic.{⊎_elim}
use mathlib.Core.List.{List, [], ◌∷◌}
use native.Mathlib.Omega.{arith}
use lib.Dec.{leb}
use lib.ListN.{take}
use borrow.Author.Tests.{le-leb, lt-leb, leb-true}
use Rattle.downlink.specs.Demand.{total, begun_there, last_drawn}
use Rattle.downlink.specs.Gaps.{up_to, through}
use Rattle.downlink.proofs.Within.{inside}
use Rattle.downlink.proofs.Lows.{split}
use Rattle.downlink.proofs.Gaps.{unbroken, begins}

-- tests of equal truth
leb_both : (a b c d : ℕ) → (a ≤ b → c ≤ d) → (c ≤ d → a ≤ b) → leb a b ≡ leb c d
leb_both a b c d f g = ⊎_elim (λ p. le-leb a b p ∙ sym (le-leb c d (f p))) (λ p. lt-leb a b p ∙ sym (⊎_elim (λ q. absurd (let z = g q in omega arith)) (λ q. lt-leb c d q) (split c d))) (split a b)

or_false : (b : Bool) → b || false ≡ b
or_false true = refl
or_false false = refl

module _ (arrived : ℕ → Bool) where
  -- begun before the stretch under way
  too_early : (n from to : ℕ) (ms : List ℕ) (a b : ℕ) → from ≤ to → a < from → unbroken arrived n from to ms a b ≡ false
  too_early n from to ms a b p q = go (unbroken arrived n from to ms a b) refl
    where
      go : (x : Bool) → unbroken arrived n from to ms a b ≡ x → x ≡ false
      go true e = absurd (let z = begins arrived n from to ms a b p e in omega arith)
      go false e = refl

  -- begun in it
  begun : (n from to : ℕ) (ms : List ℕ) (a b : ℕ) → from ≤ a → a < to → unbroken arrived n from to ms a b ≡ leb b to || up_to arrived n ms (b - to)
  begun n from to [] a b p q = rw (le-leb from a p) (sym (or_false (leb b to)))
  begun n from to (m ∷ ms) a b p q =
      go (arrived n) (begun (suc n) from (to + m) ms a b p (omega arith)) (too_early (suc n) (to + m) (to + m) ms a b (omega arith) (omega arith))
    where
      go : (x : Bool) → unbroken arrived (suc n) from (to + m) ms a b ≡ leb b (to + m) || up_to arrived (suc n) ms (b - (to + m))
          → unbroken arrived (suc n) (to + m) (to + m) ms a b ≡ false
          → cond x (unbroken arrived (suc n) from (to + m) ms a b) (inside from to a b || unbroken arrived (suc n) (to + m) (to + m) ms a b)
          ≡ leb b to || x && (leb (b - to) m || up_to arrived (suc n) ms (b - to - m))
      go true ih none =
          let e : b - (to + m) ≡ b - to - m = omega arith in
          let f : leb b (to + m) ≡ leb (b - to) m = leb_both b (to + m) (b - to) m (λ h. omega arith) (λ h. omega arith) in
          ih ∙ ap (λ (k : ℕ). leb b (to + m) || up_to arrived (suc n) ms k) e ∙ ap (λ z. z || up_to arrived (suc n) ms (b - to - m)) f
          ∙ ⊎_elim
          (λ h. let g : b - to ≤ m = omega arith in rw (le-leb (b - to) m g, le-leb b to h))
          (λ h. rw (lt-leb b to h))
          (split b to)
      go false ih none = rw (le-leb from a p, none)

  -- begun behind it
  pub through_is : (n from to : ℕ) (ms : List ℕ) (a b : ℕ) → from ≤ to → to ≤ a → a < b
      → unbroken arrived n from to ms a b ≡ through arrived n ms (a - to) (b - to)
  through_is n from to [] a b p q r = rw (le-leb from a (omega arith), lt-leb b to (omega arith))
  through_is n from to (m ∷ ms) a b p q r =
      ⊎_elim
      (λ h. let more : to + m ≤ a = omega arith in far h (arrived n) (through_is (suc n) from (to + m) ms a b (omega arith) more r) (through_is (suc n) (to + m) (to + m) ms a b (omega arith) more r))
      (λ h. let less : a < to + m = omega arith in near h (arrived n) (begun (suc n) from (to + m) ms a b (omega arith) less) (too_early (suc n) (to + m) (to + m) ms a b (omega arith) less))
      (split m (a - to))
    where
      one : Bool → Bool
      one x = cond x (unbroken arrived (suc n) from (to + m) ms a b) (inside from to a b || unbroken arrived (suc n) (to + m) (to + m) ms a b)

      said : Bool → Bool
      said x = cond (leb m (a - to)) (through arrived (suc n) ms (a - to - m) (b - to - m)) (x && (leb (b - to) m || up_to arrived (suc n) ms (b - to - m)))

      none : inside from to a b ≡ false
      none = rw (le-leb from a (omega arith), lt-leb b to (omega arith))

      e : b - (to + m) ≡ b - to - m
      e = omega arith

      far : m ≤ a - to → (x : Bool) → unbroken arrived (suc n) from (to + m) ms a b ≡ through arrived (suc n) ms (a - (to + m)) (b - (to + m))
          → unbroken arrived (suc n) (to + m) (to + m) ms a b ≡ through arrived (suc n) ms (a - (to + m)) (b - (to + m)) → one x ≡ said x
      far h x on new =
          let f : a - (to + m) ≡ a - to - m = omega arith in
          let g = ap₂ (λ (y z : ℕ). through arrived (suc n) ms y z) f e in
          ways x on new ∙ g ∙ sym (ap (λ t. cond t (through arrived (suc n) ms (a - to - m) (b - to - m)) (x && (leb (b - to) m || up_to arrived (suc n) ms (b - to - m)))) (le-leb m (a - to) h))
        where
          ways : (x : Bool) → unbroken arrived (suc n) from (to + m) ms a b ≡ through arrived (suc n) ms (a - (to + m)) (b - (to + m))
              → unbroken arrived (suc n) (to + m) (to + m) ms a b ≡ through arrived (suc n) ms (a - (to + m)) (b - (to + m))
              → one x ≡ through arrived (suc n) ms (a - (to + m)) (b - (to + m))
          ways true on new = on
          ways false on new = ap (λ z. z || unbroken arrived (suc n) (to + m) (to + m) ms a b) none ∙ new

      near : a - to < m → (x : Bool) → unbroken arrived (suc n) from (to + m) ms a b ≡ leb b (to + m) || up_to arrived (suc n) ms (b - (to + m))
          → unbroken arrived (suc n) (to + m) (to + m) ms a b ≡ false → one x ≡ said x
      near h true on new =
          let f : leb b (to + m) ≡ leb (b - to) m = leb_both b (to + m) (b - to) m (λ h. omega arith) (λ h. omega arith) in
          on ∙ ap₂ (λ (y : Bool) (z : ℕ). y || up_to arrived (suc n) ms z) f e
          ∙ sym (ap (λ t. cond t (through arrived (suc n) ms (a - to - m) (b - to - m)) (leb (b - to) m || up_to arrived (suc n) ms (b - to - m))) (lt-leb m (a - to) h))
      near h false on new =
          ap₂ (λ (y z : Bool). y || z) none new
          ∙ sym (ap (λ t. cond t (through arrived (suc n) ms (a - to - m) (b - to - m)) false) (lt-leb m (a - to) h))

  -- what is due was drawn
  up_to_drawn : (n : ℕ) (ms : List ℕ) (b : ℕ) → up_to arrived n ms b ≡ true → b ≤ total ms
  up_to_drawn n [] b h = absurd (let z : ◌≡◌ {A = ℕ} 0 1 = cc in omega arith)
  up_to_drawn n (m ∷ ms) b h = go (arrived n) (leb b m) refl (λ k. up_to_drawn (suc n) ms (b - m) k) h
    where
      go : (x y : Bool) → leb b m ≡ y → (up_to arrived (suc n) ms (b - m) ≡ true → b - m ≤ total ms)
          → x && (y || up_to arrived (suc n) ms (b - m)) ≡ true → b ≤ m + total ms
      go true true e f h = omega (arith, leb-true b m e)
      go true false e f h = omega (arith, f h)
      go false y e f h = absurd (let z : ◌≡◌ {A = ℕ} 0 1 = cc in omega arith)

  pub through_drawn : (n : ℕ) (ms : List ℕ) (a b : ℕ) → through arrived n ms a b ≡ true → b ≤ total ms
  through_drawn n [] a b h = absurd (let z : ◌≡◌ {A = ℕ} 0 1 = cc in omega arith)
  through_drawn n (m ∷ ms) a b h =
      go (leb m a) (arrived n) (leb b m) refl (λ k. through_drawn (suc n) ms (a - m) (b - m) k) (up_to_drawn (suc n) ms (b - m)) h
    where
      go : (w x y : Bool) → leb b m ≡ y → (through arrived (suc n) ms (a - m) (b - m) ≡ true → b - m ≤ total ms)
          → (up_to arrived (suc n) ms (b - m) ≡ true → b - m ≤ total ms)
          → cond w (through arrived (suc n) ms (a - m) (b - m)) (x && (y || up_to arrived (suc n) ms (b - m))) ≡ true → b ≤ m + total ms
      go true x y e f g h = omega (arith, f h)
      go false true true e f g h = omega (arith, leb-true b m e)
      go false true false e f g h = omega (arith, g h)
      go false false y e f g h = absurd (let z : ◌≡◌ {A = ℕ} 0 1 = cc in omega arith)

-- ---- from TP k on

module _ (k : ℕ) where
  -- all that follow arrived
  up_to_on : (n : ℕ) (ms : List ℕ) (b : ℕ) → k ≤ n → 0 < b → up_to (leb k) n ms b ≡ leb b (total ms)
  up_to_on n [] b p q = sym (lt-leb b 0 q)
  up_to_on n (m ∷ ms) b p q =
      ap (λ x. x && (leb b m || up_to (leb k) (suc n) ms (b - m))) (le-leb k n p)
      ∙ ⊎_elim
      (λ h. ap (λ x. x || up_to (leb k) (suc n) ms (b - m)) (le-leb b m h) ∙ sym (le-leb b (m + total ms) (omega arith)))
      (λ h. ap (λ x. x || up_to (leb k) (suc n) ms (b - m)) (lt-leb b m h) ∙ up_to_on (suc n) ms (b - m) (omega arith) (omega arith)
      ∙ leb_both (b - m) (total ms) b (m + total ms) (λ z. omega arith) (λ z. omega arith))
      (split b m)

  through_on : (n : ℕ) (ms : List ℕ) (a b : ℕ) → k ≤ n → a < b → through (leb k) n ms a b ≡ leb b (total ms)
  through_on n [] a b p q = sym (lt-leb b 0 (omega arith))
  through_on n (m ∷ ms) a b p q =
      ⊎_elim
      (λ h. ap (λ x. cond x (through (leb k) (suc n) ms (a - m) (b - m)) (up_to (leb k) n (m ∷ ms) b)) (le-leb m a h)
      ∙ through_on (suc n) ms (a - m) (b - m) (omega arith) (omega arith)
      ∙ leb_both (b - m) (total ms) b (m + total ms) (λ z. omega arith) (λ z. omega arith))
      (λ h. ap (λ x. cond x (through (leb k) (suc n) ms (a - m) (b - m)) (up_to (leb k) n (m ∷ ms) b)) (lt-leb m a h) ∙ up_to_on n (m ∷ ms) b p (omega arith))
      (split m a)

  pub from_k : (n j : ℕ) (ms : List ℕ) (a b : ℕ) → k ≡ n + j → a < b
      → through (leb k) n ms a b ≡ begun_there (total (take j ms)) a && last_drawn (total ms) b
  from_k n zero ms a b p q = through_on n ms a b (omega arith) q ∙ sym (ap (λ x. x && leb b (total ms)) (le-leb 0 a (omega arith)))
  from_k n (suc j) [] a b p q = sym (ap (λ x. x && leb b 0) (le-leb 0 a (omega arith)) ∙ lt-leb b 0 (omega arith))
  from_k n (suc j) (m ∷ ms) a b p q =
      let early : leb k n ≡ false = lt-leb k n (omega arith) in
      ⊎_elim
      (λ h. ap (λ x. cond x (through (leb k) (suc n) ms (a - m) (b - m)) (up_to (leb k) n (m ∷ ms) b)) (le-leb m a h)
      ∙ from_k (suc n) j ms (a - m) (b - m) (omega arith) (omega arith)
      ∙ ap₂ (λ (x y : Bool). x && y)
      (leb_both (total (take j ms)) (a - m) (m + total (take j ms)) a (λ z. omega arith) (λ z. omega arith))
      (leb_both (b - m) (total ms) b (m + total ms) (λ z. omega arith) (λ z. omega arith)))
      (λ h. ap (λ x. cond x (through (leb k) (suc n) ms (a - m) (b - m)) (up_to (leb k) n (m ∷ ms) b)) (lt-leb m a h)
      ∙ ap (λ x. x && (leb b m || up_to (leb k) (suc n) ms (b - m))) early
      ∙ sym (ap (λ x. x && leb b (m + total ms)) (lt-leb (m + total (take j ms)) a (omega arith))))
      (split m a)
