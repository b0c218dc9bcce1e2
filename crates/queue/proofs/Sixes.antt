-- Laws of six bytes read at once. Assumes nothing.
use mathlib.Core.Path.{◌≡◌, refl, sym, ap, ◌∙◌}
use mathlib.Core.Bool.{cond}
use mathlib.Core.Logic.{⊎_elim}
use mathlib.Core.List.{List, [], ◌∷◌}
use Prim.Native.Nat.{ℕ, ◌+◌, ◌-◌, ◌≤◌}
use native.Mathlib.Nat.{add-zero}
use native.Mathlib.Omega.{arith}
use lib.Dec.{leb}
use lib.ListN.{length, take, drop, get_or, length-drop}
use lib.Seq.{take-take, take-append-le, drop-append-le, drop-drop, get_or-drop}
use Rattle.queue.specs.declared.Ring.{Ring}
use Rattle.queue.specs.Ring.{around, held, Kept}
use Rattle.queue.proofs.Copies.{drop_take, drop_past}
use Rattle.queue.proofs.Runs.{placed}

-- a list's first six elements, by one
pub six : (s : List ℕ) → 6 ≤ length s → get_or s 0 0 ∷ get_or s 1 0 ∷ get_or s 2 0 ∷ get_or s 3 0 ∷ get_or s 4 0 ∷ get_or s 5 0 ∷ [] ≡ take 6 s
six [] h = absurd (omega arith)
six (a ∷ []) h = absurd (omega arith)
six (a ∷ b ∷ []) h = absurd (omega arith)
six (a ∷ b ∷ c ∷ []) h = absurd (omega arith)
six (a ∷ b ∷ c ∷ d ∷ []) h = absurd (omega arith)
six (a ∷ b ∷ c ∷ d ∷ e ∷ []) h = absurd (omega arith)
six (a ∷ b ∷ c ∷ d ∷ e ∷ f ∷ s) h = refl

pub six_from : (s : List ℕ) (i : ℕ) → i + 6 ≤ length s
    → get_or s i 0 ∷ get_or s (i + 1) 0 ∷ get_or s (i + 2) 0 ∷ get_or s (i + 3) 0 ∷ get_or s (i + 4) 0 ∷ get_or s (i + 5) 0 ∷ [] ≡ take 6 (drop i s)
six_from s i h =
    let l = length-drop i s in
    ap (λ (n : ℕ). get_or s n 0 ∷ get_or s (i + 1) 0 ∷ get_or s (i + 2) 0 ∷ get_or s (i + 3) 0 ∷ get_or s (i + 4) 0 ∷ get_or s (i + 5) 0 ∷ []) (sym (add-zero i))
    ∙ rw (← get_or-drop i s 0 0, ← get_or-drop i s 1 0, ← get_or-drop i s 2 0, ← get_or-drop i s 3 0, ← get_or-drop i s 4 0, ← get_or-drop i s 5 0) (six (drop i s) (omega arith))

-- n bytes of what is held that lie in one run, before the buffer's end and past it
module _ (b : List ℕ) (q : Ring) (i n m : ℕ) (e : q.len ≡ i + m) (p : n ≤ m) where
  cut : take n (drop i (held b q)) ≡ take n (drop i (around b q.head))
  unfolding held
  cut = rw (e, drop_take i m (around b q.head), take-take n m (drop i (around b q.head)) p)

  pub run_before : i + n ≤ length b - q.head → take n (drop (q.head + i) b) ≡ take n (drop i (held b q))
  unfolding around
  run_before h =
      let l = length-drop q.head b in
      let r : i ≤ length (drop q.head b) = omega arith in
      let k : n ≤ length (drop (q.head + i) b) = omega (arith, length-drop (q.head + i) b) in
      sym (cut ∙ rw (drop-append-le i (drop q.head b) (take q.head b) r, drop-drop i q.head b, take-append-le n (drop (q.head + i) b) (take q.head b) k))

  pub run_past : (j k : ℕ) → i ≡ length b - q.head + j → q.head ≡ j + k → n ≤ k → take n (drop j b) ≡ take n (drop i (held b q))
  unfolding around
  run_past j k f g h =
      let l = length-drop q.head b in
      sym (cut ∙ rw (drop_past (drop q.head b) (take q.head b) i j (omega arith), g, drop_take j k b, take-take n k (drop j b) h))

-- the same by the place's index
pub run_held : (b : List ℕ) (q : Ring) (i n at : ℕ) → Kept b q → i + n ≤ q.len
    → at ≡ cond (leb (length b) (q.head + i)) (q.head + i - length b) (q.head + i) → at + n ≤ length b
    → take n (drop at b) ≡ take n (drop i (held b q))
run_held b q i n at w p a r =
    let wh = w.head in
    let wl = w.len in
    ⊎_elim
    (λ g. run_past b q i n (q.len - i) (omega arith) (omega arith) at (q.head - at) (omega arith) (omega arith) (omega arith))
    (λ g. ap (λ (z : ℕ). take n (drop z b)) g.0 ∙ run_before b q i n (q.len - i) (omega arith) (omega arith) (omega arith))
    (placed (length b) q.head i wh at a)
