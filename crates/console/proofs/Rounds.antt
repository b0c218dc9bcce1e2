-- From round to round of the loop over input blocks: what is left of a stretch, and what is read behind it. Assumes nothing.
use Prim.Native.Nat.{ℕ, ◌+◌, ◌-◌, ◌*◌, ◌≤◌, ◌<◌}
use mathlib.Core.Path.{◌≡◌, ap, sym, ◌∙◌}
use mathlib.Core.List.{List, ◌++◌}
use native.Mathlib.Omega.{arith}
use lib.ListN.{length, take, drop, length-append, length-take, length-drop, take-append-drop}
use Rattle.house.specs.Series.{unread_in}
use Rattle.console.proofs.Onward.{unread_behind}
use Rattle.console.specs.declared.Unread.{Unread}
use Rattle.console.specs.Taking.{till_in, from_in, stretch, behind, Onward}

-- a stretch within its block
pub stretch_is : (d : List ℕ) (u : Unread) → u.from ≤ u.till → u.till ≤ length d → stretch d u ≡ unread_in d u.from u.till
stretch_is d u f t =
    let till : till_in (length d) u ≡ u.till = omega arith in
    let from : from_in (length d) u ≡ u.from = omega arith in
    ap (λ (n : ℕ). take (n - from_in (length d) u) (drop (from_in (length d) u) d)) till ∙ ap (λ (n : ℕ). take (u.till - n) (drop n d)) from

module _ (d : List ℕ) (u : Unread) (n : ℕ) (f : u.from ≤ u.till) (t : u.till ≤ length d) (h : n ≤ length (stretch d u)) where
  -- behind n of its bytes it still begins before its end
  pub behind_fits : u.from + n ≤ u.till
  behind_fits =
      let most : length (unread_in d u.from u.till) ≤ u.till - u.from = rw length-take (omega arith) in
      omega (arith, most, ap length (stretch_is d u f t))

  pub behind_is : drop n (stretch d u) ≡ stretch d (behind u n)
  behind_is =
      ap (drop n) (stretch_is d u f t)
      ∙ unread_behind d u.from u.till n (u.from + n) (omega arith) behind_fits
      ∙ sym (stretch_is d (behind u n) behind_fits t)

-- what is unread is there again, and perhaps more behind it
pub read_behind : List ℕ → Unread → List ℕ → Unread → List ℕ
read_behind d u b v = drop (length (stretch d u)) (stretch b v)

pub goes_behind : (d : List ℕ) (u : Unread) (b : List ℕ) (v : Unread) → Onward d u b v → stretch d u ++ read_behind d u b v ≡ stretch b v
unfolding read_behind
goes_behind d u b v o =
    let x = stretch b v in
    let n = length (stretch d u) in
    ap (λ (z : List ℕ). z ++ drop n x) (sym o.kept) ∙ take-append-drop n x

pub read_most : (d : List ℕ) (u : Unread) (b : List ℕ) (v : Unread) → length (read_behind d u b v) ≤ length b
unfolding read_behind
read_most d u b v = rw (length-drop, length-take, length-drop) (omega arith)

pub both_most : (d : List ℕ) (u : Unread) (b : List ℕ) (v : Unread) → Onward d u b v → length (stretch d u) + length (read_behind d u b v) ≤ length b
both_most d u b v o =
    let all : length (stretch b v) ≤ length b = rw (length-take, length-drop) (omega arith) in
    omega (arith, all, sym (length-append (stretch d u) (read_behind d u b v)) ∙ ap length (goes_behind d u b v o))
