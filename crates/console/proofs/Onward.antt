-- What the loops over the input block stand on: a whole record lies within the stretch at hand, and what was read within the block.
-- Assumes nothing.
use Prim.Native.Nat.{ℕ, ◌+◌, ◌-◌, ◌≤◌}
use mathlib.Core.Path.{◌≡◌, ap, sym, subst, ◌∙◌}
use mathlib.Core.List.{List}
use native.Mathlib.Omega.{arith}
use lib.ListN.{length, take, drop, length-take, length-drop}
use lib.Seq.{drop-drop}
use Rattle.std.specs.Prelude.{Option, Some, Ok}
use Rattle.house.specs.declared.Record.{Record}
use Rattle.house.specs.declared.Place.{Place}
use Rattle.house.specs.Series.{unread_in}
use Rattle.house.specs.Slices.{at_hand, data_in}
use Rattle.house.proofs.Slicing.{whole_fits}
use Rattle.queue.proofs.Copies.{drop_take}
use Rattle.console.specs.declared.Unread.{Unread}
use Rattle.console.specs.declared.Start.{Start}
use Rattle.console.specs.Taking.{Onward, Goes, Begins, Told}

-- the data of a whole record end where the stretch does, or before
pub data_within : (p : Place) (b x : List ℕ) (from till : ℕ) (r : Record) → from ≤ till → at_hand p (take (till - from) (drop from b)) ≡ Ok (Some r) → x ≡ data_in r (take (till - from) (drop from b)) → from + 8 + length x ≤ till
data_within p b x from till r h is e =
    let s = take (till - from) (drop from b) in
    let long : length s ≤ till - from = rw length-take (omega arith) in
    let most : length (data_in r s) ≤ length s - 8 = rw (length-take, length-drop) (omega arith) in
    let same : length x ≡ length (data_in r s) = rw e in
    omega (arith, whole_fits p s r is)

-- what is unread behind a record
pub unread_behind : (block : List ℕ) (from till k to : ℕ) → to ≡ from + k → to ≤ till → drop k (unread_in block from till) ≡ unread_in block to till
unread_behind block from till k to e h =
    let size : till - from ≡ k + (till - to) = omega arith in
    ap (λ (n : ℕ). drop k (take n (drop from block))) size
    ∙ drop_take k (till - to) (drop from block)
    ∙ ap (take (till - to)) (drop-drop k from block)
    ∙ ap (λ (n : ℕ). take (till - to) (drop n block)) (sym e)

-- what `first` and `go_on` promise, once their case is known

pub begins : (d : List ℕ) (z : Start) (r : Option Start) → Told d r → r ≡ Some z → Begins d z.setup z.unread
begins d z r h is = subst (Told d) is h

pub goes_on : (d : List ℕ) (u : Unread) (b : List ℕ) (v : Unread) (r : Option Unread) → Goes d u b r → r ≡ Some v → Onward d u b v
goes_on d u b v r h is = subst (Goes d u b) is h
