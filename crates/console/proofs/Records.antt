-- Whole records taken from the start of a stretch: none, and one more. Assumes nothing.
use Prim.Native.Nat.{ℕ, ◌+◌, ◌-◌, ◌≤◌}
use mathlib.Core.Path.{◌≡◌, refl, ap, sym, subst, ◌∙◌}
use mathlib.Core.List.{List, [], ◌∷◌, ◌++◌}
use native.Mathlib.Omega.{arith}
use lib.ListN.{length, take, drop, length-drop}
use lib.Seq.{take_all, drop-drop}
use Rattle.std.specs.Prelude.{Option, Some, Result, Ok}
use Rattle.house.specs.declared.Fault.{Fault}
use Rattle.house.specs.declared.Record.{Record}
use Rattle.house.specs.declared.Place.{Place}
use Rattle.house.specs.Records.{length_of}
use Rattle.house.specs.Series.{Taken, nothing, then}
use Rattle.house.specs.Slices.{at_hand, data_in}
use Rattle.house.proofs.Slicing.{whole_fits, whole_data}
use Rattle.console.specs.Taking.{Whole}

pub none_taken : (p : Place) (s : List ℕ) → Whole p s 0
none_taken p s = record { within = omega arith; records = []; taken = nothing }

-- what is left behind k bytes, as a slice has it
abbrev pub rest_of : List ℕ → ℕ → List ℕ
rest_of s k = take (length s - k) (drop k s)

pub rest_is : (s : List ℕ) (k : ℕ) → rest_of s k ≡ drop k s
rest_is s k = take_all (length s - k) (drop k s) (rw length-drop (omega arith))

-- a record read there, with its data
module _ {p : Place} {s x : List ℕ} {k : ℕ} {r : Record} {a : Result (Option Record) Fault} {o : Option Record} (w : Whole p s k) (read : a ≡ at_hand p (rest_of s k)) (is_ok : a ≡ Ok o) (is_some : o ≡ Some r) (data_is : x ≡ data_in r (rest_of s k)) where
  pub at_hand_is : at_hand p (drop k s) ≡ Ok (Some r)
  at_hand_is = ap (at_hand p) (sym (rest_is s k)) ∙ sym read ∙ is_ok ∙ ap Ok is_some

  pub data_at_hand : x ≡ data_in r (drop k s)
  data_at_hand = data_is ∙ ap (data_in r) (rest_is s k)

  pub data_long : length x ≡ length_of r
  data_long = ap length data_at_hand ∙ whole_data p (drop k s) r at_hand_is

  pub record_fits : k + 8 + length x ≤ length s
  record_fits = omega (arith, whole_fits p (drop k s) r at_hand_is, data_long, length-drop k s, w.within)

  pub rest_behind : drop (8 + length_of r) (drop k s) ≡ drop (k + (8 + length x)) s
  rest_behind = drop-drop (8 + length_of r) k s ∙ ap (λ (j : ℕ). drop (k + (8 + j)) s) (sym data_long)

  pub one_more : Whole p s (k + (8 + length x))
  one_more =
      let xs = w.records ++ record { said = r; bytes = data_in r (drop k s) } ∷ [] in
      record { within = omega (arith, record_fits); records = xs; taken = subst (Taken p s xs) rest_behind (then w.taken at_hand_is) }
