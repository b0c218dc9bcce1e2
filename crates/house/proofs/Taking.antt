-- Records one behind the other: some, then others; and with more bytes behind them. Assumes nothing.
use Prim.Native.Nat.{ℕ, ◌+◌}
use mathlib.Core.Path.{sym, subst}
use mathlib.Core.List.{List, [], ◌∷◌, ◌++◌, append_assoc, append-nil}
use lib.ListN.{drop}
use lib.Seq.{drop-append-le}
use Rattle.house.specs.declared.Place.{Place}
use Rattle.house.specs.Records.{length_of}
use Rattle.house.specs.Series.{Item, Taken, nothing, then}
use Rattle.house.specs.Slices.{data_in}
use Rattle.house.proofs.Slicing.{whole_fits, more_whole, more_data}

pub taken_then : {p : Place} {s : List ℕ} {xs : List Item} {t : List ℕ} {ys : List Item} {u : List ℕ} → Taken p s xs t → Taken p t ys u → Taken p s (xs ++ ys) u
taken_then {p} {s} {xs} {t} a nothing = subst (λ (zs : List Item). Taken p s zs t) (sym (append-nil xs)) a
taken_then {p} {s} {xs} a (then {xs = ys} {t = u} {r = r} b whole) =
    let x : Item = record { said = r; bytes = data_in r u } in
    subst (λ (zs : List Item). Taken p s zs (drop (8 + length_of r) u)) (append_assoc xs ys (x ∷ [])) (then (taken_then a b) whole)

pub taken_more : {p : Place} {s : List ℕ} {xs : List Item} {t : List ℕ} → Taken p s xs t → (more : List ℕ) → Taken p (s ++ more) xs (t ++ more)
taken_more nothing more = nothing
taken_more {p} {s} (then {xs = xs} {t = t} {r = r} a whole) more =
    let fits = whole_fits p t r whole in
    let on = then (taken_more a more) (more_whole p t more r whole) in
    subst (λ (u : List ℕ). Taken p (s ++ more) (xs ++ record { said = r; bytes = data_in r t } ∷ []) u) (drop-append-le (8 + length_of r) t more fits)
    (subst (λ (d : List ℕ). Taken p (s ++ more) (xs ++ record { said = r; bytes = d } ∷ []) (drop (8 + length_of r) (t ++ more))) (more_data p t more r whole) on)
