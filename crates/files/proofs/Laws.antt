-- A word is read digit by digit; a setup's settings are those of its record. Assumes nothing.
use Prim.Native.Nat.{ℕ, suc, ◌+◌, ◌-◌, ◌*◌, ◌≤◌, ◌<◌}
use mathlib.Core.Path.{◌≡◌, refl, ap, sym, ◌∙◌}
use mathlib.Core.Bool.{Bool, true, false, cond}
use mathlib.Core.List.{List, [], ◌∷◌}
use native.Mathlib.Omega.{arith}
use lib.Dec.{eqb, leb}
use lib.ListN.{length, drop, get_or, drop_of_length-le}
use lib.Seq.{drop-cons}
use Rattle.house.specs.Slices.{at_hand, data_in}
use Rattle.house.specs.Setups.{settings_of}
use Rattle.house.specs.declared.Place.TheVariants.{Start}
use Rattle.std.specs.Prelude.{Option, Some, None, Ok}
use Rattle.house.specs.declared.Record.{Record}
use Rattle.house.specs.declared.Setup.{Setup}
use Rattle.files.specs.Reading.{BeginsWith}
use Rattle.files.specs.Word.{is_digit, number_on, word_of}

-- ---- a digit, and those behind it

abbrev on : Option ℕ → List ℕ → Option ℕ
on None bs = None
on (Some m) bs = number_on m bs

by_first : (n b : ℕ) (bs : List ℕ) → number_on n (b ∷ bs) ≡ on (number_on n (b ∷ [])) bs
by_first n b bs = go (is_digit b) (leb (n * 10 + (b - 48)) 18446744073709551615)
  where
    m : ℕ
    m = n * 10 + (b - 48)

    go : (t u : Bool) → cond t (cond u (number_on m bs) None) None ≡ on (cond t (cond u (Some m) None) None) bs
    go true true = refl
    go true false = refl
    go false u = refl

pub read_none : (s : List ℕ) → eqb (length s) 0 ≡ false → number_on 0 (drop 0 s) ≡ word_of s
read_none [] some = cc
read_none (b ∷ bs) some = refl

module _ (s : List ℕ) (n i : ℕ) (before : i < length s) (rest : number_on n (drop i s) ≡ word_of s) where
  onward : on (number_on n (get_or s i 0 ∷ [])) (drop (suc i) s) ≡ word_of s
  onward = sym (by_first n (get_or s i 0) (drop (suc i) s)) ∙ sym (ap (number_on n) (drop-cons s i 0 before)) ∙ rest

  pub read_one : (m : ℕ) → number_on n (get_or s i 0 ∷ []) ≡ Some m → number_on m (drop (i + 1) s) ≡ word_of s
  read_one m is =
      let next : i + 1 ≡ suc i = omega arith in
      rw next (ap (λ (x : Option ℕ). on x (drop (suc i) s)) (sym is) ∙ onward)

  pub read_not : number_on n (get_or s i 0 ∷ []) ≡ None → None ≡ word_of s
  read_not is = ap (λ (x : Option ℕ). on x (drop (suc i) s)) (sym is) ∙ onward

pub read_all : (s : List ℕ) (n i : ℕ) → length s ≤ i → number_on n (drop i s) ≡ word_of s → Some n ≡ word_of s
read_all s n i end rest = sym (ap (number_on n) (drop_of_length-le s end)) ∙ rest

-- ---- a setup

pub begins_with : (d bytes : List ℕ) (said : Record) (r : Option Setup) → at_hand Start d ≡ Ok (Some said) → bytes ≡ data_in said d → r ≡ settings_of bytes → BeginsWith d r
begins_with d bytes said None whole is same = tt
begins_with d bytes said (Some s) whole is same = (said, whole, ap settings_of (sym is) ∙ sym same)
