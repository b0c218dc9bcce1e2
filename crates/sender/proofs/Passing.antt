-- What a check's answer tells, and what `?` passes on. Assumes nothing.
use Rattle.std.specs.Prelude.{◌≡◌, refl, Bool, true, false, Result, Ok, Err, ⊤, Option, Some, ℕ, zero, suc}
use mathlib.Core.Path.{ap}
use Prim.Native.Nat.{◌<◌}
use native.Mathlib.Omega.{arith}
use Rattle.std.specs.Result.{IsErrAnd}
use Rattle.sender.specs.declared.Refusal.{Refusal}
use Rattle.sender.specs.Answers.{number}
use Rattle.sender.specs.Steps.{checked, found}

-- the exit of a `?` gives the error itself
pub passed : {T E : Type 0} (r : Result T E) (e : E) → IsErrAnd r (λ y. y ≡ e) → r ≡ Err e
passed (Ok x) e h = absurd h
passed (Err y) e h = ap Err h

abbrev pub number_in : Result ⊤ Refusal → ℕ
number_in (Ok u) = 0
number_in (Err k) = number k

abbrev pub is_no : Result ⊤ Refusal → ℕ
is_no (Ok u) = 0
is_no (Err k) = 1

pub found_is : (m n : ℕ) → found m ≡ Some n → (n ≡ m) × (n ≡ 0 → ⊥)
found_is zero n e = (cc, cc)
found_is (suc m) n e = (cc, λ z. cc)

pub found_none : (m : ℕ) (r : Option ℕ) → r ≡ found m → ((n : ℕ) → r ≡ Some n → ⊥) → m ≡ 0
found_none zero r e f = refl
found_none (suc m) r e f = absurd (f (suc m) e)

pub found_some : (n : ℕ) → 0 < n → Some n ≡ found n
found_some zero h = absurd (omega arith)
found_some (suc n) h = refl

pub held_of : (t : Bool) (k l : Refusal) → checked t k ≡ Err l → (t ≡ true) × (l ≡ k)
held_of true k l e = (refl, cc)
held_of false k l e = (cc, cc)
