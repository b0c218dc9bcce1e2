-- Laws of the first word of a complete EP's header. Assumes nothing.
use Rattle.std.specs.Prelude.{Option, Some, None}
use mathlib.Core.Path.{◌≡◌, refl, sym, ap, ◌∙◌}
use mathlib.Core.Bool.{Bool, true, false}
use mathlib.Core.List.{List, ◌++◌}
use Prim.Native.Nat.{ℕ, ◌+◌, ◌*◌, ◌/◌, ◌%◌, ◌≤◌, ◌<◌}
use native.Mathlib.Omega.{arith}
use lib.Dec.{leb}
use borrow.Author.Tests.{leb-true}
use Rattle.digits.specs.Digits.{digits}
use Rattle.golay.specs.Golay.{code_word}
use Rattle.wire.specs.Wire.{word, first_number, header}
use Rattle.sender.specs.Offering.{known}
use Rattle.sender.specs.Steps.{first_word}
use Rattle.sender.proofs.Bools.{and_left, and_right}

pub known_is : (c : ℕ) → known c ≡ true → (1 ≤ c) × (c ≤ 6)
unfolding known
known_is c e = (leb-true 1 c (and_left (leb 1 c) (leb c 6) e), leb-true c 6 (and_right (leb 1 c) (leb c 6) e))

-- an entry of the table, and a content that has none
pub entry : (c k : ℕ) (r : Option ℕ) → c ≡ k → r ≡ first_word k → r ≡ first_word c
entry c k r here e = e ∙ ap first_word (sym here)

pub no_entry : (c : ℕ) → (1 ≤ c → 6 < c) → None ≡ first_word c
unfolding first_word
no_entry c far = rw (by (known c) refl) refl
  where
    by : (t : Bool) → known c ≡ t → known c ≡ false
    by false e = e
    by true e = let k = known_is c e in let f = far k.0 in absurd (omega arith)

pub is_first : (c : ℕ) → known c ≡ true → first_word c ≡ Some (code_word (c * 64))
unfolding first_word
is_first c k = rw k

pub bytes_entry : (c k : ℕ) (l : List ℕ) → c ≡ k → l ≡ word (k * 64) → l ≡ word (c * 64)
bytes_entry c k l here e = e ∙ ap (λ (z : ℕ). word (z * 64)) (sym here)

pub short_is : (c n : ℕ) → known c ≡ true → n < 4096 → word (c * 64) ++ digits 3 (code_word n) ≡ header c 0 n
unfolding header word first_number
short_is c n k h =
    let m = (known_is c k).1 in
    let f : c % 16 * 64 + 0 % 4 * 16 + n / 4096 % 16 ≡ c * 64 = omega arith in
    let g : n % 4096 ≡ n = omega arith in
    rw (f, g) refl
