-- The number behind a parity in one lookup, and a number's parity in three: what as many bits as there are rows choose of them
-- stands in a table, of all rows or of a group. Assumes nothing.
use mathlib.Core.Path.{◌≡◌, refl, sym, ap, ap₂, ◌∙◌}
use mathlib.Core.List.{List, [], ◌∷◌, ◌++◌}
use Prim.Native.Nat.{ℕ, ◌+◌, ◌*◌, ◌/◌, ◌%◌, ◌^◌}
use native.Mathlib.Nat.{mod-lt, mod-eq_of_lt, zero-add, add_comm}
use native.Mathlib.Numerals.{one-add}
use lib.Bits.{bit_xor}
use lib.Pow.{pow_pos, shr-shr, field, mod-mod-pow}
use lib.ListN.{length, get_or, length-append}
use lib.Dec.{T, eqb, eqb→eq}
use mathlib.Core.Bool.{Bool}
use Rattle.golay.specs.Golay.{chosen}
use Rattle.golay.proofs.Test.{each, passed}
use Rattle.golay.proofs.Xor.{xor_assoc}

-- rows one after the other are chosen by bits one after the other
split : (xs ys : List ℕ) (n : ℕ) → chosen (xs ++ ys) n ≡ bit_xor (chosen xs (n / 2 ^ length ys)) (chosen ys n)
unfolding chosen
split [] ys n = refl
split (r ∷ xs) ys n =
    let place : n / 2 ^ length (xs ++ ys) ≡ n / 2 ^ length ys / 2 ^ length xs =
    ap (λ (k : ℕ). n / 2 ^ k) (length-append xs ys ∙ add_comm (length xs) (length ys)) ∙ sym (shr-shr n (length ys) (length xs)) in
    ap₂ (λ (x y : ℕ). bit_xor (x % 2 * r) y) place (split xs ys n)
    ∙ sym (xor_assoc (n / 2 ^ length ys / 2 ^ length xs % 2 * r) (chosen xs (n / 2 ^ length ys)) (chosen ys n))

-- as many low bits choose as there are rows
same_bits : (rs : List ℕ) (n m : ℕ) → n % 2 ^ length rs ≡ m % 2 ^ length rs → chosen rs n ≡ chosen rs m
unfolding chosen
same_bits [] n m h = refl
same_bits (r ∷ rs) n m h =
    let k = length rs in
    let e : n % 2 ^ (1 + k) ≡ m % 2 ^ (1 + k) = rw (one-add k) h in
    ap₂ (λ (x y : ℕ). bit_xor (x * r) y) (sym (field n 1 k) ∙ ap (λ (x : ℕ). x / 2 ^ k) e ∙ field m 1 k)
    (same_bits rs n m (sym (mod-mod-pow n 1 k) ∙ ap (λ (x : ℕ). x % 2 ^ k) e ∙ mod-mod-pow m 1 k))

-- the b low bits of n choose the same as n of b rows
pub at : (b : ℕ) (rs : List ℕ) (n : ℕ) → length rs ≡ b → chosen rs (n % 2 ^ b) ≡ chosen rs n
at b rs n long = same_bits rs (n % 2 ^ b) n (rw long (mod-eq_of_lt (mod-lt n (pow_pos b))))

-- a table has at each number what its b bits choose of b rows
unfoldable pub chooses : List ℕ → ℕ → ℕ → Bool
chooses rs k x = eqb x (chosen rs k)

-- so it has at the b low bits of n what these choose
pub looked_up : (b : ℕ) (rs xs : List ℕ) (n : ℕ) → length rs ≡ b → length xs ≡ 2 ^ b → T (each (chooses rs) 0 xs) → get_or xs (n % 2 ^ b) 0 ≡ chosen rs n
unfolding chooses
looked_up b rs xs n long many all =
    let k = n % 2 ^ b in
    let t : T (eqb (get_or xs k 0) (chosen rs k)) = rw (zero-add k) at (passed (chooses rs) xs 0 all k (rw many (mod-lt n (pow_pos b)))) in
    eqb→eq (get_or xs k 0) (chosen rs k) t ∙ at b rs n long

-- rows fall into two groups
pub in_two : (b : ℕ) (xs ys : List ℕ) (n c d : ℕ) → length ys ≡ b
    → c ≡ chosen xs (n / 2 ^ b) → d ≡ chosen ys n → bit_xor c d ≡ chosen (xs ++ ys) n
in_two b xs ys n c d long e f = ap₂ bit_xor e f ∙ sym (rw long at (split xs ys n))

-- twelve rows fall into three groups of four, chosen by bits 11 to 8, 7 to 4 and 3 to 0
pub in_three : (xs ys zs : List ℕ) (n a b c : ℕ) → length ys ≡ 4 → length zs ≡ 4
    → a ≡ chosen xs (n / 256) → b ≡ chosen ys (n / 16) → c ≡ chosen zs n → bit_xor (bit_xor a b) c ≡ chosen (xs ++ (ys ++ zs)) n
in_three xs ys zs n a b c four-y four-z d e f =
    let eight : length (ys ++ zs) ≡ 8 = length-append ys zs ∙ ap₂ ◌+◌ four-y four-z in
    xor_assoc a b c ∙ in_two 8 xs (ys ++ zs) n a (bit_xor b c) eight d (in_two 4 ys zs n b c four-z e f)
