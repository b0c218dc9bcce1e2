-- A number's decimal digits: where they are few, the last one, two at a time, and four behind the others. Assumes nothing.
use Prim.Native.Nat.{ℕ, zero, suc, ◌+◌, ◌-◌, ◌*◌, ◌/◌, ◌%◌, ◌^◌, ◌≤◌, ◌<◌}
use mathlib.Core.Path.{◌≡◌, ap, ap₂, sym, ◌∙◌}
use mathlib.Core.Bool.{cond}
use mathlib.Core.List.{List, [], ◌∷◌, ◌++◌, append_assoc}
use native.Mathlib.Omega.{arith}
use lib.Dec.{ltb}
use lib.ListN.{length, take, drop, set, length-set}
use lib.Seq.{set_split}
use Rattle.block.specs.Block.{Block, placed, put}
use Rattle.block.specs.Decimal.{decimal_in, decimal, padded}
use Rattle.block.proofs.Decimals.{last, single, fewer, digits_most, padded_long}
use Rattle.block.proofs.Laws.{fits, length_placed, placed_twice, then, block_of}

-- ---- one digit written, two, and two more

pub one_set : (d : List ℕ) (at v : ℕ) → at < length d → set d at v ≡ placed d at (v ∷ [])
one_set d at v h =
    let next : suc at ≡ at + 1 = omega arith in
    set_split d at v h
    ∙ sym (append_assoc (take at d) (v ∷ []) (drop (suc at) d))
    ∙ ap (λ (k : ℕ). take at d ++ (v ∷ []) ++ drop k d) next

pub next_in : (d : List ℕ) (at v : ℕ) → at + 2 ≤ length d → at + 1 < length (set d at v)
next_in d at v h = omega (arith, length-set d at v)

pub two_set : (d : List ℕ) (at v w : ℕ) → at + 2 ≤ length d → set (set d at v) (at + 1) w ≡ placed d at (v ∷ w ∷ [])
two_set d at v w h =
    let first : set d at v ≡ placed d at (v ∷ []) = one_set d at v (omega arith) in
    let long : length (placed d at (v ∷ [])) ≡ length d = length_placed d at (v ∷ []) (omega arith) in
    ap (λ (x : List ℕ). set x (at + 1) w) first
    ∙ one_set (placed d at (v ∷ [])) (at + 1) w (omega arith)
    ∙ placed_twice d at (v ∷ []) (w ∷ []) (omega arith)

-- the two digits of a pair
pair_is : (n : ℕ) → 256 * (n % 100) + 12336 - 2559 * (n / 10 % 10) ≡ (48 + n / 10 % 10) + 256 * (48 + n % 10)
pair_is n =
    let hundreds : n / 10 / 10 ≡ n / 100 = omega arith in
    let both : n % 100 ≡ 10 * (n / 10 % 10) + n % 10 = omega (arith, hundreds) in
    omega (arith, both)

low_byte : (a b : ℕ) → a < 256 → (a + 256 * b) % 256 ≡ a
low_byte a b h = omega arith

high_byte : (a b : ℕ) → a < 256 → (a + 256 * b) / 256 ≡ b
high_byte a b h = omega arith

pub pair_first : (n : ℕ) → (256 * (n % 100) + 12336 - 2559 * (n / 10 % 10)) % 256 ≡ 48 + n / 10 % 10
pair_first n = ap (λ (x : ℕ). x % 256) (pair_is n) ∙ low_byte (48 + n / 10 % 10) (48 + n % 10) (omega arith)

pub pair_second : (n : ℕ) → (256 * (n % 100) + 12336 - 2559 * (n / 10 % 10)) / 256 ≡ 48 + n % 10
pair_second n = ap (λ (x : ℕ). x / 256) (pair_is n) ∙ high_byte (48 + n / 10 % 10) (48 + n % 10) (omega arith)

pub two_more : (d : List ℕ) (at k n : ℕ) → at + (2 + k) ≤ length d
    → placed (placed d at (padded k (n / 100))) (at + k) (padded 2 n) ≡ placed d at (padded (suc (suc k)) n)
two_more d at k n h =
    let size = padded_long k (n / 100) in
    let front : n / 100 ≡ n / 10 / 10 = omega arith in
    ap (λ (i : ℕ). placed (placed d at (padded k (n / 100))) (at + i) (padded 2 n)) (sym size)
    ∙ placed_twice d at (padded k (n / 100)) (padded 2 n) (omega (arith, size))
    ∙ ap (λ (x : ℕ). placed d at (padded k x ++ padded 2 n)) front
    ∙ ap (placed d at) (sym (append_assoc (padded k (n / 10 / 10)) ((48 + n / 10 % 10) ∷ []) ((48 + n % 10) ∷ [])))

-- ---- a number of one digit to four

one_in : (j n : ℕ) → n < 10 → decimal_in (suc j) n ≡ padded 1 n
one_in j n h = let same : n ≡ n % 10 = omega arith in single j n h ∙ ap (λ (x : ℕ). (48 + x) ∷ []) same

two_in : (j n : ℕ) → 10 ≤ n → n < 100 → decimal_in (suc (suc j)) n ≡ padded 2 n
two_in j n some few = last (suc j) n some ∙ ap (λ (x : List ℕ). x ++ (48 + n % 10) ∷ []) (one_in j (n / 10) (omega arith))

three_in : (j n : ℕ) → 100 ≤ n → n < 1000 → decimal_in (suc (suc (suc j))) n ≡ padded 3 n
three_in j n some few =
    last (suc (suc j)) n (omega arith) ∙ ap (λ (x : List ℕ). x ++ (48 + n % 10) ∷ []) (two_in j (n / 10) (omega arith) (omega arith))

four_in : (j n : ℕ) → 1000 ≤ n → n < 10000 → decimal_in (suc (suc (suc (suc j)))) n ≡ padded 4 n
four_in j n some few =
    last (suc (suc (suc j))) n (omega arith) ∙ ap (λ (x : List ℕ). x ++ (48 + n % 10) ∷ []) (three_in j (n / 10) (omega arith) (omega arith))

pub one_digit : (n : ℕ) → n < 10 → decimal n ≡ padded 1 n
unfolding decimal
one_digit n few = one_in 19 n few

pub two_digits : (n : ℕ) → 10 ≤ n → n < 100 → decimal n ≡ padded 2 n
unfolding decimal
two_digits n some few = two_in 18 n some few

pub three_digits : (n : ℕ) → 100 ≤ n → n < 1000 → decimal n ≡ padded 3 n
unfolding decimal
three_digits n some few = three_in 17 n some few

pub four_digits : (n : ℕ) → 1000 ≤ n → n < 10000 → decimal n ≡ padded 4 n
unfolding decimal
four_digits n some few = four_in 16 n some few

pub as_put : (d y : List ℕ) (at k n : ℕ) → at + k ≤ length d → decimal n ≡ padded k n → y ≡ placed d at (padded k n)
    → block_of y (at + k) ≡ put d at (decimal n)
as_put d y at k n h digits e =
    let size : k ≡ length (decimal n) = sym (ap length digits ∙ padded_long k n) in
    ap (λ (x : List ℕ). block_of x (at + k)) (e ∙ ap (placed d at) (sym digits))
    ∙ ap (λ (i : ℕ). block_of (placed d at (decimal n)) (at + i)) size
    ∙ sym (fits d at (decimal n) (omega (arith, size)))

-- ---- the last digit behind the others, and the last four

-- a larger bound on the digits changes nothing
enough : (f g n : ℕ) → n < 10 ^ suc f → f ≤ g → decimal_in (suc f) n ≡ decimal_in (suc g) n
enough zero g n most le = single zero n (omega arith) ∙ sym (single g n (omega arith))
enough (suc f) zero n most le = absurd (omega arith)
enough (suc f) (suc g) n most le =
    ap (λ (x : List ℕ). cond (ltb n 10) ((48 + n) ∷ []) (x ++ (48 + n % 10) ∷ [])) (enough f g (n / 10) (fewer f n most) (omega arith))

-- the last digit behind the others
pub last_digit : (n : ℕ) → 10 ≤ n → n < 18446744073709551616 → decimal n ≡ decimal (n / 10) ++ (48 + n % 10) ∷ []
unfolding decimal
last_digit n some few =
    let most : n / 10 < 10 ^ suc 18 = omega arith in
    last 19 n some ∙ ap (λ (x : List ℕ). x ++ (48 + n % 10) ∷ []) (enough 18 19 (n / 10) most (omega arith))

pub at_most_eight : (n : ℕ) → n < 100000000 → length (decimal n) ≤ 8
unfolding decimal
at_most_eight n few =
    let most : n < 10 ^ suc 7 = omega arith in
    omega (arith, ap length (enough 7 19 n most (omega arith)), digits_most 8 n)

step : (j n : ℕ) (t : List ℕ) → 10 ≤ n → decimal_in (suc j) n ++ t ≡ decimal_in j (n / 10) ++ ((48 + n % 10) ∷ t)
step j n t some = ap (λ (x : List ℕ). x ++ t) (last j n some) ∙ append_assoc (decimal_in j (n / 10)) ((48 + n % 10) ∷ []) t

-- the last four digits do without the others
shift : (a q c : ℕ) → a ≡ 10 * q + c → a / 10 ≡ q + c / 10
shift a q c e = omega arith

last_same : (a q c : ℕ) → a ≡ 10 * q + c → a % 10 ≡ c % 10
last_same a q c e = omega arith

same_digits : (n : ℕ) → padded 4 n ≡ padded 4 (n % 10000)
same_digits n =
    let q = n / 10000 in
    let r = n % 10000 in
    let e₀ : n ≡ 10 * (1000 * q) + r = omega arith in
    let e₁ : n / 10 ≡ 10 * (100 * q) + r / 10 = omega (arith, shift n (1000 * q) r e₀) in
    let e₂ : n / 10 / 10 ≡ 10 * (10 * q) + r / 10 / 10 = omega (arith, shift (n / 10) (100 * q) (r / 10) e₁) in
    let e₃ : n / 10 / 10 / 10 ≡ 10 * q + r / 10 / 10 / 10 = omega (arith, shift (n / 10 / 10) (10 * q) (r / 10 / 10) e₂) in
    ap₂ (λ (x y : ℕ). (48 + x) ∷ (48 + y) ∷ (48 + n / 10 % 10) ∷ (48 + n % 10) ∷ []) (last_same _ q _ e₃) (last_same _ (10 * q) _ e₂)
    ∙ ap₂ (λ (x y : ℕ). (48 + r / 10 / 10 / 10 % 10) ∷ (48 + r / 10 / 10 % 10) ∷ (48 + x) ∷ (48 + y) ∷ []) (last_same _ (100 * q) _ e₁) (last_same _ (1000 * q) _ e₀)

four_behind : (n : ℕ) → 10000 ≤ n → n < 100000000 → decimal (n / 10000) ++ padded 4 (n % 10000) ≡ decimal n
unfolding decimal
four_behind n some few =
    let front : n / 10 / 10 / 10 / 10 ≡ n / 10000 = omega arith in
    let most : n / 10000 < 10 ^ suc 15 = omega arith in
    sym
    (last 19 n (omega arith)
    ∙ step 18 (n / 10) (padded 1 n) (omega arith)
    ∙ step 17 (n / 10 / 10) (padded 2 n) (omega arith)
    ∙ step 16 (n / 10 / 10 / 10) (padded 3 n) (omega arith)
    ∙ ap (λ (x : ℕ). decimal_in 16 x ++ padded 4 n) front
    ∙ ap (λ (x : List ℕ). x ++ padded 4 n) (enough 15 19 (n / 10000) most (omega arith))
    ∙ ap (λ (x : List ℕ). decimal_in 20 (n / 10000) ++ x) (same_digits n))

module _ (d y : List ℕ) (at r n : ℕ) (room : at + 8 ≤ length d) (some : 10000 ≤ n) (few : n < 100000000)
    (e : block_of y r ≡ put d at (decimal (n / 10000))) where
  short : length (decimal (n / 10000)) ≤ 4
  unfolding decimal
  short =
      let most : n / 10000 < 10 ^ suc 3 = omega arith in
      omega (arith, ap length (enough 3 19 (n / 10000) most (omega arith)), digits_most 4 (n / 10000))

  placed_front : block_of y r ≡ block_of (placed d at (decimal (n / 10000))) (at + length (decimal (n / 10000)))
  placed_front = e ∙ fits d at (decimal (n / 10000)) (omega (arith, short))

  pub four_fit : r + 4 ≤ length y
  four_fit =
      omega (
        arith,
        short,
        ap (λ (k : Block). k.at) placed_front,
        ap (λ (k : Block). length k.bytes) placed_front,
        length_placed d at (decimal (n / 10000)) (omega (arith, short)),
      )

  pub joined_four : (z : List ℕ) → z ≡ placed y r (padded 4 (n % 10000)) → block_of z (r + 4) ≡ put d at (decimal n)
  joined_four z f =
      let second : block_of z (r + 4) ≡ put y r (padded 4 (n % 10000)) =
      ap (λ (x : List ℕ). block_of x (r + 4)) f ∙ sym (fits y r (padded 4 (n % 10000)) (omega (arith, four_fit))) in
      then d y z (decimal (n / 10000)) (padded 4 (n % 10000)) at r (r + 4) (omega (arith, short)) e second
      ∙ ap (put d at) (four_behind n some few)
