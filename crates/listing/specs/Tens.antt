-- TP numbers that differ in their last digit alone, and a number that is put with bytes behind it that are to be written over.
-- Assumes nothing.
use Rattle.std.specs.Prelude.{◌≡◌, ℕ, ◌+◌, ◌-◌, ◌/◌, ◌%◌, ◌≤◌, cond, List, [], ◌++◌, length, take, ◌==◌}
use Rattle.block.specs.Block.{placed}
use Rattle.block.specs.Decimal.{decimal}
use Rattle.listing.specs.declared.Ten.{Ten}

-- the digits before the last one, of a number whose tenth is q
abbrev pub heads : ℕ → List ℕ
heads q = cond (q == 0) [] (decimal q)

-- the ten's last number ends in 9, and the text begins with the digits that all ten have before their last one
pub record Kept (t : Ten) : Type 0 where
  pub some : 1 ≤ t.places
  pub few : t.places ≤ 8
  pub eight : length t.text ≡ 8
  pub nine : t.last % 10 ≡ 9
  pub digits : take (t.places - 1) t.text ≡ heads (t.last / 10)

-- a block d in which n was put behind the first `at` bytes: whatever of at least seven bytes is put behind it, no other byte is written
pub record Begun (d : List ℕ) (at n : ℕ) (y : List ℕ) (r : ℕ) : Type 0 where
  pub held : r ≡ at + length (decimal n)
  pub long : length y ≡ length d
  pub over : (w : List ℕ) → 7 ≤ length w → r + length w ≤ length d → placed y r w ≡ placed d at (decimal n ++ w)
