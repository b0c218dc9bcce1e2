-- An output block: what is put goes behind the bytes that it holds, whole or not at all. Assumes nothing.
use Rattle.std.specs.Prelude.{ℕ, ◌+◌, cond, List, ◌++◌, leb, length, take, drop}

-- the block's bytes, and how many of them are held
pub record Block : Type 0 where
  pub bytes : List ℕ
  pub at : ℕ

-- the block d with s behind its first n bytes: no other byte is written
abbrev pub placed : List ℕ → ℕ → List ℕ → List ℕ
placed d n s = take n d ++ s ++ drop (n + length s) d

unfoldable pub put : List ℕ → ℕ → List ℕ → Block
put d n s =
    cond (leb (n + length s) (length d))
    (record { bytes = placed d n s; at = n + length s })
    (record { bytes = d; at = n })
