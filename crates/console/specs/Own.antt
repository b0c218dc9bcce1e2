-- A program that keeps its buffers in itself (`Program`), in the loop of those that are lent theirs: it is emptied when more is taken.
-- Assumes nothing.
use Rattle.std.specs.Prelude.{ℕ, ◌+◌, ◌≤◌, ◌≡◌, Bool, true, false, List, ◌++◌, length}
use Rattle.console.specs.declared.TheConstants.{SIZE}

-- a program that is written and not yet emptied, before these bytes: when it was written, what it says by `Behind` held of those that were left
pub record Resumes (behind : ℕ → List ℕ → Type 0) (n : ℕ) (unread : List ℕ) : Type 0 where
  -- those that were left, and those read behind them since
  pub rest : List ℕ
  pub more : List ℕ
  pub joined : rest ++ more ≡ unread
  -- an input block has place for both
  pub size : length rest + length more ≤ SIZE
  -- how many might be read then; at least n of them are left
  pub all : ℕ
  pub most : n + length more ≤ all
  pub holds : behind all rest

-- before these bytes are taken, if n more may be read behind them: what it says by `Before`, or will once it is emptied
abbrev pub Comes : Bool → (ℕ → List ℕ → Type 0) → (ℕ → List ℕ → Type 0) → ℕ → List ℕ → Type 0
Comes false before behind n unread = before n unread
Comes true before behind n unread = Resumes behind n unread
