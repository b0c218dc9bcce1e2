-- FROM ROUND TO ROUND of the loop over input blocks: before the records of a block and behind them, what the theorem on the whole listing asks
-- for, and what a call needs. Assumes nothing.
use Rattle.std.specs.Prelude.{ℕ, ◌+◌, ◌≤◌, ◌≡◌, List, ◌++◌, length}
use Rattle.listing.specs.Tens.{Kept}
use Rattle.receiver.specs.State.{Able}
use Rattle.receiver.specs.Tp.{Setting}
use Rattle.receiver.specs.Tracks.{Placed}
use Rattle.list_loop.specs.Whole.{setting_of, Begins, Goes}
use Rattle.list_loop.specs.declared.Buffers.{Buffers}
use Rattle.list_loop.specs.declared.Lister.{Lister}
use Rattle.list_loop.specs.declared.Run.{Run}

-- what the loop holds of its own
pub record Callable (p : Lister) (b : Buffers) : Type 0 where
  pub able : Able p.run.receiver
  pub placed : Placed p.run.receiver
  pub ten : Kept p.run.ten
  pub room : 61520 ≤ length b.out

-- before these bytes, with a receiver of these settings: the loop begins, or goes on behind another block
pub data Comes (s : Setting) (unread : List ℕ) (run : Run) (m out : List ℕ) : Type 0 where
  begins : Begins s run m out → Comes s unread run m out
  goes : {input left held : List ℕ} {b : Run} → Goes s input left held b m → (more : List ℕ) → unread ≡ left ++ more
      → run ≡ record { receiver = b.receiver; done = b.done; ten = b.ten; at = 0; from = run.from } → Comes s unread run m out

-- behind the records taken, with these bytes left
pub record Went (s : Setting) (unread : List ℕ) (r : Run) (m : List ℕ) : Type 0 where
  pub input : List ℕ
  pub held : List ℕ
  pub goes_so : Goes s input unread held r m

-- no more TPs are done than the input so far has bytes, of which n more may be read; and from round to round the settings are those of the
-- receiver that the loop began with
pub record Before (begun p : Lister) (b : Buffers) (n : ℕ) (unread : List ℕ) : Type 0 where
  pub ready : Callable p b
  pub size : length unread ≤ 131072
  pub count : p.run.done + length unread + n ≤ 9223372036854775808
  pub comes : Comes (setting_of begun.run.receiver) unread p.run b.room b.out

pub record Behind (begun p : Lister) (b : Buffers) (n : ℕ) (unread : List ℕ) : Type 0 where
  pub ready : Callable p b
  pub count : p.run.done + length unread + n ≤ 9223372036854775808
  pub went : Went (setting_of begun.run.receiver) unread p.run b.room

-- what is opened begins
pub record Opened (p : Lister) (b : Buffers) : Type 0 where
  pub ready : Callable p b
  pub begins : Begins (setting_of p.run.receiver) p.run b.room b.out
