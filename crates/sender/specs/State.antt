-- What a clause sees of a sender: its setting, its rings and its counts. Assumes nothing.
use Rattle.std.specs.Prelude.{ℕ}
use Rattle.queue.specs.declared.Ring.{Ring}
use Rattle.sender.specs.declared.Setting.{Setting}

pub record State : Type 0 where
  pub setting : Setting
  pub low : Ring
  pub ordinary : Ring
  pub owed : ℕ
  pub rest : ℕ
