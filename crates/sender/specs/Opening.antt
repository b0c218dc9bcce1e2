-- Opening a sender (document 01, "Sender"), and what holds of every sender that came from one.
-- Assumes nothing.
use Rattle.std.specs.Prelude.{Bool, cond, ◌&&◌, ℕ, ◌-◌, ◌≤◌, leb, Result, Ok, Err}
use Rattle.queue.specs.declared.Ring.{Ring}
use Rattle.wire.specs.Limits.{allowed}
use Rattle.sender.specs.declared.Sender.{Sender}
use Rattle.sender.specs.declared.Refusal.{Refusal}
use Rattle.sender.specs.Answers.{Given, done, refusal}

-- two queue buffers of at most 1,048,576 bytes each
unfoldable pub small : ℕ → ℕ → Bool
small low ordinary = leb low 1048576 && leb ordinary 1048576

abbrev pub empty : Ring
empty = record { head = 0; len = 0 }

abbrev pub fresh : ℕ → ℕ → ℕ → ℕ → ℕ → Sender
fresh tp stream F low ordinary =
    record {
      setting = record { payload = tp - 4; stream = stream; piece = F; lowspace = low; space = ordinary };
      low = empty;
      ordinary = empty;
      owed = 0;
      rest = 0;
    }

-- 1: a setting or buffer outside its limits at opening; nothing opened
unfoldable pub opened : ℕ → ℕ → ℕ → ℕ → ℕ → Given
opened tp stream F low ordinary =
    cond (allowed tp stream F && small low ordinary) (done (fresh tp stream F low ordinary)) (refusal 1)

-- P is 12 to 2,047, the stream 0 to 15; the queued bytes lie in their buffers; at most 5 fill bytes are owed;
-- the EP under way is queued as far as it is not drawn
pub record Sound (s : Sender) : Type 0 where
  pub payload_least : 12 ≤ s.setting.payload
  pub payload_most : s.setting.payload ≤ 2047
  pub stream : s.setting.stream ≤ 15
  pub piece_least : 1 ≤ s.setting.piece
  pub piece_most : s.setting.piece ≤ 65535
  pub lowspace : s.setting.lowspace ≤ 1048576
  pub space : s.setting.space ≤ 1048576
  pub head_of_low : s.low.head ≤ s.setting.lowspace
  pub low_len : s.low.len ≤ s.setting.lowspace
  pub head : s.ordinary.head ≤ s.setting.space
  pub len : s.ordinary.len ≤ s.setting.space
  pub owed : s.owed ≤ 5
  pub rest : s.rest ≤ s.ordinary.len

abbrev pub SoundAnswer : Result Sender Refusal → Type 0
SoundAnswer (Ok s) = Sound s
SoundAnswer (Err k) = Unit {0}
