-- What the sender's calls give back and leave behind (document 01, "Numbers given back", 1 to 5).
-- Assumes nothing.
use Rattle.std.specs.Prelude.{Bool, ◌&&◌, List, ℕ, eqb, Result, Ok, Err}
use Rattle.sender.specs.declared.Refusal.{Refusal}
use Rattle.sender.specs.declared.Refusal.TheVariants.{Limits, Content, Long, Full, Buffer}
use Rattle.sender.specs.declared.Setting.{Setting}
use Rattle.sender.specs.declared.Sender.{Sender}

-- document 01's number for each refusal
abbrev pub number : Refusal → ℕ
number Limits = 1
number Content = 2
number Long = 3
number Full = 4
number Buffer = 5

-- what a call gives back: a sender, or document 01's number
pub data Given : Type 0 where
  done : Sender → Given
  refusal : ℕ → Given

-- what an answer says
abbrev pub given_by : Result Sender Refusal → Given
given_by (Ok s) = done s
given_by (Err k) = refusal (number k)

-- what is given back, and the one buffer that the call may write, as it is left
pub record Left : Type 0 where
  pub given : Given
  pub buffer : List ℕ

-- a refusal leaves everything unchanged
abbrev pub refused : ℕ → List ℕ → Left
refused n b = record { given = refusal n; buffer = b }

-- each call takes the buffers of the opening; 1: a buffer of another length than at opening
unfoldable pub lent : Setting → ℕ → ℕ → Bool
lent g low ordinary = eqb low g.lowspace && eqb ordinary g.space
