-- `receiver::low::ends` meets its contract: the three answers of the end byte.
-- Assumes nothing.
use mathlib.Core.Path.{sym, ◌∙◌}
use Rattle.golay.proofs.Ends.{is_end}
use Rattle.receiver.proofs.low.ends.Goals as goal

pub returns-in-Zeros : goal.returns-in-Zeros
returns-in-Zeros c = simp (sym (is_end _ _ c.end_of.ensures) ∙ c.in-Zeros.is)

pub returns-in-Ones : goal.returns-in-Ones
returns-in-Ones c = simp (sym (is_end _ _ c.end_of.ensures) ∙ c.in-Ones.is)

pub returns-in-Neither : goal.returns-in-Neither
returns-in-Neither c = simp (sym (is_end _ _ c.end_of.ensures) ∙ c.in-Neither.is)
