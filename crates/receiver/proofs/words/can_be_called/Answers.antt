-- `receiver::words::can_be_called` meets its contract: bare words fit. Assumes nothing.
use mathlib.Core.Path.{sym, ◌∙◌}
use Rattle.receiver.proofs.Worded.{bare_fits}
use Rattle.receiver.proofs.words.can_be_called.Goals as goal

pub returns-then-is_bare : goal.returns-then-is_bare
returns-then-is_bare c = c.if-is_bare.true ∙ sym (bare_fits _ (sym c.is_bare.ensures ∙ c.if-is_bare.true))
