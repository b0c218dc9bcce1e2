-- `receiver::entry::first` meets its contract: which find, or where the payload begins.
-- Assumes nothing.
use Rattle.receiver.proofs.TakingUp.{top_begins}
use mathlib.Core.Path.{sym, ◌∙◌}
use Rattle.receiver.proofs.entry.first.Goals as goal

pub returns-in-Elsewhere : goal.returns-in-Elsewhere
returns-in-Elsewhere c = rw (c.step_same.ensures, c.start.ensures) (top_begins c.args.r c.args.t c.args.tp.now _ (sym c.read_top.ensures ∙ c.in-Elsewhere.is) c.requires.0 c.requires.1)

pub returns-in-Dropped : goal.returns-in-Dropped
returns-in-Dropped c = rw (c.drop_all.ensures, c.counted.ensures) (top_begins c.args.r c.args.t c.args.tp.now _ (sym c.read_top.ensures ∙ c.in-Dropped.is) c.requires.0 c.requires.1)

pub returns-in-Says : goal.returns-in-Says
returns-in-Says c = top_begins c.args.r c.args.t c.args.tp.now _ (sym c.read_top.ensures ∙ c.in-Says.is) c.requires.0 c.requires.1
