-- `receiver::judge::finish` meets its contract: each kind is one of the definition's cases.
-- Assumes nothing.
use mathlib.Core.Path.{sym, ◌∙◌}
use Rattle.receiver.proofs.judge.finish.Goals as goal

pub returns-in-Fill : goal.returns-in-Fill
returns-in-Fill c = simp (sym c.kind_of.ensures ∙ c.in-Fill.is, c.more.ensures)

pub returns-in-Reserved : goal.returns-in-Reserved
returns-in-Reserved c = simp (sym c.kind_of.ensures ∙ c.in-Reserved.is, c.more-in-Reserved.ensures)

pub returns-in-Complete : goal.returns-in-Complete
returns-in-Complete c = simp (sym c.kind_of.ensures ∙ c.in-Complete.is, c.handed.ensures)

pub returns-in-First : goal.returns-in-First
returns-in-First c = simp (sym c.kind_of.ensures ∙ c.in-First.is, c.more-in-First.ensures)

pub returns-in-Middle : goal.returns-in-Middle
returns-in-Middle c = simp (sym c.kind_of.ensures ∙ c.in-Middle.is, c.more-in-Middle.ensures)

pub returns-in-Last : goal.returns-in-Last
returns-in-Last c = simp (sym c.kind_of.ensures ∙ c.in-Last.is, c.handed-in-Last.ensures)
