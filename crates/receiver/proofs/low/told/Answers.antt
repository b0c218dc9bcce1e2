-- `receiver::low::told` meets its contract: each kind is one of the definition's cases.
-- Assumes nothing.
use mathlib.Core.Path.{sym, ◌∙◌}
use Rattle.receiver.proofs.low.told.Goals as goal

pub returns-in-Fill : goal.returns-in-Fill
returns-in-Fill c = simp (sym c.kind_of.ensures ∙ c.in-Fill.is)

pub returns-in-Reserved : goal.returns-in-Reserved
returns-in-Reserved c = simp (sym c.kind_of.ensures ∙ c.in-Reserved.is)

pub returns-in-Complete : goal.returns-in-Complete
returns-in-Complete c = simp (sym c.kind_of.ensures ∙ c.in-Complete.is)

pub returns-in-First : goal.returns-in-First
returns-in-First c = simp (sym c.kind_of.ensures ∙ c.in-First.is)

pub returns-in-Middle : goal.returns-in-Middle
returns-in-Middle c = simp (sym c.kind_of.ensures ∙ c.in-Middle.is)

pub returns-in-Last : goal.returns-in-Last
returns-in-Last c = simp (sym c.kind_of.ensures ∙ c.in-Last.is)
