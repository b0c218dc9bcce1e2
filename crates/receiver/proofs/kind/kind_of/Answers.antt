-- `receiver::kind::kind_of` meets its contract: the sort of the content, then the fragment.
-- Assumes nothing.
use mathlib.Core.Path.{sym, ◌∙◌}
use Rattle.receiver.specs.Kind.{kind_of}
use Rattle.receiver.proofs.kind.kind_of.Goals as goal

pub returns-in-Fill : goal.returns-in-Fill
unfolding kind_of
returns-in-Fill c = simp (sym c.sort_of.ensures ∙ c.in-Fill.is)

pub returns-in-Known : goal.returns-in-Known
unfolding kind_of
returns-in-Known c = simp (sym c.sort_of.ensures ∙ c.in-Known.is, c.piece_of.ensures)

pub returns-in-Reserved : goal.returns-in-Reserved
unfolding kind_of
returns-in-Reserved c = simp (sym c.sort_of.ensures ∙ c.in-Reserved.is, c.piece_of-in-Reserved.ensures)
