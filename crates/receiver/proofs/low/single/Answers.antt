-- `receiver::low::single` meets its contract: an LLEP broken or passed.
-- Assumes nothing.
use mathlib.Core.Path.{sym, ◌∙◌}
use Rattle.receiver.proofs.Walking.{inside_at}
use Rattle.receiver.proofs.low.single.Goals as goal

pub passed-requires : goal.passed-requires
passed-requires c =
    let a = c.args in
    inside_at a.tp.now a.at _ _ (sym c.item.ensures ∙ c.in-Some.is)

pub returns-in-None : goal.returns-in-None
returns-in-None c = simp (sym c.item.ensures ∙ c.in-None.is)

pub returns-in-Some : goal.returns-in-Some
returns-in-Some c = simp (sym c.item.ensures ∙ c.in-Some.is, c.passed.ensures)
