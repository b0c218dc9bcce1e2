-- `house::setups::read_setup` meets its contract: at each return the tests that led there say which case holds.
-- Assumes nothing.
use mathlib.Core.Path.{sym, ◌∙◌}
use borrow.Author.Tests.{eq-eqb, ne_eqb}
use Rattle.house.specs.Setups.{settings_of}
use Rattle.house.proofs.setups.read_setup.Goals as goal

pub returns-then-data-ne5 : goal.returns-then-data-ne5
unfolding settings_of
returns-then-data-ne5 c = rw (ne_eqb _ _ c.if-data-ne5.true)

pub returns-then-not-is_allowed : goal.returns-then-not-is_allowed
unfolding settings_of
returns-then-not-is_allowed c = rw (eq-eqb _ _ c.if-data-ne5.false, ← c.from_two-tp.ensures, ← c.from_two-piece.ensures, sym c.is_allowed.ensures ∙ c.if-not-is_allowed.true)

pub returns : goal.returns
unfolding settings_of
returns c = rw (eq-eqb _ _ c.if-data-ne5.false, ← c.from_two-tp.ensures, ← c.from_two-piece.ensures, sym c.is_allowed.ensures ∙ c.if-not-is_allowed.false)
