-- `receiver::words::is_dataless` meets its contract. Assumes nothing.
use borrow.Author.Tests.{eq-eqb, ne_eqb}
use Rattle.receiver.specs.Words.{datalessb}
use Rattle.receiver.proofs.words.is_dataless.Goals as goal

pub returns-then-sort-eq1 : goal.returns-then-sort-eq1
unfolding datalessb
returns-then-sort-eq1 c = simp (eq-eqb _ _ c.if-sort-eq1.true, c.bound.ensures)

pub returns : goal.returns
unfolding datalessb
returns c = simp (ne_eqb _ _ c.if-sort-eq1.false)
