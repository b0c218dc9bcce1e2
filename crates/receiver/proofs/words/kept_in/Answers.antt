use borrow.Author.Tests.{eq-eqb, ne_eqb}
use Rattle.receiver.specs.Words.{kept_in}
use Rattle.receiver.proofs.words.kept_in.Goals as goal

pub returns-then-sort-eq0 : goal.returns-then-sort-eq0
unfolding kept_in
returns-then-sort-eq0 c = simp (eq-eqb _ _ c.if-sort-eq0.true)

pub returns : goal.returns
unfolding kept_in
returns c = simp (ne_eqb _ _ c.if-sort-eq0.false, c.narrow.ensures)
