use borrow.Author.Tests.{eq-eqb, ne_eqb}
use Rattle.receiver.specs.Words.{roomyb}
use Rattle.receiver.proofs.words.is_roomy.Goals as goal

pub returns-then-sort-eq0 : goal.returns-then-sort-eq0
unfolding roomyb
returns-then-sort-eq0 c = simp (eq-eqb _ _ c.if-sort-eq0.true)

pub returns-then-sort-ne1 : goal.returns-then-sort-ne1
unfolding roomyb
returns-then-sort-ne1 c = simp (ne_eqb _ _ c.if-sort-eq0.false, ne_eqb _ _ c.if-sort-ne1.true)

pub returns : goal.returns
unfolding roomyb
returns c = simp (c.if-sort-ne1.false, c.is_within.ensures)
