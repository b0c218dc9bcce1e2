use borrow.Author.Tests.{eq-eqb}
use Rattle.receiver.specs.Words.{phasedb}
use Rattle.receiver.proofs.WordTests.{phased_past, phased_under_way}
use Rattle.receiver.proofs.words.is_phased.Goals as goal

pub returns-then-sort-eq0 : goal.returns-then-sort-eq0
unfolding phasedb
returns-then-sort-eq0 c = simp (eq-eqb _ _ c.if-sort-eq0.true)

pub returns-then-sort-eq1 : goal.returns-then-sort-eq1
unfolding phasedb
returns-then-sort-eq1 c = simp (c.if-sort-eq1.true, c.bound.ensures)

pub returns-then-sort-gt3 : goal.returns-then-sort-gt3
returns-then-sort-gt3 c = phased_past _ _ _ _ _ c.if-sort-gt3.true

pub returns-then-sort-eq2 : goal.returns-then-sort-eq2
unfolding phasedb
returns-then-sort-eq2 c = simp c.if-sort-eq2.true

pub returns : goal.returns
returns c = rw c.is_under_way.ensures (phased_under_way _ _ _ _ _ c.if-sort-eq0.false c.if-sort-eq1.false c.if-sort-eq2.false c.if-sort-gt3.false)
