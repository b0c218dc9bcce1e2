use borrow.Author.Tests.{eq-eqb}
use Rattle.receiver.specs.Words.{stagedb}
use Rattle.receiver.proofs.WordTests.{staged_begun, staged_past}
use Rattle.receiver.proofs.words.is_staged.Goals as goal

pub returns-then-sort-eq0 : goal.returns-then-sort-eq0
unfolding stagedb
returns-then-sort-eq0 c = simp (eq-eqb _ _ c.if-sort-eq0.true)

pub returns-then-sort-eq3 : goal.returns-then-sort-eq3
unfolding stagedb
returns-then-sort-eq3 c = simp c.if-sort-eq3.true

pub returns-then-sort-gt3 : goal.returns-then-sort-gt3
returns-then-sort-gt3 c = staged_past _ _ _ c.if-sort-gt3.true

pub returns : goal.returns
returns c = rw c.is_begun.ensures (staged_begun _ _ _ c.if-sort-eq0.false c.if-sort-eq3.false c.if-sort-gt3.false)
