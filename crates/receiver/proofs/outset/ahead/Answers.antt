-- `receiver::outset::ahead` meets its contract: the three clauses of the forecast at a header.
-- Assumes nothing.
use borrow.Author.Tests.{eq-eqb, le-ltb, lt-ltb, ne_eqb}
use Rattle.receiver.specs.InOutset.{ahead_of}
use Rattle.receiver.proofs.outset.ahead.Goals as goal

pub returns-then-have-eq0 : goal.returns-then-have-eq0
unfolding ahead_of
returns-then-have-eq0 c = simp (eq-eqb _ _ c.if-have-eq0.true)

pub returns-then-rest-missing : goal.returns-then-rest-missing
unfolding ahead_of
returns-then-rest-missing c = simp (ne_eqb _ _ c.if-have-eq0.false, lt-ltb _ _ c.if-rest-missing.true)

pub returns : goal.returns
unfolding ahead_of
returns c = simp (ne_eqb _ _ c.if-have-eq0.false, le-ltb _ _ c.if-rest-missing.false, c.behind.ensures, c.gather.ensures)
