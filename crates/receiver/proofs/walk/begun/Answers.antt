-- `receiver::walk::begun` meets its contract: here if no byte is read.
-- Assumes nothing.
use borrow.Author.Tests.{eq-eqb, ne_eqb}
use Rattle.receiver.proofs.walk.begun.Goals as goal

pub returns-then-have-eq0 : goal.returns-then-have-eq0
returns-then-have-eq0 c = simp (eq-eqb _ _ c.if-have-eq0.true, c.of.ensures)

pub returns : goal.returns
returns c = simp (ne_eqb _ _ c.if-have-eq0.false)
