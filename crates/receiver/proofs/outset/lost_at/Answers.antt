-- `receiver::outset::lost_at` meets its contract: which place the notice carries.
-- Assumes nothing.
use borrow.Author.Tests.{eq-eqb, ne_eqb}
use Rattle.receiver.proofs.outset.lost_at.Goals as goal

pub returns-then-number-eq12 : goal.returns-then-number-eq12
returns-then-number-eq12 c = simp (eq-eqb _ _ c.if-number-eq12.true)

pub returns : goal.returns
returns c = simp (ne_eqb _ _ c.if-number-eq12.false, c.start.ensures)
