-- `receiver::outset::place_of` meets its contract: the three tests of the offset.
-- Assumes nothing.
use borrow.Author.Tests.{eq-eqb, le-leb, le-ltb, lt-leb, lt-ltb, ne_eqb}
use Rattle.receiver.specs.Outset.{place_of}
use Rattle.receiver.proofs.outset.place_of.Goals as goal

pub returns-then-offset-eq2047 : goal.returns-then-offset-eq2047
unfolding place_of
returns-then-offset-eq2047 c = simp (eq-eqb _ _ c.if-offset-eq2047.true)

pub returns-then-len-offset : goal.returns-then-len-offset
unfolding place_of
returns-then-len-offset c = simp (ne_eqb _ _ c.if-offset-eq2047.false, le-leb _ _ c.if-len-offset.true)

pub returns-then-offset-at : goal.returns-then-offset-at
unfolding place_of
returns-then-offset-at c = simp (ne_eqb _ _ c.if-offset-eq2047.false, lt-leb _ _ c.if-len-offset.false, lt-ltb _ _ c.if-offset-at.true)

pub returns : goal.returns
unfolding place_of
returns c = simp (ne_eqb _ _ c.if-offset-eq2047.false, lt-leb _ _ c.if-len-offset.false, le-ltb _ _ c.if-offset-at.false)
