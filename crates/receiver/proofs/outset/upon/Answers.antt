-- `receiver::outset::upon` meets its contract: the two cases of the offset.
-- Assumes nothing.
use borrow.Author.Tests.{le-ltb, lt-ltb}
use Rattle.receiver.specs.Outset.{upon_of}
use Rattle.receiver.proofs.outset.upon.Goals as goal

pub returns-then-at-len : goal.returns-then-at-len
unfolding upon_of
returns-then-at-len c = simp (lt-ltb _ _ c.if-at-len.true)

pub returns : goal.returns
unfolding upon_of
returns c = simp (le-ltb _ _ c.if-at-len.false)
