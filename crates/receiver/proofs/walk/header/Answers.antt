-- `receiver::walk::header` meets its contract: either the TP ends first, or the header is whole.
-- Assumes nothing.
use borrow.Author.Tests.{le-ltb, lt-ltb}
use Rattle.receiver.specs.Turns.{header_turn}
use Rattle.receiver.proofs.walk.header.Goals as goal

pub returns-then-rest-missing : goal.returns-then-rest-missing
unfolding header_turn
returns-then-rest-missing c = simp (lt-ltb _ _ c.if-rest-missing.true, c.stop.ensures, c.gather-w.ensures)

pub returns : goal.returns
unfolding header_turn
returns c = simp (le-ltb _ _ c.if-rest-missing.false, c.whole.ensures, c.complete-w.ensures)
