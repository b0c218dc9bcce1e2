-- `receiver::lane::top` meets its contract. Assumes nothing.
use lib.ListN.{length}
use borrow.Author.Tests.{eq-eqb, ne_eqb}
use Rattle.receiver.proofs.lane.top.Goals as goal

pub returns-then-tp-r : goal.returns-then-tp-r
returns-then-tp-r c = let a = c.args in rw (ne_eqb (length a.tp.now) a.r.size c.if-tp-r.true)

pub returns : goal.returns
returns c = let a = c.args in rw (eq-eqb (length a.tp.now) a.r.size c.if-tp-r.false) c.read_top.ensures
