-- `receiver::low::closed` meets its contract: the end byte lies within the bytes, or the LLEP is broken.
-- Assumes nothing.
use Rattle.receiver.proofs.Walking.{closed_in, closed_out}
use Rattle.receiver.proofs.low.closed.Goals as goal

pub returns-then-tp-at : goal.returns-then-tp-at
returns-then-tp-at c =
    let a = c.args in
    closed_out a.tp.now a.at a.header c.requires.0 c.if-tp-at.true

pub returns : goal.returns
returns c =
    let a = c.args in
    rw (c.ends.ensures, c.counted.ensures) (closed_in a.tp.now a.at a.header c.requires.0 c.if-tp-at.false)
