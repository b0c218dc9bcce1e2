-- `receiver::swift::nothing` meets its contract.
-- Assumes nothing.
use Rattle.receiver.proofs.swift.nothing.Goals as goal

pub returns : goal.returns
returns c = rw (c.start-at.ensures, c.own.ensures)
