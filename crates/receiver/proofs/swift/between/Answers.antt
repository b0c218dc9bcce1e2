-- `receiver::swift::between` meets its contract.
-- Assumes nothing.
use Rattle.receiver.proofs.swift.between.Goals as goal

pub returns : goal.returns
returns c = rw (c.start.ensures, c.own.ensures)
