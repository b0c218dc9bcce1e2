-- `receiver::pieces::read` meets its contract by what it calls.
-- Assumes nothing.
use Rattle.receiver.proofs.pieces.read.Goals as goal

pub returns : goal.returns
returns c = rw (c.piece_of.ensures, c.role_of.ensures)
