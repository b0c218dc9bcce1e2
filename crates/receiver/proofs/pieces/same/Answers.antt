-- `receiver::pieces::same` meets its contract: nothing is read.
-- Assumes nothing.
use Rattle.receiver.proofs.pieces.same.Goals as goal

pub returns : goal.returns
returns c = rw (c.gave.ensures, c.piece_of.ensures, c.step_same.ensures, c.start-place.ensures, c.own.ensures)
