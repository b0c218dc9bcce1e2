-- `receiver::pieces::drop_rest` meets its contract by what it calls.
-- Assumes nothing.
use Rattle.receiver.proofs.pieces.drop_rest.Goals as goal

pub returns : goal.returns
returns c = rw (c.gave.ensures, c.piece_of.ensures, c.step_to-step.ensures)
