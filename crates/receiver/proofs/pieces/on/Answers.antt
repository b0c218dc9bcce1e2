-- `receiver::pieces::on` meets its contract: a piece without a find.
-- Assumes nothing.
use Rattle.receiver.proofs.pieces.on.Goals as goal

pub returns : goal.returns
returns c = rw (c.went.ensures, c.start.ensures, c.own.ensures)
