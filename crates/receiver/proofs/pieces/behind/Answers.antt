-- `receiver::pieces::behind` meets its contract: an LLEP that is not broken.
-- Assumes nothing.
use Rattle.receiver.proofs.pieces.behind.Goals as goal

pub returns : goal.returns
returns c = rw (c.went.ensures, c.piece_of.ensures, c.of.ensures, c.own.ensures, c.repaired.ensures, c.told-told.ensures, c.low_stage-stage.ensures)
