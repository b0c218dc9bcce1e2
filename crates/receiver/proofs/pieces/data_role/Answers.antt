-- `receiver::pieces::data_role` meets its contract: kept, or passed over.
-- Assumes nothing.
use mathlib.Core.Path.{ap, sym}
use Rattle.receiver.specs.Pieces.{data_role}
use Rattle.receiver.proofs.pieces.data_role.Goals as goal

pub returns-in-Some : goal.returns-in-Some
returns-in-Some c = sym (ap data_role c.in-Some.is)
