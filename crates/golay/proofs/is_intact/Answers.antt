-- `golay::is_intact` meets its contract.
-- Assumes nothing.
use Rattle.golay.proofs.Decoder.{same_halves}
use Rattle.golay.proofs.is_intact.Goals as goal

pub returns : goal.returns
returns c = same_halves c.args.w c.number.result c.number.ensures
