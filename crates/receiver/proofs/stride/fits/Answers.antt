-- `receiver::stride::fits` meets its contract.
-- Assumes nothing.
use Rattle.receiver.proofs.LaneAhead.{fits_if}
use Rattle.receiver.proofs.stride.fits.Goals as goal

pub returns : goal.returns
returns c =
    let a = c.args in
    fits_if a.h a.most c.if-h-ne0.false c.if-h-lt1.false c.if-h-gt6.false
