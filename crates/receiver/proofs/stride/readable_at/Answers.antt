-- `receiver::stride::readable_at` meets its contract: a header that can be read stands there.
-- Assumes nothing.
use Rattle.receiver.proofs.LaneAhead.{fits_of_lem}
use Rattle.receiver.proofs.Standing.{read_stands}
use Rattle.receiver.proofs.stride.readable_at.Goals as goal

pub returns-then-fits : goal.returns-then-fits
returns-then-fits c =
    let a = c.args in
    let h = c.in_ok-h.h in
    let f = fits_of_lem c.fits.result h a.most c.fits.ensures c.if-fits.true in
    (record { stands = read_stands a.tp.now a.at _ h c.if-tp-at-lt6.false c.read_at.ensures c.in_ok-h.was; kind = f.0 }, f.1)
