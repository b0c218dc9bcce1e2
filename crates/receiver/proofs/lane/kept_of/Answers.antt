-- `receiver::lane::kept_of` meets its contract: the data of a complete EP that are kept are a lane.
-- Assumes nothing.
use native.Mathlib.Omega.{arith}
use Rattle.receiver.proofs.LaneAhead.{fits_of_lem}
use Rattle.receiver.proofs.Laned.{kept_busy, kept_roomy, same_of_lem}
use Rattle.receiver.proofs.lane.kept_of.Goals as goal

pub overflow_add-len : goal.overflow_add-len
overflow_add-len c =
    let a = c.args in
    let f = kept_roomy a.cap a.phase a.began _ _ c.in-Body.is a.content a.repaired a.first a.len c.requires.0 c.requires.1 in
    omega (arith, f)

pub returns : goal.returns
returns c =
    let a = c.args in
    let h = c.in-Body.header in
    let fits = fits_of_lem c.fits.result h a.cap c.fits.ensures (c.if-not-fits.false) in
    kept_busy a.cap a.phase a.began h _ c.in-Body.is a.content a.repaired a.first a.len c.requires.0 c.requires.1 fits c.if-header-content.false c.if-flips-repaired.false c.if-header-len.false (same_of_lem a.began a.first c.if-ne.ensures)
