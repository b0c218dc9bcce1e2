-- `receiver::track::kept_of` meets its contract: the data of a complete EP that are kept are its own. Assumes nothing.
use native.Mathlib.Omega.{arith}
use Rattle.receiver.proofs.LaneAhead.{fits_of_lem}
use Rattle.receiver.proofs.Tracked.{kept_none, kept_own}
use Rattle.receiver.proofs.track.kept_of.Goals as goal

pub returns-in_default : goal.returns-in_default
returns-in_default c = let e = c.plain.ensures in kept_none c.plain.result _ _ _ _ e.0 e.1

pub returns-then-not-fits : goal.returns-then-not-fits
returns-then-not-fits c = let e = c.plain-then-not-fits.ensures in kept_none c.plain-then-not-fits.result _ _ _ _ e.0 e.1

pub returns : goal.returns
returns c =
    let f = c.fits in
    let e = c.busy.ensures in
    kept_own c.busy.result _ _ _ _ c.in-Body.header _ c.in-Body.is (fits_of_lem f.result c.in-Body.header _ f.ensures (c.if-not-fits.false)) e.2 e.1 (omega arith) e.0
