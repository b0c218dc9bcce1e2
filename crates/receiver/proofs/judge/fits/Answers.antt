-- `receiver::judge::fits` meets its contract: 15 if the room has no place.
-- Assumes nothing.
use borrow.Author.Tests.{le-leb, lt-leb}
use Rattle.receiver.specs.Turns.{fits_of}
use Rattle.receiver.proofs.judge.fits.Goals as goal

pub returns-then-size-cap : goal.returns-then-size-cap
unfolding fits_of
returns-then-size-cap c = simp (le-leb _ _ c.if-size-cap.true, c.more.ensures)

pub returns : goal.returns
unfolding fits_of
returns c = simp (lt-leb _ _ c.if-size-cap.false, c.stop.ensures, c.emptied.ensures)
