-- `receiver::judge::further` meets its contract: the two cases of what is kept.
-- Assumes nothing.
use native.Mathlib.Omega.{arith}
use Rattle.receiver.proofs.judge.further.Goals as goal

pub fits-requires : goal.fits-requires
fits-requires c = let g = rw c.in-Some.is at c.requires in omega arith

pub returns-in-None : goal.returns-in-None
returns-in-None c = simp (c.in-None.is, c.more.ensures)

pub returns-in-Some : goal.returns-in-Some
returns-in-Some c = simp (c.in-Some.is, c.fits.ensures, c.joined.ensures)
