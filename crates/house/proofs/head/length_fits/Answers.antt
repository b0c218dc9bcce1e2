-- `house::head::length_fits` meets its contract: the kind matched is one of two.
-- Assumes nothing.
use Rattle.std.proofs.Common.{inl, inr}
use Rattle.house.proofs.head.length_fits.Goals as goal

pub returns-in-3 : goal.returns-in-3
returns-in-3 c = elim c.in-3.is [ inl e ↦ rw e | inr e ↦ rw e ]
