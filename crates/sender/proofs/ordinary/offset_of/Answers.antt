-- `ordinary::offset_of` meets its contract: an EP begins here, or none does. Assumes nothing.
use Rattle.sender.proofs.Drawn.{offset_within, offset_none}
use Rattle.sender.proofs.ordinary.offset_of.Goals as goal

pub returns-then-first-r : goal.returns-then-first-r
returns-then-first-r c = let a = c.args in offset_within a.low a.first a.r c.if-first-r.true

pub returns : goal.returns
returns c = let a = c.args in offset_none a.low a.first a.r c.if-first-r.false
