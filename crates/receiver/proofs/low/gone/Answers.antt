-- `receiver::low::gone` meets its contract: another LLEP follows, or none.
-- Assumes nothing.
use Rattle.receiver.proofs.low.gone.Goals as goal

pub returns-then-more : goal.returns-then-more
returns-then-more c = simp c.if-more.true

pub returns : goal.returns
returns c = simp c.if-more.false
