-- `house::head::head_of` meets its contract: each byte is what its callee ensures.
-- Assumes nothing.
use Rattle.house.proofs.head.head_of.Goals as goal

pub returns : goal.returns
returns c = rw (c.kind_of.ensures, c.content_of.ensures, c.digits_of-n.ensures, c.length_of.ensures)
