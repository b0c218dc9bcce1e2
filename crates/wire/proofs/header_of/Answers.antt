-- `wire::header_of` meets its contract: both code words at once, each as three bytes.
-- Assumes nothing.
use Rattle.wire.specs.Wire.{word, first_number, header}
use Rattle.wire.proofs.header_of.Goals as goal

pub returns : goal.returns
unfolding header first_number word
returns c = rw (c.digits_of-b.ensures, c.digits_of-a.ensures, c.encode_pair-pair.ensures)
