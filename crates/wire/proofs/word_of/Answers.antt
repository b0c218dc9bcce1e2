-- `wire::word_of` meets its contract.
-- Assumes nothing.
use Rattle.wire.specs.Wire.{word}
use Rattle.wire.proofs.word_of.Goals as goal

pub returns : goal.returns
unfolding word
returns c = rw (c.digits_of.ensures, c.encode.ensures)
