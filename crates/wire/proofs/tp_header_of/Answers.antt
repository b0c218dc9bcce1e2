-- `wire::tp_header_of` meets its contract.
-- Assumes nothing.
use Rattle.wire.specs.Wire.{word, stream_byte, tp_header}
use Rattle.wire.proofs.tp_header_of.Goals as goal

pub returns : goal.returns
unfolding tp_header stream_byte word
returns c = rw (c.word_of-w.ensures, c.offset_number.ensures)
