-- `chapter11::words::protect` meets its contract: two words at once, each as three bytes.
-- Assumes nothing.
use Rattle.wire.specs.Wire.{word}
use Rattle.chapter11.specs.Source.{protected}
use Rattle.chapter11.proofs.words.protect.Goals as goal

pub returns : goal.returns
unfolding protected word
returns c = rw (c.digits_of-d.ensures, c.digits_of-c.ensures, c.digits_of-b.ensures, c.digits_of-a.ensures, c.encode_pair-last.ensures, c.encode_pair-first.ensures)
