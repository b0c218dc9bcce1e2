-- `golay::encode` meets its contract: the number, then its parity. Assumes nothing.
use Rattle.golay.specs.Golay.{code_word}
use Rattle.golay.proofs.encode.Goals as goal

pub returns : goal.returns
unfolding code_word
returns c = rw c.parity.ensures
