use Rattle.receiver.proofs.WordTests.{left_all, left_none}
use Rattle.receiver.proofs.words.left_in.Goals as goal

pub returns-then-sort-lt3 : goal.returns-then-sort-lt3
returns-then-sort-lt3 c = left_none _ _ c.if-sort-lt3.true

pub returns : goal.returns
returns c = left_all _ _ c.if-sort-lt3.false
