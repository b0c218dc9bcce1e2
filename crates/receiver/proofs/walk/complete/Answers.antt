-- `receiver::walk::complete` meets its contract: a header of which no byte is read has the number 0 so far.
-- Assumes nothing.
use mathlib.Core.Path.{◌∙◌}
use Rattle.receiver.proofs.Gather.{none_read}
use Rattle.receiver.proofs.walk.complete.Goals as goal

pub returns-then-have-eq0 : goal.returns-then-have-eq0
returns-then-have-eq0 c =
    let a = c.args in
    c.six.ensures ∙ none_read a.tp.now a.at a.have a.word c.if-have-eq0.true c.requires.1
