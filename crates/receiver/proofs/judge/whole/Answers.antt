-- `receiver::judge::whole` meets its contract: the two answers of the header code.
-- Assumes nothing.
use mathlib.Core.Path.{sym, ◌∙◌}
use Rattle.wire.specs.Reading.{header_in}
use Rattle.receiver.proofs.Gather.{beyond_read, whole_read}
use Rattle.receiver.proofs.judge.whole.Goals as goal

pub returns-in-None : goal.returns-in-None
returns-in-None c =
    let a = c.args in
    rw c.emptied.ensures at c.stop.ensures ∙ beyond_read a.at a.began a.kept a.cap (header_in a.word) (sym c.read_header.ensures ∙ c.in-None.is)

pub returns-in-Some : goal.returns-in-Some
returns-in-Some c =
    let a = c.args in
    c.opened.ensures ∙ whole_read a.at a.began a.kept a.cap c.in-Some.header (header_in a.word) (sym c.read_header.ensures ∙ c.in-Some.is)
