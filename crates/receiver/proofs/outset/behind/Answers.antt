-- `receiver::outset::behind` meets its contract: the two answers of the header code.
-- Assumes nothing.
use mathlib.Core.Path.{sym, ◌∙◌}
use Rattle.wire.specs.Reading.{header_in}
use Rattle.receiver.proofs.Foretelling.{bad_fore, good_fore}
use Rattle.receiver.proofs.outset.behind.Goals as goal

pub returns-in-None : goal.returns-in-None
returns-in-None c = let a = c.args in bad_fore a.missing a.rest (header_in a.word) (sym c.read_header.ensures ∙ c.in-None.is)

pub returns-in-Some : goal.returns-in-Some
returns-in-Some c = let a = c.args in rw c.min.ensures (good_fore a.missing a.rest c.in-Some.h (header_in a.word) (sym c.read_header.ensures ∙ c.in-Some.is))
