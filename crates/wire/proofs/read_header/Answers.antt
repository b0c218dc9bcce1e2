-- `wire::read_header` meets its contract: two intact words say their numbers, and others are mended.
-- Assumes nothing.
use mathlib.Core.Path.{sym, ◌∙◌}
use Rattle.wire.specs.Reading.{header_in}
use Rattle.wire.proofs.Answers.{words-intact}
use Rattle.wire.proofs.read_header.Goals as goal

pub returns-then-t-eq0 : goal.returns-then-t-eq0
unfolding header_in
returns-then-t-eq0 c =
    rw c.header_in.ensures (words-intact _ _ (sym c.syndrome_of-s.ensures ∙ c.if-s-eq0.true) (sym c.syndrome_of-t.ensures ∙ c.if-t-eq0.true))

pub returns : goal.returns
unfolding header_in
returns c = c.mended.ensures
