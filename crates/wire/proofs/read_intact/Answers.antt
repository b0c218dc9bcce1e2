-- `wire::read_intact` meets its contract: two intact words say their numbers.
-- Assumes nothing.
use mathlib.Core.Path.{sym, ◌∙◌}
use Rattle.wire.specs.Reading.{intact_in}
use Rattle.wire.proofs.read_intact.Goals as goal
use Rattle.wire.proofs.read_intact.Goals.{else-is_intact-via-then-is_intact+else-is_intact-2, else-is_intact-via-else-is_intact}

pub returns-then-is_intact-2 : goal.returns-then-is_intact-2
unfolding intact_in
returns-then-is_intact-2 c = rw (← c.if-is_intact.ensures, ← c.if-is_intact-2.ensures, c.header_in.ensures)

pub returns : goal.returns
unfolding intact_in
returns c =
    elim c.else-is_intact.branch [
      | else-is_intact-via-then-is_intact+else-is_intact-2 w ↦ rw (sym c.is_intact.ensures ∙ w.if-is_intact.true, sym w.is_intact-then-is_intact.ensures ∙ w.if-is_intact-2.false)
      | else-is_intact-via-else-is_intact w ↦ rw (sym c.is_intact.ensures ∙ w.if-is_intact.false)
    ]
