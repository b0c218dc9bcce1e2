-- `receiver::judge::opened` meets its contract: the header's kind decides against what is kept.
-- Assumes nothing.
use mathlib.Core.Path.{sym, ◌∙◌}
use Rattle.receiver.specs.Turns.{opened_of}
use Rattle.receiver.proofs.judge.opened.Goals as goal

pub returns-then-meets : goal.returns-then-meets
unfolding opened_of
returns-then-meets c =
    let e = rw c.kind_of.ensures at (sym c.meets.ensures ∙ c.if-meets.true) in
    simp (e, c.admit.ensures)

pub returns : goal.returns
unfolding opened_of
returns c =
    let e = rw c.kind_of.ensures at (sym c.meets.ensures ∙ c.if-meets.false) in
    simp (e, c.stop.ensures, c.emptied.ensures)
