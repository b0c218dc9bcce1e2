-- `wire::limits::is_allowed` meets its contract: the link's settings, then F. Assumes nothing.
use mathlib.Core.Path.{sym, ◌∙◌}
use mathlib.Core.Logic.{⊎_elim}
use borrow.Author.Tests.{le-leb, lt-leb}
use Rattle.wire.specs.Limits.{allowed}
use Rattle.wire.proofs.limits.is_allowed.Goals as goal
use Rattle.wire.proofs.limits.is_allowed.Goals.{then-is_link, else-is_link}

pub returns-then-piece-ge1 : goal.returns-then-piece-ge1
unfolding allowed
returns-then-piece-ge1 c =
    let within = c.if-piece-ge1.true in
    rw (sym c.is_link.ensures ∙ within.0, le-leb 1 c.args.piece within.1)

pub returns-else-piece-ge1 : goal.returns-else-piece-ge1
unfolding allowed
returns-else-piece-ge1 c =
    elim c.if-is_link.branch [
      | then-is_link w ↦ rw (w.t-5-is, ← w.if-is_link.ensures, lt-leb 1 c.args.piece (⊎_elim (λ p. p.1) (λ p. absurd cc) c.if-piece-ge1.either))
      | else-is_link w ↦ w.t-5-is ∙ rw (sym c.is_link.ensures ∙ w.if-is_link.false) w.if-is_link.false
    ]
