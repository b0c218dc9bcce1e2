-- `wire::limits::is_link` meets its contract: each test in turn. Assumes nothing.
use mathlib.Core.Path.{◌∙◌}
use native.Mathlib.Omega.{arith}
use borrow.Author.Tests.{le-leb, lt-leb}
use Rattle.wire.specs.Limits.{link_allowed}
use Rattle.wire.proofs.limits.is_link.Goals as goal
use Rattle.wire.proofs.limits.is_link.Goals.{then-tp-ge16, else-tp-ge16}

pub returns-then-tp-le2051 : goal.returns-then-tp-le2051
unfolding link_allowed
returns-then-tp-le2051 c = rw (le-leb 16 c.args.tp c.if-tp-le2051.true.0, le-leb c.args.tp 2051 c.if-tp-le2051.true.1)

pub returns-else-tp-le2051 : goal.returns-else-tp-le2051
unfolding link_allowed
returns-else-tp-le2051 c =
    elim c.if-tp-ge16.branch [
      | then-tp-ge16 w ↦ rw (w.t-4-is, le-leb 16 c.args.tp w.if-tp-ge16.true, lt-leb c.args.tp 2051 (grind arith))
      | else-tp-ge16 w ↦ w.t-4-is ∙ rw (lt-leb 16 c.args.tp w.if-tp-ge16.false)
    ]
