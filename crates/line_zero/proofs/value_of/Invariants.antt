-- `line_zero::value_of` meets its contract: digits are read from the first one on.
-- Assumes nothing.
use Rattle.line_zero.proofs.Laws.{Valued}
use Rattle.line_zero.proofs.value_of.Given as goal

abbrev pub invariant-loop-b : goal.invariant-loop-b
invariant-loop-b l = Valued l.s l.n l.b-index
