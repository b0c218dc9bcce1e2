-- `line_zero::twenty` meets its contract: digits are written from the last one on.
-- Assumes nothing.
use Rattle.line_zero.proofs.Laws.{Wrote}
use Rattle.line_zero.proofs.twenty.Given as goal

abbrev pub invariant-loop-i : goal.invariant-loop-i
invariant-loop-i l = Wrote l.n l.digits l.rest l.i
