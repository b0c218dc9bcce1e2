-- `line_zero::read_top` meets its contract: the text of the numbers read is compared with what was read.
-- Assumes nothing.
use mathlib.Core.Bool.{true, false}
use mathlib.Core.Path.{sym, ◌∙◌}
use Rattle.line_zero.proofs.Laws.{too_short, read_by}
use Rattle.line_zero.proofs.read_top.Goals as goal

pub returns-then-s-lt133 : goal.returns-then-s-lt133
returns-then-s-lt133 c = too_short c.args.s.now c.if-s-lt133.true

pub returns-then-eq : goal.returns-then-eq
returns-then-eq c = read_by c.args.s.now c.as_slice.result.now _ true c.numbers_in-top.ensures (c.as_slice.ensures ∙ c.top_of-text.ensures) (sym c.if-eq.true ∙ c.eq.ensures)

pub returns : goal.returns
returns c = read_by c.args.s.now c.as_slice.result.now _ false c.numbers_in-top.ensures (c.as_slice.ensures ∙ c.top_of-text.ensures) (sym c.if-eq.false ∙ c.eq.ensures)
