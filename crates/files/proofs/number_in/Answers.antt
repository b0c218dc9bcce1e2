-- `files::number_in` meets its contract: digits are read from the first one on, up to one that does not fit.
-- Assumes nothing.
use mathlib.Core.Path.{sym, ◌∙◌}
use Rattle.files.proofs.Laws.{read_none, read_one, read_all}
use Rattle.files.proofs.number_in.Goals as goal

pub loop-b-init : goal.loop-b-init
loop-b-init c = read_none c.args.word.now (sym c.is_empty.ensures ∙ c.if-is_empty.false)

pub loop-b-preserved : goal.loop-b-preserved
loop-b-preserved c = read_one c.args.word.now _ _ c.loop-b-test.true c.loop-b.invariant _ (sym c.joined.ensures ∙ c.in_ok-n.was)

pub returns : goal.returns
returns c = read_all c.args.word.now _ _ c.loop-b-test.false c.loop-b.invariant
