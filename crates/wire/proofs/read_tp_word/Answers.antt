-- `wire::read_tp_word` meets its contract.
-- Assumes nothing.
use mathlib.Core.Path.{sym, ◌∙◌}
use Rattle.wire.proofs.Answers.{word-beyond, word-intact, word_says}
use Rattle.wire.proofs.read_tp_word.Goals as goal

pub returns-then-s-eq0 : goal.returns-then-s-eq0
returns-then-s-eq0 c = rw c.tp_word_from.ensures (word-intact c.args.bytes (sym c.syndrome_of-s.ensures ∙ c.if-s-eq0.true))

pub returns-in_err-x : goal.returns-in_err-x
returns-in_err-x c = rw c.from_residual.ensures (word-beyond _ c.in_err-x.ensures)

pub returns : goal.returns
returns c = rw c.tp_word_from-2.ensures (word_says _ c.in_ok-x.x c.in_ok-x.ensures)
