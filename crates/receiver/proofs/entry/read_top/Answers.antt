-- `receiver::entry::read_top` meets its contract: the checks of 8, 7, 9 in this order.
-- Assumes nothing.
use mathlib.Core.Path.{sym, ◌∙◌}
use Rattle.receiver.proofs.TakingUp.{top_eight, top_nine, top_says, top_seven}
use Rattle.receiver.proofs.entry.read_top.Goals as goal

pub returns-then-b-stream : goal.returns-then-b-stream
returns-then-b-stream c = let a = c.args in top_eight a.stream a.tp.now c.if-b-stream.true

pub returns-then-b-ne0 : goal.returns-then-b-ne0
returns-then-b-ne0 c = let a = c.args in top_seven a.stream a.tp.now c.if-b-stream.false c.if-b-ne0.true

pub returns-in-None : goal.returns-in-None
returns-in-None c = let a = c.args in top_nine a.stream a.tp.now c.if-b-stream.false c.if-b-ne0.false (rw c.tp_word.ensures at (sym c.read_tp_word.ensures ∙ c.in-None.is))

pub returns-in-Some : goal.returns-in-Some
returns-in-Some c = let a = c.args in top_says a.stream a.tp.now _ _ c.if-b-stream.false c.if-b-ne0.false (rw c.tp_word.ensures at (sym c.read_tp_word.ensures ∙ c.in-Some.is))
