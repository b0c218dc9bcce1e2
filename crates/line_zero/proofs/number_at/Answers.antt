-- `line_zero::number_at` meets its contract: the last digit is joined to what stands before it, if 64 bits hold that.
-- Assumes nothing.
use Rattle.line_zero.proofs.Laws.{number_held, number_not}
use Rattle.line_zero.proofs.number_at.Goals as goal

pub returns-then-digit-front : goal.returns-then-digit-front
returns-then-digit-front c =
    let a = c.args in
    number_not a.s.now a.at _ _ c.requires c.value_of-front.ensures c.digit_of-digit.ensures c.if-digit-front.true

pub returns : goal.returns
returns c =
    let a = c.args in
    number_held a.s.now a.at _ _ c.requires c.value_of-front.ensures c.digit_of-digit.ensures c.if-digit-front.false
