-- `line_zero::numbers_in` meets its contract.
-- Assumes nothing.
use Rattle.line_zero.proofs.Laws.{numbers_of}
use Rattle.line_zero.proofs.numbers_in.Goals as goal

pub returns : goal.returns
returns c = numbers_of c.args.s.now _ _ _ _ _ c.number_at.ensures c.number_at-2.ensures c.number_at-3.ensures c.number_at-4.ensures c.number_at-5.ensures
