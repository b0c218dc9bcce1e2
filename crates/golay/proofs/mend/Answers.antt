-- `golay::mend` meets its contract: the table's entry at the word's syndrome says what to flip, and how many flips there are.
-- Assumes nothing.
use Rattle.golay.proofs.Decoder.{syndrome_lt, mends, none_near}
use Rattle.golay.proofs.mend.Goals as goal

pub correction-entry-requires : goal.correction-entry-requires
correction-entry-requires c = rw c.requires (syndrome_lt c.args.w)

pub returns-then-entry : goal.returns-then-entry
returns-then-entry c = none_near c.args.w _ (rw c.requires at c.correction-entry.ensures) c.if-entry.true

pub returns : goal.returns
returns c = mends c.args.w _ (rw c.requires at c.correction-entry.ensures) c.if-entry.false
