-- `index_loop::go_on` meets its contract, by what is at hand.
-- Assumes nothing.
use mathlib.Core.Path.{ap, ◌∙◌}
use Rattle.std.specs.Prelude.{Ok}
use Rattle.index_loop.specs.Advancing.{whole, bad}
use Rattle.index_loop.proofs.Advances.{at_hand_lem}
use Rattle.index_loop.proofs.go_on.Goals as goal

pub returns-in-Ok-Some-clause-goes_on : goal.returns-in-Ok-Some-clause-goes_on
returns-in-Ok-Some-clause-goes_on c = whole (at_hand_lem c.args.block.now c.args.unread _ _ _ c.bytes_of.ensures c.read_record.ensures (c.in-Ok-Some.is ∙ ap Ok c.in-Ok-Some.field-0-is))

pub returns-in-Err-clause-goes_on : goal.returns-in-Err-clause-goes_on
returns-in-Err-clause-goes_on c = bad (at_hand_lem c.args.block.now c.args.unread _ _ _ c.bytes_of.ensures c.read_record.ensures c.in-Err.is)
