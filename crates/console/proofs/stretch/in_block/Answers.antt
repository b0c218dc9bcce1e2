-- `console::in_block` meets its contract.
-- Assumes nothing.
use Rattle.console.proofs.Laws.{as_within}
use Rattle.console.proofs.stretch.in_block.Goals as goal

pub returns : goal.returns
returns c = as_within c.args.size c.args.unread _ _ c.min-till.ensures c.min.ensures
