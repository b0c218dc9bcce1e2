-- `console::to_start` meets its contract: what the block has of the stretch is copied to its start.
-- Assumes nothing.
use Rattle.console.proofs.Laws.{its_length, is_moved}
use Rattle.console.proofs.stretch.to_start.Goals as goal

pub returns : goal.returns
returns c = record { value = its_length c.args.block.now c.args.unread _ c.in_block-here.ensures; block_after = is_moved c.args.block.now c.args.unread _ c.in_block-here.ensures _ c.copy_within.ensures.after }
