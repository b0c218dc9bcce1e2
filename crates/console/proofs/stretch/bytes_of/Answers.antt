-- `console::bytes_of` meets its contract.
-- Assumes nothing.
use Rattle.console.proofs.Laws.{in_order, inside, its_bytes}
use Rattle.console.proofs.stretch.bytes_of.Goals as goal

pub slice_bounds-result-start : goal.slice_bounds-result-start
slice_bounds-result-start c = in_order c.args.block.now c.args.unread _ c.in_block-here.ensures

pub slice_bounds-result-end : goal.slice_bounds-result-end
slice_bounds-result-end c = inside c.args.block.now c.args.unread _ c.in_block-here.ensures

pub returns : goal.returns
returns c = its_bytes c.args.block.now c.args.unread _ c.in_block-here.ensures
