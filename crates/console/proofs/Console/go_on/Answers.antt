-- `console::go_on` meets its contract: the stretch stays, or is read on.
-- Assumes nothing.
use Rattle.console.proofs.Laws.{stays, reads}
use Rattle.console.proofs.Console.go_on.Goals as goal

pub returns-in-Ok-Some : goal.returns-in-Ok-Some
returns-in-Ok-Some c = stays c.args.block.now c.args.unread _ c.in_block-here.ensures

pub returns-in-Ok-None : goal.returns-in-Ok-None
returns-in-Ok-None c = reads c.args.block.now c.args.unread _ c.read_on.new.block c.read_on.result c.in_block-here.ensures c.read_on.ensures
