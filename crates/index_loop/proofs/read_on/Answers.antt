-- `index_loop::read_on` meets its contract: the record is read anew, from the byte where the stretch begins.
-- Assumes nothing.
use Rattle.index_loop.specs.Advancing.{ended, unreadable}
use Rattle.index_loop.proofs.Advances.{read_anew}
use Rattle.index_loop.proofs.read_on.Goals as goal

pub returns-in_default-clause-reads_on : goal.returns-in_default-clause-reads_on
returns-in_default-clause-reads_on c = λ h. unreadable h

pub returns-then-count-unread-clause-reads_on : goal.returns-then-count-unread-clause-reads_on
returns-then-count-unread-clause-reads_on c = λ h. ended h

pub returns-clause-reads_on : goal.returns-clause-reads_on
returns-clause-reads_on c = λ h. read_anew c.args.block.now c.args.unread _ _ _ h c.begin_of-begin.ensures
