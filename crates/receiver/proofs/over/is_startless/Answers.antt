-- `receiver::over::is_startless` meets its contract.
-- Assumes nothing.
use Rattle.receiver.proofs.PassingOver.{startless_if}
use Rattle.receiver.proofs.over.is_startless.Goals as goal

pub returns : goal.returns
returns c =
    rw (c.says_no_start.ensures, c.tp_word.ensures) (startless_if _ c.args.tp.now c.in-Lost.is)
