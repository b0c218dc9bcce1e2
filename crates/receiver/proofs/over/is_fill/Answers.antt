-- `receiver::over::is_fill` meets its contract.
-- Assumes nothing.
use Rattle.receiver.proofs.PassingOver.{fill_if}
use Rattle.receiver.proofs.over.is_fill.Goals as goal

pub returns : goal.returns
returns c =
    rw (c.from_three.ensures, c.encode.ensures) (fill_if _ _ _ c.args.tp.now c.in-Head.is c.if-have-ne0.false c.requires c.if-tp-gt4095.false)
