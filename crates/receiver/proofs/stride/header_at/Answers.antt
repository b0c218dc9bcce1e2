-- `receiver::stride::header_at` meets its contract.
-- Assumes nothing.
use Rattle.receiver.proofs.Standing.{header_stands}
use Rattle.receiver.proofs.stride.header_at.Goals as goal

pub returns : goal.returns
returns c =
    let a = c.args in header_stands a.tp.now a.at _ _ c.if-tp-at-lt6.false c.six.ensures c.read_intact.ensures
