-- `receiver::part` meets its contract: a clamped start and length take what `take` and `drop` take.
-- Assumes nothing.
use Rattle.receiver.proofs.Gather.{part_is}
use Rattle.receiver.proofs.part.Goals as goal

pub returns : goal.returns
returns c =
    let a = c.args in
    part_is a.s.now a.start a.len c.min-from.result c.min.result c.min-from.ensures c.min.ensures
