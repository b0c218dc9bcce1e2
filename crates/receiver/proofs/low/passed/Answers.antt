-- `receiver::low::passed` meets its contract: by what the LLEP tells.
-- Assumes nothing.
use Rattle.receiver.specs.Kind.{kind_of}
use Rattle.receiver.proofs.Walking.{passed_by_lem}
use Rattle.receiver.proofs.low.passed.Goals as goal

pub returns-in-None : goal.returns-in-None
returns-in-None c = let a = c.args in rw c.gone.ensures (passed_by_lem (kind_of a.header) a.header a.more a.at _ _ c.told.ensures c.in-None.is)

pub returns-in-Some : goal.returns-in-Some
returns-in-Some c = let a = c.args in rw (c.give.ensures, c.repaired.ensures) (passed_by_lem (kind_of a.header) a.header a.more a.at _ _ c.told.ensures c.in-Some.is)
