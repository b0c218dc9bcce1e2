-- `wire::says_no_start` meets its contract. Assumes nothing.
use mathlib.Core.Path.{ap}
use lib.Dec.{eqb}
use Rattle.wire.proofs.Laws.{no_start_is}
use Rattle.wire.proofs.says_no_start.Goals as goal

pub returns : goal.returns
returns c = ap (eqb c.args.bytes) no_start_is
