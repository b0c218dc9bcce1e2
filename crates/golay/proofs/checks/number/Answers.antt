-- `checks::number` meets its contract: the table passes the test. Assumes nothing.
use mathlib.Core.Path.{refl}
use Rattle.golay.specs.Golay.{chosen, checks}
use Rattle.golay.specs.declared.checks.TheConstants.{NUMBERS}
use Rattle.golay.proofs.Lookups.{looked_up, chooses}
use Rattle.golay.proofs.checks.number.Goals as goal

pub returns : goal.returns
unfolding chooses chosen
returns c = looked_up 12 checks NUMBERS c.args.n refl refl tt
