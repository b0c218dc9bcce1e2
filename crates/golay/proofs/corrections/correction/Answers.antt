-- `corrections::correction` meets its contract: the table passes the test. Assumes nothing.
use lib.Count.{ones_in}
use Rattle.golay.specs.Golay.{chosen, syndrome, weight}
use Rattle.golay.specs.declared.corrections.TheConstants.{TABLE}
use Rattle.golay.proofs.Table.{enters, right, few, has, error}
use Rattle.golay.proofs.corrections.correction.Goals as goal

pub returns : goal.returns
unfolding right few has error syndrome weight chosen ones_in
returns c = enters TABLE c.args.s c.requires tt tt
