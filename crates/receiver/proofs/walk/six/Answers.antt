-- `receiver::walk::six` meets its contract: the six bytes are the stretch.
-- Assumes nothing.
use mathlib.Core.Path.{◌∙◌}
use Rattle.receiver.proofs.Gather.{six_of_lem}
use Rattle.receiver.proofs.walk.six.Goals as goal

pub returns : goal.returns
returns c =
    c.from_six.ensures ∙ six_of_lem c.args.tp.now c.args.at c.requires
