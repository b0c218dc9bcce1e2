-- `receiver::entry::tp_word` meets its contract: three bytes behind the first.
-- Assumes nothing.
use mathlib.Core.Path.{◌∙◌}
use Rattle.receiver.proofs.Gather.{three_of}
use Rattle.receiver.proofs.entry.tp_word.Goals as goal

pub returns : goal.returns
returns c =
    c.from_three.ensures ∙ three_of c.args.tp.now c.requires
