-- `composing::c7_reassemble` meets its contract: what `chapter11::reassemble` gives, told in numbers. Assumes nothing.
use Rattle.jenugathi.proofs.Composes.{makes}
use Rattle.jenugathi.proofs.composing.c7_reassemble.Goals as goal

pub returns : goal.returns
returns c = makes c.args.written.now _ _ _ _ _ c.reassemble.ensures c.count.ensures
