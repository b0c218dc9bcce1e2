-- `composing::c7_compose` meets its contract: what `chapter11::compose` gives, told in numbers. Assumes nothing.
use Rattle.jenugathi.proofs.Composes.{makes}
use Rattle.jenugathi.proofs.composing.c7_compose.Goals as goal

pub returns : goal.returns
returns c = makes c.args.written.now _ _ _ _ _ c.compose.ensures c.count.ensures
