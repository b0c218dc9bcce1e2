-- `indexing::put_new` meets its contract: nothing is put of a record that is covered.
-- Assumes nothing.
use mathlib.Core.Path.{ap, sym, ◌∙◌}
use Rattle.block.specs.Block.{put}
use Rattle.block.proofs.Laws.{nothing}
use Rattle.indexing.proofs.Laws.{old}
use Rattle.indexing.proofs.put_new.Goals as goal

pub returns-then-number-covered : goal.returns-then-number-covered
returns-then-number-covered c =
    let a = c.args in
    nothing a.out.now a.at ∙ ap (put a.out.now a.at) (sym (old a.covered a.number a.began a.find c.if-number-covered.true))
