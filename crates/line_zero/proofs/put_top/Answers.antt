-- `line_zero::put_top` meets its contract.
-- Assumes nothing.
use mathlib.Core.Path.{ap, ◌∙◌}
use Rattle.block.specs.Block.{put}
use Rattle.line_zero.proofs.put_top.Goals as goal

pub returns : goal.returns
returns c =
    let a = c.args in
    c.put.ensures ∙ ap (put a.out.now a.at) c.top_of-text.ensures
