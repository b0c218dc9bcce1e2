-- `index_loop::lanes::Laned::note_low` meets its contract: only a find has a line.
-- Assumes nothing.
use mathlib.Core.Path.{ap, sym, ◌∙◌}
use Rattle.block.specs.Block.{put}
use Rattle.block.proofs.Laws.{nothing}
use Rattle.index_loop.proofs.Passing.{low_none}
use Rattle.index_loop.proofs.lanes.Laned.note_low.Goals as goal

pub returns-in_default : goal.returns-in_default
returns-in_default c =
    let a = c.args in
    nothing a.out.now a.at ∙ ap (put a.out.now a.at) (sym (low_none a.self.covered a.self.stamp a.lows c.in_default.not-Gives))
