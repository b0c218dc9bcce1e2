-- `index_loop::lanes::Laned::note` meets its contract: only a packet has a line.
-- Assumes nothing.
use mathlib.Core.Path.{ap, sym, ◌∙◌}
use Rattle.block.specs.Block.{put}
use Rattle.block.proofs.Laws.{nothing}
use Rattle.index_loop.proofs.Passing.{met_none}
use Rattle.index_loop.proofs.lanes.Laned.note.Goals as goal

pub returns-in_default : goal.returns-in_default
returns-in_default c =
    let a = c.args in
    nothing a.out.now a.at ∙ ap (put a.out.now a.at) (sym (met_none a.self.covered a.self.stamp.number a.met c.in_default.not-Gives))
