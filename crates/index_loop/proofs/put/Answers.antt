-- `index_loop::put` meets its contract: the task picks the text.
-- Assumes nothing.
use mathlib.Core.Path.{ap, sym, ◌∙◌}
use Rattle.block.specs.Block.{put}
use Rattle.index_loop.specs.Walking.{text_of}
use Rattle.index_loop.proofs.put.Goals as goal

pub returns-in-Index : goal.returns-in-Index
returns-in-Index c =
    let a = c.args in
    c.put_new.ensures ∙ ap (λ t. put a.out.now a.at (text_of t a.number a.began a.find a.«data».now)) (sym c.in-Index.is)

pub returns-in-Seek : goal.returns-in-Seek
returns-in-Seek c =
    let a = c.args in
    c.put_wanted.ensures ∙ ap (λ t. put a.out.now a.at (text_of t a.number a.began a.find a.«data».now)) (sym c.in-Seek.is)
