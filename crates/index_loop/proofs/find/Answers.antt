-- `index_loop::find` meets its contract: what is put is of what the receiver gave.
-- Assumes nothing.
use mathlib.Core.Path.{refl, ap, ◌∙◌}
use Rattle.block.specs.Block.{put}
use Rattle.index_loop.specs.Walking.{text_of}
use Rattle.index_loop.proofs.find.Goals as goal

pub returns : goal.returns
returns c =
    let a = c.args in
    let q = c.next_as-step in
    record {
      able = q.ensures.able;
      step = q.result;
      gives = q.ensures;
      receiver = refl;
      lasts = c.lasts.ensures;
      text = c.put-held.ensures ∙ ap (λ d. put a.out.now a.at (text_of a.task a.stamp.number q.result.about.at q.result.find d)) c.found-data.ensures;
    }
