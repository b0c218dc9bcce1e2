-- `line_zero::put_field` meets its contract: the word, then its number.
-- Assumes nothing.
use mathlib.Core.Path.{ap, ◌∙◌}
use native.Mathlib.Omega.{arith}
use Rattle.block.specs.Block.{put}
use Rattle.block.proofs.Laws.{then}
use Rattle.line_zero.specs.Top.{digits20}
use Rattle.line_zero.proofs.Laws.{twenty_long}
use Rattle.line_zero.proofs.put_field.Goals as goal

pub returns : goal.returns
returns c =
    let a = c.args in
    let p = c.put-end in
    then a.out.now _ _ a.word.now (digits20 a.n) a.at _ _ (omega (arith, c.requires, twenty_long a.n)) p.ensures (c.put.ensures ∙ ap (put p.new.out p.result) c.twenty-digits.ensures)
