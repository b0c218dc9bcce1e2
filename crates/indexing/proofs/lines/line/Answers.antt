-- `lines::line` meets its contract: a packet's line is spelled in place, or into a text whose start is then put.
-- Assumes nothing.
use mathlib.Core.Path.{ap, sym, ◌∙◌}
use native.Mathlib.Omega.{arith}
use Rattle.block.specs.Block.{put}
use Rattle.block.proofs.Laws.{nothing}
use lib.ListN.{length-take}
use Rattle.indexing.proofs.Laws.{no_line, its_line, within, cut}
use Rattle.indexing.proofs.lines.line.Goals as goal

pub returns-then-not-is_packet : goal.returns-then-not-is_packet
returns-then-not-is_packet c =
    let a = c.args in
    nothing a.out.now a.at ∙ ap (put a.out.now a.at) (sym (no_line a.began a.find (sym c.is_packet.ensures ∙ c.if-not-is_packet.true)))

pub returns-then-saturating_sub-ge101 : goal.returns-then-saturating_sub-ge101
returns-then-saturating_sub-ge101 c =
    let a = c.args in
    c.spell.ensures ∙ ap (put a.out.now a.at) (its_line a.began a.find (sym c.is_packet.ensures ∙ c.if-not-is_packet.false))

pub slice_bounds-text-end : goal.slice_bounds-text-end
slice_bounds-text-end c = within _ (omega arith) c.args.began c.args.find _ _ c.spell-n.ensures

pub slice_bounds-put-end : goal.slice_bounds-put-end
slice_bounds-put-end c = simp length-take (omega (arith, within _ (omega arith) c.args.began c.args.find _ _ c.spell-n.ensures))

pub returns : goal.returns
returns c =
    let a = c.args in
    c.put.ensures
    ∙ ap (put a.out.now a.at) (cut _ (omega arith) a.began a.find _ _ c.spell-n.ensures ∙ its_line a.began a.find (sym c.is_packet.ensures ∙ c.if-not-is_packet.false))
