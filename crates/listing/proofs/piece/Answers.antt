-- `listing::piece` meets its contract: its part of the block becomes s.
-- Assumes nothing.
use Rattle.std.proofs.Common.{◌+◌, length, sym, ap, ◌∙◌}
use Rattle.block.proofs.Laws.{fits, in_part, block_of}
use Rattle.listing.proofs.piece.Goals as goal

pub returns : goal.returns
returns c =
    let a = c.args in
    ap (λ x. block_of x (a.at + length a.s.now)) (in_part a.out.now a.s.now _ a.at c.requires c.copy_from_slice.ensures.after) ∙ sym (fits a.out.now a.at a.s.now c.requires)
