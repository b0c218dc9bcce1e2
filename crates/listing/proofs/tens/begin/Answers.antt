-- `tens::begin` meets its contract: the text with the number's last digit begins it.
-- Assumes nothing.
use Rattle.listing.proofs.Spelling.{begun_kept}
use Rattle.std.proofs.Common.{rules}
use Rattle.listing.proofs.tens.begin.Goals as goal

pub returns : goal.returns
returns c =
    let a = c.args in
    begun_kept a.ten c.requires.kept a.number c.requires.number_le_last.0 c.requires.number_le_last.1 (search rules) a.out.now a.at c.requires.at_in_bounds _ _ c.piece.ensures
