-- `listing::worded` meets its contract: the numbers behind the word.
-- Assumes nothing.
use Rattle.std.proofs.Common.{arith}
use Rattle.listing.proofs.Laws.{free, worded}
use Rattle.listing.proofs.worded.Goals as goal

pub numbers-requires : goal.numbers-requires
numbers-requires g c =
    let a = c.args in
    free a.word.now a.out.now a.at (omega (arith, c.told-word)) c.requires.1 _ _ c.piece-end.ensures

pub returns : goal.returns
returns g c =
    let a = c.args in
    worded a.word.now a.out.now a.at (omega (arith, c.told-word)) c.requires.1 _ _ c.piece-end.ensures a.content a.bytes _ _ c.numbers.ensures
