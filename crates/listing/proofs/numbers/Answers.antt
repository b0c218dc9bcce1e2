-- `listing::numbers` meets its contract: four pieces, one after the other, are the numbers.
-- Assumes nothing.
use Rattle.std.proofs.Common.{[], ◌∷◌, arith}
use Rattle.block.specs.Decimal.{decimal}
use Rattle.block.proofs.Laws.{room}
use Rattle.block.proofs.Decimals.{decimal_most}
use Rattle.listing.proofs.Laws.{numbered}
use Rattle.listing.proofs.numbers.Goals as goal

pub piece-end-requires : goal.piece-end-requires
piece-end-requires c =
    let a = c.args in
    room a.out.now _ (decimal a.content) a.at _ 1 c.put_small-end.ensures (omega (arith, c.requires, decimal_most a.content))

pub put_small-end-requires-2 : goal.put_small-end-requires-2
put_small-end-requires-2 c =
    let a = c.args in
    let first = room a.out.now _ (decimal a.content) a.at _ 22 c.put_small-end.ensures (omega (arith, c.requires, decimal_most a.content)) in
    room _ _ (32 ∷ []) _ _ 2 c.piece-end.ensures (omega (arith, first))

pub piece-requires : goal.piece-requires
piece-requires c =
    let a = c.args in
    let first = room a.out.now _ (decimal a.content) a.at _ 22 c.put_small-end.ensures (omega (arith, c.requires, decimal_most a.content)) in
    let second = room _ _ (32 ∷ []) _ _ 21 c.piece-end.ensures (omega (arith, first)) in
    room _ _ (decimal a.bytes) _ _ 1 c.put_small-end-2.ensures (omega (arith, second, decimal_most a.bytes))

pub returns : goal.returns
returns c =
    let a = c.args in
    numbered a.out.now a.at a.content a.bytes c.requires _ _ _ _ _ _ _ _ c.put_small-end.ensures c.piece-end.ensures c.put_small-end-2.ensures c.piece.ensures
