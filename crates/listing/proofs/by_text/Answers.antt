-- `listing::by_text` meets its contract: the text begins with the line, which is then put.
-- Assumes nothing.
use Rattle.std.proofs.Common.{◌++◌, ap, ◌∙◌, arith}
use Rattle.block.specs.Block.{put}
use Rattle.block.specs.Decimal.{decimal}
use Rattle.listing.specs.Lines.{rest_of}
use Rattle.listing.proofs.Laws.{rest_room, spelled, whole_most, within, cut}
use Rattle.listing.proofs.by_text.Goals as goal

pub rest-n-requires : goal.rest-n-requires
rest-n-requires c =
    let a = c.args in
    rest_room a.number a.find _ 0 (omega arith) _ _ c.put_number-end.ensures

pub slice_bounds-put-end : goal.slice_bounds-put-end
slice_bounds-put-end c =
    let a = c.args in
    let s = spelled a.number a.find _ 0 (omega arith) _ _ c.put_number-end.ensures _ _ c.rest-n.ensures in
    within _ (decimal a.number ++ rest_of a.find) (omega (arith, whole_most a.number a.find)) _ _ s

pub returns : goal.returns
returns c =
    let a = c.args in
    let s = spelled a.number a.find _ 0 (omega arith) _ _ c.put_number-end.ensures _ _ c.rest-n.ensures in
    c.put.ensures ∙ ap (put a.out.now a.at) (cut _ (decimal a.number ++ rest_of a.find) (omega (arith, whole_most a.number a.find)) _ _ s)
