-- `lines::spell` meets its contract: the record, a space, the place and a listing's rest are the packet's line.
-- Assumes nothing.
use Rattle.indexing.proofs.Laws.{rest_room, spelled}
use Rattle.indexing.proofs.lines.spell.Goals as goal

pub rest-requires : goal.rest-requires
rest-requires c =
    let a = c.args in
    rest_room a.out.now a.at a.began c.requires _ _ _ _ _ _ c.put_number-end.ensures c.put-end.ensures c.put_number-end-2.ensures

pub returns : goal.returns
returns c =
    let a = c.args in
    spelled a.out.now a.at a.began c.requires _ _ _ _ _ _ c.put_number-end.ensures c.put-end.ensures c.put_number-end-2.ensures a.find _ _ c.rest.ensures
