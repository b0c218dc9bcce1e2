-- `house::whole::write_record` meets its contract: head and data, put one after the other, are the record.
-- Assumes nothing.
use mathlib.Core.Path.{ap, sym, ◌∙◌}
use Rattle.block.specs.Block.{put}
use Rattle.house.proofs.Slicing.{other_length, no_room, both_put}
use Rattle.house.proofs.whole.write_record.Goals as goal

pub returns-then-data-length_of : goal.returns-then-data-length_of
returns-then-data-length_of c = let a = c.args in other_length a.said a.«data».now a.out.now a.at _ c.length_of.ensures c.if-data-length_of.true

pub returns-then-not-has_room : goal.returns-then-not-has_room
returns-then-not-has_room c = let a = c.args in no_room a.said a.«data».now a.out.now a.at _ c.length_of.ensures c.if-data-length_of.false (sym c.has_room.ensures ∙ c.if-not-has_room.true)

pub returns : goal.returns
returns c = let a = c.args in both_put a.said a.«data».now a.out.now a.at _ c.length_of.ensures c.if-data-length_of.false (sym c.has_room.ensures ∙ c.if-not-has_room.false) _ _ _ _ (c.put-from.ensures ∙ ap (put a.out.now a.at) c.head_of-head.ensures) c.put.ensures
