-- `house::whole::data_of` meets its contract: what the slice has of the data is returned.
-- Assumes nothing.
use Rattle.house.proofs.Slicing.{no_data, all_behind, as_said}
use Rattle.house.proofs.whole.data_of.Goals as goal

pub returns-then-s-lt8 : goal.returns-then-s-lt8
returns-then-s-lt8 c = no_data c.args.said c.args.s.now c.if-s-lt8.true

pub returns-then-s-n : goal.returns-then-s-n
returns-then-s-n c = all_behind c.args.said c.args.s.now _ c.length_of-n.ensures c.if-s-n.true

pub returns : goal.returns
returns c = as_said c.args.said c.args.s.now _ c.length_of-n.ensures
