-- `receiver::stride::taken` meets its contract: the TP's end cuts the data, or the packet is handed out.
-- Assumes nothing.
use mathlib.Core.Path.{◌∙◌}
use Rattle.receiver.proofs.Standing.{taken_cut, taken_put, taken_whole}
use Rattle.receiver.proofs.stride.taken.Goals as goal

pub returns-then-n-size : goal.returns-then-n-size
returns-then-n-size c =
    let a = c.args in let n = c.min-n in record { value = c.stop.ensures ∙ taken_cut a.tp.now a.from n.result a.header a.began n.ensures c.if-n-size.true; room_after = taken_put a.tp.now a.from n.result a.header a.began n.ensures a.room.now _ c.requires.0 c.requires.1 c.copy_at.ensures }

pub returns : goal.returns
returns c =
    let a = c.args in let n = c.min-n in record { value = c.stop-2.ensures ∙ taken_whole a.tp.now a.from n.result a.header a.began n.ensures c.requires.2 c.if-n-size.false; room_after = taken_put a.tp.now a.from n.result a.header a.began n.ensures a.room.now _ c.requires.0 c.requires.1 c.copy_at.ensures }
