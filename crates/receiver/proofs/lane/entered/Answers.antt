-- `receiver::lane::entered` meets its contract: the TP's end cuts the data, or the packet is handed out.
-- Assumes nothing.
use native.Mathlib.Omega.{arith}
use Rattle.receiver.proofs.LaneAhead.{enters_cut, enters_whole}
use Rattle.receiver.proofs.lane.entered.Goals as goal

pub returns-then-n-size : goal.returns-then-n-size
returns-then-n-size c =
    let a = c.args in
    enters_cut a.h a.began a.from _ a.tp.now a.room.now _ (λ i. omega (arith, c.type_inv.tp i)) c.requires.0 c.requires.1 c.min-n.ensures c.copy_at.ensures c.if-n-size.true

pub returns : goal.returns
returns c =
    let a = c.args in
    enters_whole a.h a.began a.from _ a.tp.now a.room.now _ (λ i. omega (arith, c.type_inv.tp i)) c.requires.0 c.requires.1 c.min-n.ensures c.copy_at.ensures c.if-n-size.false
