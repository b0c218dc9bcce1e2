-- `receiver::lane::from_busy` meets its contract: the TP's end cuts the data, or the packet is handed out.
-- Assumes nothing.
use mathlib.Core.Path.{sym, ◌∙◌}
use native.Mathlib.Omega.{arith}
use Rattle.receiver.proofs.LaneOut.{busy_ends, busy_gives}
use borrow.Author.Rules.{rules}
use Rattle.receiver.proofs.lane.from_busy.Goals as goal

pub returns-then-rest-left : goal.returns-then-rest-left
returns-then-rest-left c =
    let a = c.args in
    let e = sym c.min.ensures ∙ c.if-min-n.false in
    busy_ends a.began a.left a.len a.content a.flips a.n a.at a.tp.now a.room.now _ c.requires.1 (λ i. omega (arith, c.type_inv.tp i)) c.requires.0 e c.copy_at.ensures (search rules) c.if-rest-left.true

pub returns : goal.returns
returns c =
    let a = c.args in
    let e = sym c.min.ensures ∙ c.if-min-n.false in
    busy_gives a.began a.left a.len a.content a.flips a.n a.at a.tp.now a.room.now _ c.requires.1 (λ i. omega (arith, c.type_inv.tp i)) c.requires.0 e c.copy_at.ensures (search rules) c.if-rest-left.false
