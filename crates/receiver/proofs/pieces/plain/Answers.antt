-- `receiver::pieces::plain` meets its contract: a turn among ordinary bytes, as a piece.
-- Assumes nothing.
use Rattle.receiver.proofs.Piecing.{plain_turn}
use mathlib.Core.Path.{sym, ◌∙◌}
use Rattle.receiver.proofs.pieces.plain.Goals as goal

pub returns-in-More : goal.returns-in-More
returns-in-More c = let a = c.args in rw (c.on.ensures, c.read.ensures) (plain_turn a.r _ _ (rw c.own-stamp.ensures at (sym c.advance.ensures ∙ c.in-More.is)))

pub returns-in-Stop : goal.returns-in-Stop
returns-in-Stop c = let a = c.args in rw (c.gave.ensures, c.read-in-Stop.ensures, c.tell.ensures, c.own-stamp.ensures) (plain_turn a.r _ _ (rw c.own-stamp.ensures at (sym c.advance.ensures ∙ c.in-Stop.is)))
