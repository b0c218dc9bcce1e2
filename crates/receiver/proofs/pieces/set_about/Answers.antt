-- `receiver::pieces::set_about` meets its contract: what the forecast decided, as a piece.
-- Assumes nothing.
use Rattle.receiver.proofs.Piecing.{out_turn_lem}
use lib.ListN.{length}
use mathlib.Core.Path.{sym, ◌∙◌}
use Rattle.receiver.proofs.pieces.set_about.Goals as goal

pub returns-in-Ok : goal.returns-in-Ok
returns-in-Ok c = let a = c.args in rw (c.on.ensures, c.piece_of.ensures) (out_turn_lem a.r _ _ a.n (length a.tp.now) (sym c.set_out.ensures ∙ c.in-Ok.is))

pub returns-in-Err : goal.returns-in-Err
returns-in-Err c = let a = c.args in rw (c.gave.ensures, c.piece_of-in-Err.ensures, c.step_to-step.ensures, c.lost_at-place.ensures, c.own.ensures, c.upon-there.ensures) (out_turn_lem a.r _ _ a.n (length a.tp.now) (sym c.set_out.ensures ∙ c.in-Err.is))
