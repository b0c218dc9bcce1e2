-- `receiver::pieces::first` meets its contract: the TP's header.
-- Assumes nothing.
use Rattle.receiver.proofs.Piecing.{top_turn_lem}
use lib.ListN.{length}
use mathlib.Core.Path.{sym, ◌∙◌}
use Rattle.receiver.proofs.pieces.first.Goals as goal

pub returns-in-Elsewhere : goal.returns-in-Elsewhere
returns-in-Elsewhere c = let a = c.args in rw c.same.ensures (top_turn_lem a.r _ _ (length a.tp.now) (sym c.read_top.ensures ∙ c.in-Elsewhere.is))

pub returns-in-Dropped : goal.returns-in-Dropped
returns-in-Dropped c = let a = c.args in rw (c.gave.ensures, c.piece_of.ensures, c.step_to-step.ensures, c.start-place.ensures, c.own.ensures, c.counted-c.ensures) (top_turn_lem a.r _ _ (length a.tp.now) (sym c.read_top.ensures ∙ c.in-Dropped.is))

pub returns-in-Says : goal.returns-in-Says
returns-in-Says c = let a = c.args in rw (c.on.ensures, c.piece_of-in-Says.ensures, c.counted.ensures, c.low_stage-stage.ensures) (top_turn_lem a.r _ _ (length a.tp.now) (sym c.read_top.ensures ∙ c.in-Says.is))
