-- `receiver::pieces::due` meets its contract: the outset.
-- Assumes nothing.
use Rattle.receiver.proofs.Piecing.{due_turn_lem}
use Rattle.receiver.proofs.Parting.{behind_in}
use lib.ListN.{length}
use mathlib.Core.Path.{sym, ◌∙◌}
use Rattle.receiver.proofs.pieces.due.Goals as goal

pub set_about-requires : goal.set_about-requires
set_about-requires c =
    let a = c.args in
    let e = sym c.place_of.ensures ∙ c.in-Ok.is in
    (behind_in a.offset a.r.walk.at (length a.tp.now) _ c.requires.1 e, c.requires.2)

pub returns-in-Err : goal.returns-in-Err
returns-in-Err c = let a = c.args in rw (c.drop_rest.ensures, c.start-place.ensures, c.own.ensures) (due_turn_lem a.r _ _ a.tp.now (sym c.place_of.ensures ∙ c.in-Err.is))

pub returns-in-Ok : goal.returns-in-Ok
returns-in-Ok c = let a = c.args in rw c.set_about.ensures (due_turn_lem a.r _ _ a.tp.now (sym c.place_of.ensures ∙ c.in-Ok.is))
