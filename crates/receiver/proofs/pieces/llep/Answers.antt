-- `receiver::pieces::llep` meets its contract: one LLEP with its end byte.
-- Assumes nothing.
use Rattle.receiver.proofs.Walking.{inside_at}
use Rattle.receiver.proofs.Piecing.{llep_turn_lem}
use lib.ListN.{length}
use mathlib.Core.Path.{sym, ◌∙◌}
use Rattle.receiver.proofs.pieces.llep.Goals as goal

pub behind-requires : goal.behind-requires
behind-requires c = let a = c.args in inside_at a.tp.now a.r.walk.at _ _ (sym c.item.ensures ∙ c.in-Some.is)

pub returns-in-None : goal.returns-in-None
returns-in-None c = let a = c.args in rw (c.drop_rest.ensures, c.of-place.ensures, c.own.ensures) (llep_turn_lem a.r _ _ a.offset (length a.tp.now) (sym c.item.ensures ∙ c.in-None.is))

pub returns-in-Some : goal.returns-in-Some
returns-in-Some c = let a = c.args in rw c.behind.ensures (llep_turn_lem a.r _ _ a.offset (length a.tp.now) (sym c.item.ensures ∙ c.in-Some.is))
