-- `index_loop::lanes::run_of` meets its contract: the receiver in this lane can be called.
-- Assumes nothing.
use mathlib.Core.Path.{refl, sym, subst}
use Rattle.receiver.specs.State.{Able}
use Rattle.index_loop.proofs.lanes.run_of.Goals as goal

pub returns : goal.returns
returns c = record { able = subst Able (sym c.in_lane.ensures) c.requires.able; receiver = c.in_lane.ensures; number = refl; at = refl; from = refl }
