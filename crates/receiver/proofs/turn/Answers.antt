-- `receiver::turn` meets its contract: 6, or the piece of the stage.
-- Assumes nothing.
use mathlib.Core.Path.{subst}
use native.Mathlib.Omega.{arith}
use Rattle.receiver.specs.declared.Stage.{Stage}
use Rattle.receiver.specs.declared.Stage.TheVariants.{Due}
use Rattle.receiver.specs.State.{Staged}
use Rattle.receiver.proofs.Promising.{turn_as, turn_at, turn_six}
use Rattle.receiver.proofs.turn.Goals as goal

pub returns-then-r-tp : goal.returns-then-r-tp
returns-then-r-tp c = let a = c.args in turn_as a.r a.tp.now _ c.requires (λ i. omega (arith, c.type_inv.tp i)) (rw c.same.ensures (turn_six a.r a.tp.now c.if-r-tp.true))

pub due-requires : goal.due-requires
due-requires c = let g : Staged (Due _) c.args.r.walk = subst (λ (g : Stage). Staged g c.args.r.walk) c.in-Due.is c.requires.stage in (g.0, omega (arith, c.requires.walk.at, c.if-r-tp.false), g.2)

pub returns-in-Fresh : goal.returns-in-Fresh
returns-in-Fresh c = let a = c.args in turn_as a.r a.tp.now _ c.requires (λ i. omega (arith, c.type_inv.tp i)) (rw c.first.ensures (turn_at a.r a.tp.now _ c.if-r-tp.false c.in-Fresh.is))

pub returns-in-Low : goal.returns-in-Low
returns-in-Low c = let a = c.args in turn_as a.r a.tp.now _ c.requires (λ i. omega (arith, c.type_inv.tp i)) (rw c.llep.ensures (turn_at a.r a.tp.now _ c.if-r-tp.false c.in-Low.is))

pub returns-in-Due : goal.returns-in-Due
returns-in-Due c = let a = c.args in turn_as a.r a.tp.now _ c.requires (λ i. omega (arith, c.type_inv.tp i)) (rw c.due.ensures (turn_at a.r a.tp.now _ c.if-r-tp.false c.in-Due.is))

pub returns-in-Plain : goal.returns-in-Plain
returns-in-Plain c = let a = c.args in turn_as a.r a.tp.now _ c.requires (λ i. omega (arith, c.type_inv.tp i)) (rw c.plain.ensures (turn_at a.r a.tp.now _ c.if-r-tp.false c.in-Plain.is))
