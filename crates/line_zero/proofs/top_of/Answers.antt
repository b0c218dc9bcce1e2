-- `line_zero::top_of` meets its contract: five fields and a line end fill the text.
-- Assumes nothing.
use mathlib.Core.Path.{refl}
use native.Mathlib.Omega.{arith}
use Rattle.line_zero.proofs.Laws.{room₁, room₂, room₃, room₄, whole_top}
use Rattle.line_zero.proofs.top_of.Goals as goal

pub put_field-at-requires-2 : goal.put_field-at-requires-2
put_field-at-requires-2 c = omega (arith, room₁ c.args.top _ refl _ _ c.put_field-at.ensures)

pub put_field-at-requires-3 : goal.put_field-at-requires-3
put_field-at-requires-3 c = omega (arith, room₂ c.args.top _ refl _ _ c.put_field-at.ensures _ _ c.put_field-at-2.ensures)

pub put_field-at-requires-4 : goal.put_field-at-requires-4
put_field-at-requires-4 c = omega (arith, room₃ c.args.top _ refl _ _ c.put_field-at.ensures _ _ c.put_field-at-2.ensures _ _ c.put_field-at-3.ensures)

pub put_field-at-requires-5 : goal.put_field-at-requires-5
put_field-at-requires-5 c = omega (arith, room₄ c.args.top _ refl _ _ c.put_field-at.ensures _ _ c.put_field-at-2.ensures _ _ c.put_field-at-3.ensures _ _ c.put_field-at-4.ensures)

pub returns : goal.returns
returns c = whole_top c.args.top _ refl _ _ c.put_field-at.ensures _ _ c.put_field-at-2.ensures _ _ c.put_field-at-3.ensures _ _ c.put_field-at-4.ensures _ _ _ _ c.put_field-at-5.ensures c.put.ensures
