-- `receiver::swift::first_spot` meets its contract.
-- Assumes nothing.
use mathlib.Core.Path.{ap, sym, ◌∙◌}
use mathlib.Core.Bool.{Bool, cond}
use Rattle.receiver.specs.declared.swift.Spot.TheVariants as T
use Rattle.receiver.specs.InSwift.{first_spot}
use Rattle.receiver.proofs.swift.first_spot.Goals as goal

pub returns-then-low : goal.returns-then-low
returns-then-low c = let o = c.in-Says.offset in
    ap (λ (b : Bool). cond b (T.Low o 4) (T.Due o 4)) (sym c.if-low.true) ∙ ap first_spot (sym c.in-Says.is ∙ c.read_top.ensures)

pub returns-in-Elsewhere : goal.returns-in-Elsewhere
returns-in-Elsewhere c = ap first_spot (sym c.in-Elsewhere.is ∙ c.read_top.ensures)

pub returns-in-Dropped : goal.returns-in-Dropped
returns-in-Dropped c = ap first_spot (sym c.in-Dropped.is ∙ c.read_top.ensures)

pub returns-else-low : goal.returns-else-low
returns-else-low c = let o = c.in-Says.offset in
    ap (λ (b : Bool). cond b (T.Low o 4) (T.Due o 4)) (sym c.if-low.false) ∙ ap first_spot (sym c.in-Says.is ∙ c.read_top.ensures)
