-- `list_loop::lanes::ordinary` meets its contract: what is met first leads on by its call, or is left.
-- Assumes nothing.
use Rattle.list_loop.proofs.Leading.{off_led, on_led, onto_asks, onto_sort, over_led}
use native.Mathlib.Omega.{arith}
use mathlib.Core.Path.{refl}
use Rattle.list_loop.proofs.lanes.ordinary.Goals as goal

pub set_out-o-requires : goal.set_out-o-requires
set_out-o-requires c = let p = c.requires in (p.le_here.4, p.le_here.3, p.le_here.2, p.le_here.0, p.le_here.1, p.kept.3)

pub returns-then-o-eq-OFF : goal.returns-then-o-eq-OFF
returns-then-o-eq-OFF c = let p = c.requires in off_led _ _ _ _ _ _ _ _ _ _ p.kept.0 _ _ _ (c.set_out-o.ensures.off c.if-o-eq-OFF.true) p.le_here.3 refl

pub returns-then-o-eq-OVER : goal.returns-then-o-eq-OVER
returns-then-o-eq-OVER c =
    let p = c.requires in
    let w = c.set_out-o in
    over_led _ _ _ _ _ _ _ _ _ _ p.kept.0 w.result _ w.ensures p.le_here.0 p.le_here.2 _ _ c.if-o-eq-OVER.true refl

pub run_on-requires : goal.run_on-requires
run_on-requires c =
    let p = c.requires in
    let w = c.set_out-o in
    let x = onto_asks w.result _ _ _ _ _ _ w.ensures (onto_sort w.result w.ensures.sort c.if-o-eq-OFF.false c.if-o-eq-OVER.false) p.le_here.3 in
    record { kept = p.kept; content_bound = (x.0, x.1, x.2, w.ensures.flips) }

pub returns : goal.returns
returns c =
    let p = c.requires in
    let w = c.set_out-o in
    let sort = onto_sort w.result w.ensures.sort c.if-o-eq-OFF.false c.if-o-eq-OVER.false in
    let x = onto_asks w.result _ _ _ _ _ _ w.ensures sort p.le_here.3 in
    let r = c.run_on in
    record { steady = r.ensures.steady; leads_by = on_led _ _ _ _ _ _ _ _ _ _ p.kept.0 w.result _ w.ensures p.le_here.0 p.le_here.2 r.result _ _ _ (omega arith) x.1 sort r.ensures.runs_by }
