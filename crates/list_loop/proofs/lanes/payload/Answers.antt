-- `list_loop::lanes::payload` meets its contract: the low-latency part ends within the TP, and the ordinary bytes follow, by the calls of both.
-- Assumes nothing.
use mathlib.Core.Path.{refl}
use Rattle.list_loop.proofs.Parting.{payload_behind, payload_part, payload_plain}
use Rattle.list_loop.proofs.lanes.payload.Goals as goal

pub returns-then-not-low-clause-leaves_by : goal.returns-then-not-low-clause-leaves_by
returns-then-not-low-clause-leaves_by c = let p = c.requires in payload_plain _ _ _ _ _ _ _ _ _ p.6 p.5 _ _ _ c.if-not-low.true c.ordinary.ensures.leads_by

pub returns-then-p : goal.returns-then-p
returns-then-p c =
    let p = c.requires in
    let w = c.low_part-p in
    payload_part _ _ _ _ _ _ _ _ _ p.6 p.5 w.result _ c.if-not-low.false w.ensures.part_steady w.ensures.parted_by _ _ c.left_behind-left.ensures refl

pub returns-clause-leaves_by : goal.returns-clause-leaves_by
returns-clause-leaves_by c =
    let p = c.requires in
    let w = c.low_part-p in
    payload_behind _ _ _ _ _ _ _ _ _ p.6 p.5 w.result _ c.if-not-low.false w.ensures.part_steady w.ensures.parted_by _ _ _ _ c.if-p.false c.left_behind-left.ensures c.ordinary-2.ensures.leads_by
