-- `receiver::stages::take_up` meets its contract: where the call takes the TP up, as a course.
-- Assumes nothing.
use Rattle.receiver.proofs.TakingUp.{find_leads, part_at, part_leads, plain_leads}
use Rattle.receiver.specs.Call.{counted_of, stage_call}
use Rattle.receiver.proofs.stages.take_up.Goals as goal

pub part-requires : goal.part-requires
part-requires c =
    let a = c.args in
    let g = stage_call a.r.stage a.r (counted_of a.r) a.t a.tp.now in
    let p = part_at g (counted_of a.r) a.t.now a.tp.now _ c.begin.ensures _ _ _ c.in-Part.is in
    rw c.counted.ensures (p.small, p.lent)

pub returns-in-Gives : goal.returns-in-Gives
returns-in-Gives c =
    let a = c.args in
    let g = stage_call a.r.stage a.r (counted_of a.r) a.t a.tp.now in
    find_leads g (counted_of a.r) a.t.now a.tp.now _ c.begin.ensures _ c.in-Gives.is

pub returns-in-Part : goal.returns-in-Part
returns-in-Part c =
    let a = c.args in
    let g = stage_call a.r.stage a.r (counted_of a.r) a.t a.tp.now in
    let p = rw c.counted.ensures at c.part.ensures in
    part_leads g (counted_of a.r) a.t.now a.tp.now _ c.begin.ensures _ _ _ _ c.in-Part.is p

pub returns-in-Plain : goal.returns-in-Plain
returns-in-Plain c =
    let a = c.args in
    let g = stage_call a.r.stage a.r (counted_of a.r) a.t a.tp.now in
    plain_leads g (counted_of a.r) a.t.now a.tp.now _ c.begin.ensures c.in-Plain.is
