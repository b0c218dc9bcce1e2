-- `index_loop::lanes::Laned::payload` meets its contract: the low-latency part ends within the TP, and the ordinary bytes follow, by the
-- calls of both.
-- Assumes nothing.
use Rattle.index_loop.proofs.Leading.{within_left, broken_left, behind_left}
use Rattle.index_loop.proofs.Passing.{behind_lent}
use Rattle.index_loop.proofs.lanes.Laned.payload.Goals as goal

pub returns-in-Within-clause-leaves_by : goal.returns-in-Within-clause-leaves_by
returns-in-Within-clause-leaves_by c =
    let a = c.args in
    let p = c.requires in
    within_left _ _ a.lane a.present a.offset a.self.tp.now a.room.now _ _ _ _ _ p.tidy p.in_bounds.1 c.low_part-parted.ensures.parted_by _ c.in-Within.is

pub returns-in-Broken-clause-leaves_by : goal.returns-in-Broken-clause-leaves_by
returns-in-Broken-clause-leaves_by c =
    let a = c.args in
    let p = c.requires in
    broken_left _ _ a.lane a.present a.offset a.self.tp.now a.room.now _ _ _ _ _ p.tidy p.in_bounds.1 c.low_part-parted.ensures.parted_by c.in-Broken.is

pub returns-in-Behind-clause-leaves_by : goal.returns-in-Behind-clause-leaves_by
returns-in-Behind-clause-leaves_by c =
    let a = c.args in
    let p = c.requires in
    let w = c.low_part-parted.ensures in
    let g = c.in-Behind.is in
    let r = c.ordinary in
    behind_left _ _ a.lane a.present a.offset a.self.tp.now a.room.now _ _ _ _ _ p.tidy p.in_bounds.1 w.parted_by _ r.result.left _ _ r.result.at g
    (behind_lent _ _ a.self.tp.now a.room.now w.part_fits g) r.ensures.leaves_by
