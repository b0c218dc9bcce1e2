-- `receiver::swift::before` meets its contract: by the spot.
-- Assumes nothing.
use Rattle.receiver.specs.Words.{receiver_in}
use Rattle.receiver.proofs.OnWords.{low_bounds, part_gone, part_low, part_on, part_over}
use Rattle.receiver.proofs.swift.before.Goals as goal

pub low_next-requires : goal.low_next-requires
low_next-requires c = let a = c.args in
    let b = low_bounds (receiver_in a.w.now) a.count a.lane a.tp.now a.w.now a.w.now _ c.requires.3 c.spot_of-spot.ensures _ _ c.in-Low.is in
    (c.requires.0, c.requires.1.1, c.requires.2, b.0, b.1, b.2)

pub returns-in-Gone : goal.returns-in-Gone
returns-in-Gone c = let a = c.args in
    rw (c.notice.ensures, c.start.ensures, c.own.ensures) (part_gone (receiver_in a.w.now) a.count a.lane a.tp.now a.w.now _ _ c.requires.3 c.spot_of-spot.ensures _ c.in-Gone.is c.put_lane.ensures.w_after c.put_lane.ensures.bytes)

pub returns-in-Over : goal.returns-in-Over
returns-in-Over c = let a = c.args in
    rw c.nothing.ensures (part_over (receiver_in a.w.now) a.count a.lane a.tp.now a.w.now _ _ c.requires.3 c.spot_of-spot.ensures c.in-Over.is c.put_lane-in-Over.ensures.w_after c.put_lane-in-Over.ensures.bytes)

pub returns-in-Low : goal.returns-in-Low
returns-in-Low c = let a = c.args in
    part_low (receiver_in a.w.now) a.count a.lane a.tp.now a.w.now _ _ c.requires.3 c.spot_of-spot.ensures _ _ c.in-Low.is c.low_next.result c.low_next.ensures

pub returns-in-Due : goal.returns-in-Due
returns-in-Due c = let a = c.args in
    part_on (receiver_in a.w.now) a.count a.lane a.tp.now a.w.now a.w.now c.spot_of-spot.result c.requires.3 c.spot_of-spot.ensures

pub returns-in-Plain : goal.returns-in-Plain
returns-in-Plain c = let a = c.args in
    part_on (receiver_in a.w.now) a.count a.lane a.tp.now a.w.now a.w.now c.spot_of-spot.result c.requires.3 c.spot_of-spot.ensures
