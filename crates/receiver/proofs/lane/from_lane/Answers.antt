-- `receiver::lane::from_lane` meets its contract: each lane goes its way.
-- Assumes nothing.
use Prim.Native.Nat.{◌+◌}
use lib.ListN.{length}
use Rattle.receiver.specs.declared.lane.Lane.TheVariants as L
use Rattle.receiver.specs.declared.lane.Met.TheVariants as M
use Rattle.receiver.proofs.LaneOut.{idle_reads, lane_as, lost_reads, lost_stays, tidy_as}
use Rattle.receiver.proofs.lane.from_lane.Goals as goal

pub returns-then-start-tp : goal.returns-then-start-tp
returns-then-start-tp c =
    let a = c.args in
    lane_as a.n a.at a.tp.now a.room.now (M.Reads (a.at + a.n)) a.lane L.Lost a.room.now c.in-Lost.is
    (lost_reads a.n a.at a.tp.now a.room.now c.if-start-tp.true)

pub from_cut-requires : goal.from_cut-requires
from_cut-requires c =
    let a = c.args in
    let y = tidy_as (length a.room.now) a.lane (L.Cut _ _ _) c.in-Cut.is c.requires.1 in
    (c.requires.0, y.0, y.1, y.2)

pub from_busy-requires : goal.from_busy-requires
from_busy-requires c =
    let a = c.args in
    (c.requires.0, tidy_as (length a.room.now) a.lane (L.Busy _ _ _ _ _) c.in-Busy.is c.requires.1)

pub returns-else-start-tp : goal.returns-else-start-tp
returns-else-start-tp c =
    let a = c.args in
    lane_as a.n a.at a.tp.now a.room.now (M.Ends L.Lost) a.lane L.Lost a.room.now c.in-Lost.is
    (lost_stays a.n a.at a.tp.now a.room.now c.requires.0 c.if-start-tp.false)

pub returns-else-n-ne0 : goal.returns-else-n-ne0
returns-else-n-ne0 c =
    let a = c.args in
    lane_as a.n a.at a.tp.now a.room.now (M.Reads a.at) a.lane L.Idle a.room.now c.in-Idle.is
    (idle_reads a.n a.at a.tp.now a.room.now c.if-n-ne0.false)

pub returns-in-Cut : goal.returns-in-Cut
returns-in-Cut c =
    let a = c.args in
    lane_as a.n a.at a.tp.now a.room.now c.from_cut.result a.lane (L.Cut _ _ _) _ c.in-Cut.is c.from_cut.ensures

pub returns-in-Busy : goal.returns-in-Busy
returns-in-Busy c =
    let a = c.args in
    lane_as a.n a.at a.tp.now a.room.now c.from_busy.result a.lane (L.Busy _ _ _ _ _) _ c.in-Busy.is c.from_busy.ensures
