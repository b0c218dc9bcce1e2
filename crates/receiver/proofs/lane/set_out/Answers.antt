-- `receiver::lane::set_out` meets its contract: past the payload, or behind the low-latency part in a lane.
-- Assumes nothing.
use mathlib.Core.Path.{sym, ◌∙◌}
use lib.ListN.{length}
use Rattle.receiver.proofs.LaneOut.{out_outside}
use Rattle.receiver.proofs.Parting.{behind_in}
use Rattle.receiver.proofs.lane.set_out.Goals as goal

pub from_lane-requires : goal.from_lane-requires
from_lane-requires c =
    let a = c.args in
    let e = sym c.place_of.ensures ∙ c.in-Ok.is in
    (behind_in a.offset a.at (length a.tp.now) _ c.if-tp-at.false e, c.requires)

pub returns-in-Err : goal.returns-in-Err
returns-in-Err c =
    let a = c.args in
    let e = sym c.in-Err.is ∙ c.place_of.ensures in
    out_outside a.lane a.offset a.at _ a.tp.now a.room.now c.requires e

pub returns-in-Ok : goal.returns-in-Ok
returns-in-Ok c =
    let e = sym c.place_of.ensures ∙ c.in-Ok.is in
    λ b k t d p small. c.from_lane.ensures b k t _ d p small e
