-- `receiver::swift::low_again` meets its contract: a find, or all is left as it was.
-- Assumes nothing.
use mathlib.Core.Path.{sym, ◌∙◌}
use Rattle.receiver.specs.Words.{receiver_in}
use Rattle.receiver.proofs.OnWords.{again_gives, stands_as}
use Rattle.receiver.proofs.swift.low_again.Goals as goal

pub put_lane-requires : goal.put_lane-requires
put_lane-requires c = (c.requires.0, (stands_as c.lane_in-lane.result (receiver_in c.args.w.now) c.in_default-lane.not-Other c.lane_in-lane.ensures).1)

pub returns : goal.returns
returns c =
    let a = c.args in
    let q = rw c.low_stage-stage.ensures at c.put_lane.ensures in
    let s = stands_as c.lane_in-lane.result (receiver_in a.w.now) c.in_default-lane.not-Other c.lane_in-lane.ensures in
    rw (c.of.ensures, c.own.ensures) (again_gives a.w.now c.lane_in-lane.result a.tp.now _ c.requires.0 c.requires.1 c.requires.2 s _ _ _ _ _ (sym c.lows.ensures ∙ c.in-Gives.is) q.w_after q.bytes)
