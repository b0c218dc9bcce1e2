-- `receiver::track::lane_of` meets its contract: by the sort. Assumes nothing.
use mathlib.Core.Path.{sym}
use Rattle.receiver.proofs.Tracked.{lane_cut, lane_idle, lane_last, lane_lost}
use Rattle.receiver.proofs.track.lane_of.Goals as goal

pub returns-then-t-eq-LOST : goal.returns-then-t-eq-LOST
returns-then-t-eq-LOST c = sym (lane_lost c.args.t c.if-t-eq-LOST.true)

pub returns-then-t-eq-IDLE : goal.returns-then-t-eq-IDLE
returns-then-t-eq-IDLE c = sym (lane_idle c.args.t c.if-t-eq-IDLE.true)

pub returns-then-t-eq-CUT : goal.returns-then-t-eq-CUT
returns-then-t-eq-CUT c = lane_cut c.args.t _ c.place_of-began.ensures c.if-t-eq-CUT.true

pub returns : goal.returns
returns c =
    lane_last c.args.t c.args.cap _ c.place_of-began.ensures c.if-t-eq-LOST.false c.if-t-eq-IDLE.false c.if-t-eq-CUT.false c.requires
