-- `receiver::track::back` meets its contract. Assumes nothing.
use mathlib.Core.Path.{ap, ◌∙◌}
use Rattle.receiver.specs.declared.lane.Lane.{Lane}
use Rattle.receiver.specs.Lanes.{in_lane}
use Rattle.receiver.proofs.track.back.Goals as goal

pub in_lane-requires : goal.in_lane-requires
in_lane-requires c = rw c.lane_of.ensures c.requires.tidy

pub returns : goal.returns
returns c =
    let a = c.args in
    c.in_lane.ensures ∙ ap (λ (l : Lane). in_lane a.r a.count l a.stage a.at) c.lane_of.ensures
