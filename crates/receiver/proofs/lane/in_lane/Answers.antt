-- `receiver::lane::in_lane` meets its contract. Assumes nothing.
use Rattle.receiver.proofs.lane.in_lane.Goals as goal

pub returns : goal.returns
returns c = rw c.walk_in.ensures
