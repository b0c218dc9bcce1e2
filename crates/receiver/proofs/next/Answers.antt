-- `receiver::next` meets its contract: the call by the receiver's own count.
-- Assumes nothing.
use Rattle.receiver.specs.Call.{call_of}
use Rattle.receiver.proofs.next.Goals as goal

pub returns : goal.returns
unfolding call_of
returns c = rw c.own_stamps.ensures at c.call.ensures
