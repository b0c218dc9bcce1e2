-- `receiver::track::head` meets its contract: the header is whole and data follow it, or it is left.
-- Assumes nothing.
use Rattle.receiver.proofs.TrackOut.{head_beyond, head_read}
use Rattle.receiver.proofs.track.head.Goals as goal

pub returns-then-tp-here : goal.returns-then-tp-here
returns-then-tp-here c = head_beyond _ _ _ c.if-tp-here.true

pub returns : goal.returns
returns c = head_read _ _ _ _ _ c.if-tp-here.false c.gather.ensures c.read_header.ensures
