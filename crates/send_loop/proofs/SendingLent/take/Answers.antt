-- `Sending::take`: the records of a block are taken.
-- Assumes nothing.
use Rattle.send_loop.proofs.Whole.{went}
use Rattle.send_loop.proofs.SendingLent.take.Goals as goal

pub returns : goal.returns
returns c =
    let t = c.turns.ensures in
    record { whole = t.whole; begins = t.begins; behind = λ begun n h. (t.ready, went h.1 t.sent) }
