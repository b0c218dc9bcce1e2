-- `receiver::words::next` meets its contract: at once, or in a series.
-- Assumes nothing.
use Rattle.receiver.proofs.Serially.{at_once, in_series, still_fit}
use Rattle.receiver.proofs.words.next.Goals as goal

pub next-requires-in-None : goal.next-requires-in-None
next-requires-in-None c =
    let a = c.args in
    still_fit a.w.now a.tp.now a.room.now c.requires _ _ _ c.next.ensures c.in-None.is

pub returns-in-Some : goal.returns-in-Some
returns-in-Some c =
    let a = c.args in
    at_once a.w.now a.tp.now a.room.now c.requires _ _ _ c.next.ensures _ c.in-Some.is

pub returns-in-None : goal.returns-in-None
returns-in-None c =
    let a = c.args in
    let n = c.next-in-None in
    in_series a.w.now a.tp.now a.room.now c.requires _ _ _ c.next.ensures c.in-None.is n.result n.new.w n.new.room n.ensures
