-- `receiver::series::course_of` meets its contract: in data that the TP's end cuts, or between two EPs.
-- Assumes nothing.
use Rattle.receiver.proofs.Serially.{runs_cut, runs_whole}
use Rattle.receiver.proofs.series.course_of.Goals as goal

pub returns-then-c-gt0 : goal.returns-then-c-gt0
returns-then-c-gt0 c =
    let a = c.args in
    runs_cut a.tp.now a.c.at a.c.content a.c.len a.c.header a.c.from a.c.left a.room.now c.if-c-gt0.true

pub returns : goal.returns
returns c =
    let a = c.args in
    runs_whole _ a.tp.now a.c.at a.c.content a.c.len a.c.header a.c.from a.c.left a.room.now _ c.if-c-gt0.false c.run.ensures
