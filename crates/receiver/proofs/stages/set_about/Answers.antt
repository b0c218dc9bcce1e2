-- `receiver::stages::set_about` meets its contract: what the forecast decided, as a course.
-- Assumes nothing.
use Rattle.receiver.proofs.Parting.{set_loses, set_reads}
use Rattle.receiver.proofs.stages.set_about.Goals as goal

pub returns-in-Ok : goal.returns-in-Ok
returns-in-Ok c =
    let a = c.args in
    set_reads a.r a.stamp a.at a.n a.tp.now _ c.requires.1 _ c.requires.0 c.set_out.ensures c.in-Ok.is

pub returns-in-Err : goal.returns-in-Err
returns-in-Err c =
    let a = c.args in
    rw (c.step_to.ensures, c.emptied-none.ensures, c.lost_at-place.ensures) (set_loses a.r a.stamp a.at a.n a.tp.now _ c.requires.1 _ _ c.requires.0 c.upon-there.ensures c.set_out.ensures c.in-Err.is)
