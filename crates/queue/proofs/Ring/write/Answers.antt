-- The two runs. Assumes nothing.
use Rattle.queue.proofs.Runs.{write_runs}
use Rattle.queue.proofs.Ring.write.Goals as goal

pub returns : goal.returns
returns c =
    let a = c.args in
    write_runs a.buf.now a.src.now a.self c.requires.kept c.requires.src_in_bounds _ _ _ _ c.place_of-tail.ensures c.clamped-first.ensures c.copy_run.ensures c.copy_run-2.ensures
