-- One run and two. Assumes nothing.
use Rattle.queue.proofs.Runs.{read_one, read_two}
use Rattle.queue.proofs.Ring.read.Goals as goal

pub returns-then-n-first : goal.returns-then-n-first
returns-then-n-first c =
    let a = c.args in
    read_one a.buf.now a.dst.now a.self c.requires.kept c.requires.dst_len_bound _ c.if-n-first.true c.copy_from_slice.ensures.after

pub returns : goal.returns
returns c =
    let a = c.args in
    read_two a.buf.now a.dst.now a.self c.requires.kept c.requires.dst_len_bound _ _ c.if-n-first.false c.copy_from_slice-2.ensures.after c.copy_from_slice-3.ensures.after
