-- What is left: the head before the buffer's end, or past it. Assumes nothing.
use native.Mathlib.Omega.{arith}
use Rattle.queue.proofs.Takes.{off_within, off_past}
use Rattle.queue.proofs.Ring.off_by.Goals as goal

pub returns-then-n-first : goal.returns-then-n-first
returns-then-n-first c = let a = c.args in off_within a.cap a.self a.n (omega arith)

pub returns : goal.returns
returns c = let a = c.args in off_past a.cap a.self a.n c.requires.0 (omega arith)
