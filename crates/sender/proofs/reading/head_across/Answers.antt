-- `reading::head_across` meets its contract: each byte, and their number. Assumes nothing.
use native.Mathlib.Omega.{arith}
use Rattle.queue.specs.Ring.{held}
use Rattle.queue.proofs.Puts.{length_held}
use Rattle.sender.proofs.Heads.{head_apart}
use Rattle.sender.proofs.reading.head_across.Goals as goal

pub returns : goal.returns
returns c =
    let a = c.args in
    let l = length_held a.buf.now a.q c.requires.kept in
    (head_apart (held a.buf.now a.q) a.i _ _ _ _ _ _ _ _ (omega (arith, c.requires.i_bound)) c.byte_at.ensures c.byte_at-2.ensures c.byte_at-3.ensures c.byte_at-4.ensures c.byte_at-5.ensures c.byte_at-6.ensures c.from_four-a.ensures c.from_two-b.ensures, omega (arith, c.from_four-a.ensures, c.from_two-b.ensures))
