-- None, or the byte at its place. Assumes nothing.
use mathlib.Core.Path.{sym}
use native.Mathlib.Omega.{arith}
use lib.ListN.{get_or-eq_default}
use Rattle.queue.specs.Ring.{held}
use Rattle.queue.proofs.Puts.{length_held}
use Rattle.queue.proofs.Takes.{byte_is}
use Rattle.queue.proofs.Ring.byte_at.Goals as goal

pub returns-then-self-i : goal.returns-then-self-i
returns-then-self-i c =
    let a = c.args in
    let l = length_held a.buf.now a.self c.requires in
    sym (get_or-eq_default (held a.buf.now a.self) 0 (omega (arith, c.if-self-i.true)))

pub returns : goal.returns
returns c =
    byte_is c.args.buf.now c.args.self c.args.i c.if-self-i.false c.requires _ c.place_of.ensures
