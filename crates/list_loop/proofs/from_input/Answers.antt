-- `list_loop::from_input`: the loop begins with what `open` gives, and no TP done.
-- Assumes nothing.
use native.Mathlib.Omega.{arith}
use lib.ListN.{length, length-take, length-drop}
use Prim.Native.Nat.{◌≤◌}
use Rattle.console.specs.Taking.{stretch}
use Rattle.list_loop.specs.Rounds.{begins}
use Rattle.list_loop.proofs.from_input.Goals as goal

pub run_lent-requires-clause-before : goal.run_lent-requires-clause-before
run_lent-requires-clause-before c =
    let o = c.in-Some-open.ensures in
    let s = stretch c.first.new.block c.in-Some.start.unread in
    let size : length s ≤ length c.first.new.block = rw (length-take, length-drop) (omega arith) in
    let most : length s ≤ 131072 = omega arith in
    record { ready = o.ready; size = most; count = omega (arith, most, o.begins.done); comes = begins o.begins }
