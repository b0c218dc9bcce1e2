-- `console::read_on` meets its contract: only bytes behind the stretch are read into.
-- Assumes nothing.
use Prim.Native.Nat.{◌-◌}
use mathlib.Core.Path.{refl}
use native.Mathlib.Omega.{arith}
use lib.ListN.{length, drop}
use Rattle.console.proofs.Laws.{stretch_in, still_first}
use borrow.Author.Rules.{rules}
use Rattle.console.proofs.Console.read_on.Goals as goal

pub slice_bounds-read-count : goal.slice_bounds-read-count
slice_bounds-read-count c = stretch_in c.args.block.now c.args.unread _ _ c.to_start-n.ensures.value (omega arith)

pub slice_bounds-read-start : goal.slice_bounds-read-start
slice_bounds-read-start c = stretch_in c.args.block.now c.args.unread _ _ c.to_start-n.ensures.value (omega arith)

pub returns-then-count-gt0 : goal.returns-then-count-gt0
returns-then-count-gt0 c =
    let a = c.args in
    let t = c.to_start-n in
    let n = c.to_start-n.result in
    let m = c.to_start-n.new.block in
    let long = c.to_start-n.ensures.value in
    (c.begin_of-begin.ensures, (refl, (search rules, (omega (arith, long, c.if-count-gt0.true), still_first a.block.now m c.read-got.new.buf (drop (length m - n) (drop n m)) a.unread n long t.ensures.block_after (stretch_in a.block.now a.unread _ _ long (omega arith))))))
