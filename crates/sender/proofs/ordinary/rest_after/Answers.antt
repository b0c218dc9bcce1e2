-- `ordinary::rest_after` meets its contract: from place `at` on the count is the same. The measure is what is left of n. Assumes nothing.
use native.Mathlib.Omega.{arith}
use lib.ListN.{drop, length-drop}
use Rattle.queue.specs.Ring.{held}
use Rattle.queue.proofs.Puts.{length_held}
use Rattle.sender.proofs.Heads.{span_within, span_some}
use Rattle.sender.proofs.RestAfter.{run, turn, over}
use Rattle.sender.proofs.ordinary.rest_after.Goals as goal

pub loop-at-init : goal.loop-at-init
loop-at-init c =
    let a = c.args in
    (c.requires.rest_le_len.0, run a.n (held a.buf.now a.q) a.rest (omega (arith, length_held a.buf.now a.q c.requires.kept)))

pub span_at-at-requires : goal.span_at-at-requires
span_at-at-requires c = record { kept = c.requires.kept; at_lt_len = (omega arith, c.requires.rest_le_len.2) }

pub overflow_add-at : goal.overflow_add-at
overflow_add-at c =
    let a = c.args in
    let q = held a.buf.now a.q in
    let l = length_held a.buf.now a.q c.requires.kept in
    let m = c.requires.rest_le_len.2 in
    omega (arith, c.span_at-at.ensures, span_within (drop c.loop-at.at q), length-drop c.loop-at.at q)

pub loop-at-smaller : goal.loop-at-smaller
loop-at-smaller c =
    let a = c.args in
    let q = held a.buf.now a.q in
    let l = length_held a.buf.now a.q c.requires.kept in
    let p : _ = span_some (drop c.loop-at.at q) (omega (arith, length-drop c.loop-at.at q)) in
    omega (arith, c.span_at-at.ensures)

pub loop-at-preserved : goal.loop-at-preserved
loop-at-preserved c =
    let a = c.args in
    let q = held a.buf.now a.q in
    turn a.n c.loop-at.at a.q.len a.rest q c.span_at-at.result (length_held a.buf.now a.q c.requires.kept) c.requires.rest_le_len.1 c.loop-at-test.true c.span_at-at.ensures c.loop-at.invariant.1

pub returns : goal.returns
returns c =
    let a = c.args in
    let q = held a.buf.now a.q in
    over a.n c.loop-at.at a.q.len a.rest q (length_held a.buf.now a.q c.requires.kept) c.requires.rest_le_len.0 c.requires.rest_le_len.1 c.loop-at-test.false c.loop-at.invariant.1
