-- Where s fits its part of the block becomes s, and elsewhere nothing is written. Assumes nothing.
use Prim.Native.Nat.{◌+◌, ◌≤◌, ◌<◌}
use mathlib.Core.Path.{ap, sym, ◌∙◌}
use native.Mathlib.Omega.{arith}
use lib.ListN.{length}
use Rattle.block.proofs.Laws.{fits, misfits, in_part, block_of}
use Rattle.block.proofs.put.Goals.{then-out-at-via-then-out-at, then-out-at-via-else-out-at+then-out-at-2}
use Rattle.block.proofs.put.Goals as goal

pub returns-then-out-at : goal.returns-then-out-at
returns-then-out-at c =
    let a = c.args in
    let full : length a.out.now < a.at + length a.s.now =
    elim c.then-out-at.branch [ then-out-at-via-then-out-at w ↦ omega (arith, w.if-out-at) | then-out-at-via-else-out-at+then-out-at-2 w ↦ omega (arith, w.if-out-at, w.if-out-at-2) ] in
    sym (misfits a.out.now a.at a.s.now full)

pub returns : goal.returns
returns c =
    let a = c.args in
    let h : a.at + length a.s.now ≤ length a.out.now = omega arith in
    ap (λ x. block_of x (a.at + length a.s.now)) (in_part a.out.now a.s.now _ a.at h c.copy_from_slice.ensures.after) ∙ sym (fits a.out.now a.at a.s.now h)
