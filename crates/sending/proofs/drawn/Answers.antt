-- `sending::drawn` meets its contract: with too little room nothing happens; else the laws put the draw's part back into the block.
-- Assumes nothing.
use Prim.Native.Nat.{◌+◌, ◌≤◌, ◌<◌}
use mathlib.Core.Path.{ap, ◌∙◌}
use native.Mathlib.Omega.{arith}
use lib.ListN.{length}
use Rattle.block.specs.Block.{put}
use Rattle.sending.proofs.Laws.{drew_one, drew_none, drew_nothing}
use Rattle.sending.proofs.drawn.Goals as goal
use Rattle.sending.proofs.drawn.Goals.{then-out-at-via-then-out-at, then-out-at-via-else-out-at+then-out-at-lt8, then-out-at-via-else-out-at+else-out-at-lt8+then-out-at-2}

pub returns-then-out-at-clause-refused_after : goal.returns-then-out-at-clause-refused_after
returns-then-out-at-clause-refused_after c =
    let a = c.args in
    let full : length a.out.now < a.at + 8 + a.tp =
    elim c.then-out-at.branch [
      | then-out-at-via-then-out-at w ↦ omega (arith, w.if-out-at.true)
      | then-out-at-via-else-out-at+then-out-at-lt8 w ↦ omega (arith, w.if-out-at.false, w.if-out-at-lt8.true)
      | then-out-at-via-else-out-at+else-out-at-lt8+then-out-at-2 w ↦ omega (arith, w.if-out-at.false, w.if-out-at-lt8.false, w.if-out-at-2.true)
    ] in
    drew_nothing a.s a.low.now a.ordinary.now a.out.now a.at a.tp full

pub returns-in_default-clause-refused_after : goal.returns-in_default-clause-refused_after
returns-in_default-clause-refused_after c =
    let a = c.args in
    let h : a.at + 8 + a.tp ≤ length a.out.now = omega arith in
    drew_none a.out.now a.at a.tp h a.s a.low.now a.ordinary.now _ c.draw.auto.tp _ _ c.draw.ensures.tp_after c.in_default.is

pub returns-clause-refused_after : goal.returns-clause-refused_after
returns-clause-refused_after c =
    let a = c.args in
    let h : a.at + 8 + a.tp ≤ length a.out.now = omega arith in
    drew_one a.out.now a.at a.tp h a.s a.low.now a.ordinary.now _ c.draw.auto.tp _ _ _ _ c.draw.ensures.tp_after c.in-Ok.is (c.put.ensures ∙ ap (put _ a.at) c.head_of-head.ensures)
