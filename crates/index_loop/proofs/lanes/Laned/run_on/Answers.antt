-- `index_loop::lanes::Laned::run_on` meets its contract: it goes on within the TP, by calls.
-- Assumes nothing.
use mathlib.Core.Path.{refl}
use native.Mathlib.Omega.{arith}
use Rattle.index_loop.proofs.Hearing.{pauses_none}
use Rattle.index_loop.proofs.Leading.{ran_on, ran_off}
use Rattle.index_loop.proofs.Passing.{ahead_lent}
use Rattle.index_loop.proofs.lanes.Laned.run_on.Goals as goal

pub loop-init : goal.loop-init
loop-init c = record { lent = λ b e. e; ran = λ b k e. pauses_none; room = refl; out = refl }

pub returns-in-Break-clause-leaves_by : goal.returns-in-Break-clause-leaves_by
returns-in-Break-clause-leaves_by c =
    let i = c.loop.invariant in
    ran_off _ _ _ _ _ _ _ _ _ _ _ _ _ _ _ _ i.lent i.ran c.ahead-noted.ensures c.plain-in-loop.ensures c.way_of.ensures _ c.in-Break.is

pub loop-preserved : goal.loop-preserved
loop-preserved c =
    let i = c.loop.invariant in
    let a = c.ahead-noted.ensures in
    let h = c.plain-in-loop.ensures in
    let w = c.way_of.ensures in
    let g = c.in-Continue.is in
    record {
      lent = ahead_lent _ _ _ _ _ _ _ _ _ _ _ _ _ _ i.lent a h w _ g (omega arith);
      ran = ran_on _ _ _ _ _ _ _ _ _ _ _ _ _ _ _ _ i.lent i.ran a h w _ g;
      room = omega (arith, i.room);
      out = omega (arith, i.out);
    }
