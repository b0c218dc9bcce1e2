-- `index_loop::lanes::Laned::ordinary` meets its contract: what is met first leads on by its call, or is left.
-- Assumes nothing.
use native.Mathlib.Omega.{arith}
use Rattle.index_loop.proofs.Hearing.{pauses_none}
use Rattle.index_loop.proofs.Leading.{out_off, out_on}
use Rattle.index_loop.proofs.Passing.{out_lent}
use Rattle.index_loop.proofs.lanes.Laned.ordinary.Goals as goal

pub returns-then-self-at-clause-leaves_by : goal.returns-then-self-at-clause-leaves_by
returns-then-self-at-clause-leaves_by c = λ b k d. pauses_none

pub returns-in-Break-clause-leaves_by : goal.returns-in-Break-clause-leaves_by
returns-in-Break-clause-leaves_by c =
    let p = c.requires in
    out_off _ _ _ _ _ _ _ _ _ _ _ _ _ p.le_place.0 p.le_place.1 c.outset-noted.ensures c.way_of.ensures _ c.in-Break.is

pub returns-in-Continue-clause-leaves_by : goal.returns-in-Continue-clause-leaves_by
returns-in-Continue-clause-leaves_by c =
    let p = c.requires in
    let o = c.outset-noted.ensures in
    let w = c.way_of.ensures in
    let g = c.in-Continue.is in
    let r = c.run_on in
    out_on _ _ _ _ _ _ _ _ _ _ _ _ _ p.le_place.0 p.le_place.1 o w _ r.result.left _ _ r.result.at g
    (out_lent _ _ _ _ _ _ _ _ _ _ _ _ _ p.tidy p.le_place.0 p.le_place.1 o w _ g (omega arith)) r.ensures.leaves_by
