-- `receiver::stride::past_fill` meets its contract: the invariant: the call asked for from here is the one asked for from the start. The measure is what is left of the TP.
-- Assumes nothing.
use mathlib.Core.Path.{refl}
use native.Mathlib.Omega.{arith}
use Rattle.receiver.proofs.Standing.{fill_of}
use Rattle.receiver.proofs.Striding.{fill_skips, skips_none, skips_on}
use Rattle.receiver.proofs.stride.past_fill.Goals as goal

pub loop-h-init : goal.loop-h-init
loop-h-init c =
    let a = c.args in skips_none a.tp.now a.start c.requires

pub fill_at-requires : goal.fill_at-requires
fill_at-requires c =
    c.loop-h.invariant.within

pub overflow_add-at : goal.overflow_add-at
overflow_add-at c =
    let f = fill_of _ _ _ _ c.fill_at.ensures c.in-Some.is in omega (arith, f.1)

pub overflow_add-at-in-Some : goal.overflow_add-at-in-Some
overflow_add-at-in-Some c =
    let f = fill_of _ _ _ _ c.fill_at.ensures c.in-Some.is in omega (arith, f.1)

pub loop-h-smaller : goal.loop-h-smaller
loop-h-smaller c =
    let f = fill_of _ _ _ _ c.fill_at.ensures c.in-Some.is in omega (arith, f.1)

pub loop-h-preserved : goal.loop-h-preserved
loop-h-preserved c =
    let f = fill_of _ _ _ _ c.fill_at.ensures c.in-Some.is in let a = c.args in let l = c.loop-h in skips_on a.tp.now a.start l.at _ l.invariant (fill_skips a.tp.now (λ i. omega (arith, c.type_inv.tp i)) l.at _ _ f.0 f.1 refl)

pub returns : goal.returns
returns c =
    c.loop-h.invariant
