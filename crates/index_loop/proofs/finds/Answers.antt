-- `index_loop::finds` meets its contract: what is put are its calls' finds.
-- Assumes nothing.
use mathlib.Core.Path.{refl}
use native.Mathlib.Omega.{arith}
use borrow.Author.Tests.{not-true, not-false}
use Rattle.index_loop.specs.Walking.{nothing}
use Rattle.index_loop.proofs.Hearing.{hears_found, ends_found, heard_done}
use Rattle.index_loop.proofs.finds.Goals as goal

pub loop-init : goal.loop-init
loop-init c = record { able = c.requires.able; number = refl; from = refl; room = refl; out = refl; hears = nothing }

pub returns-then-not-went-clause-heard : goal.returns-then-not-went-clause-heard
returns-then-not-went-clause-heard c =
    let a = c.args in
    let i = c.loop.invariant in
    let ends = ends_found i.hears c.find-went.ensures (not-true _ c.if-not-went.true) in
    heard_done a.task a.gone a.tp.now a.first a.room.now a.out.now _ _ _ _ c.sum.ensures ends refl c.sum-then-not-went.ensures

pub loop-preserved : goal.loop-preserved
loop-preserved c =
    let i = c.loop.invariant in
    let f = c.find-went.ensures in
    record { able = f.able; number = i.number; from = i.from; room = omega (arith, i.room); out = omega (arith, i.out); hears = hears_found i.hears f (not-false _ c.if-not-went.false) }
