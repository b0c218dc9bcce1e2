-- `receiver::series::goes_on` meets its contract: data that end in the TP leave the call the same behind them.
-- Assumes nothing.
use mathlib.Core.Path.{refl}
use native.Mathlib.Omega.{arith}
use Rattle.receiver.specs.Words.{receiver_in}
use Rattle.receiver.proofs.Serially.{busy_by, goes_on, within_tp}
use Rattle.receiver.proofs.Swiftly.{behind_of_lem, kept_in_lem}
use borrow.Author.Rules.{rules}
use Rattle.receiver.proofs.series.goes_on.Goals as goal

pub begin-requires : goal.begin-requires
begin-requires c = omega (arith, c.requires.0.able.size, c.requires.0.whole)

pub overflow_add-at : goal.overflow_add-at
overflow_add-at c =
    let d = behind_of_lem _ _ c.args.tp.now _ c.begin.ensures c.in_ok-n.was in
    omega (arith, within_tp _ c.args.tp.now _ _ c.requires.0 d)

pub slice_bounds-copy_at-end : goal.slice_bounds-copy_at-end
slice_bounds-copy_at-end c =
    let d = behind_of_lem _ _ c.args.tp.now _ c.begin.ensures c.in_ok-n.was in
    omega (arith, within_tp _ c.args.tp.now _ _ c.requires.0 d)

pub overflow_add-result : goal.overflow_add-result
overflow_add-result c =
    let a = c.args in
    let b = busy_by (receiver_in a.w.now) _ c.receiver_in-r.ensures _ _ _ _ _ _ c.in-Fresh.is c.in-Body.is c.in_ok-kept.was in
    let f = kept_in_lem (receiver_in a.w.now) a.tp.now c.requires.0 a.room.now a.room.now a.tp.now c.requires.1 refl _ _ _ _ _ _ b in
    omega (arith, f, c.if-n-left.false)

pub returns : goal.returns
returns c =
    let a = c.args in
    let e = c.receiver_in-r.ensures in
    let b = busy_by (receiver_in a.w.now) _ e _ _ _ _ _ _ c.in-Fresh.is c.in-Body.is c.in_ok-kept.was in
    let d = behind_of_lem _ _ a.tp.now _ c.begin.ensures c.in_ok-n.was in
    goes_on (receiver_in a.w.now) a.tp.now c.requires.0 a.room.now _ c.requires.1 (search rules) (λ i. omega (arith, c.type_inv.tp i)) _ _ _ _ _ _ _ _ b (rw e at d) c.if-n-left.false (rw e at c.counted.ensures) c.copy_at.ensures c.if-header-lt1.false c.if-header-gt2.false c.if-kept-lt1.false c.if-kept-gt4294967295.false
