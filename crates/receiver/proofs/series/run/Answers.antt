-- `receiver::series::run` meets its contract: middles leave the call the same; what stands behind them ends it, or is left.
-- Assumes nothing.
use native.Mathlib.Omega.{arith}
use Rattle.receiver.proofs.Serially.{later_of, run_cut, run_ends, run_fits, run_stops, run_whole}
use borrow.Author.Rules.{rules}
use Rattle.receiver.proofs.series.run.Goals as goal

pub returns-then-at-tp : goal.returns-then-at-tp
returns-then-at-tp c =
    let a = c.args in
    run_ends a.tp.now (λ i. omega (arith, c.type_inv.tp i)) a.start a.content a.first a.room.now _ (search rules) _ _ c.past_middles-joined.ensures c.if-at-tp.true

pub returns-in_default : goal.returns-in_default
returns-in_default c =
    let a = c.args in
    run_stops a.tp.now (λ i. omega (arith, c.type_inv.tp i)) a.start a.content a.first a.room.now _ (search rules) _ _ c.past_middles-joined.ensures

pub overflow_sub-tp : goal.overflow_sub-tp
overflow_sub-tp c = let f = later_of _ _ _ _ _ _ c.later_at.ensures c.in-Some.is in omega (arith, f.0.six)

pub slice_bounds-copy_at-end : goal.slice_bounds-copy_at-end
slice_bounds-copy_at-end c =
    let n = c.min-n.ensures in
    let f = later_of _ _ _ _ _ _ c.later_at.ensures c.in-Some.is in
    omega (arith, f.0.six)

pub overflow_add-result : goal.overflow_add-result
overflow_add-result c =
    let a = c.args in
    let f = later_of _ _ _ _ _ _ c.later_at.ensures c.in-Some.is in
    let g = run_fits a.tp.now (λ i. omega (arith, c.type_inv.tp i)) a.start a.content a.first a.room.now _ (search rules) _ _ c.past_middles-joined.ensures _ f _ c.min-n.ensures _ c.copy_at.ensures in
    omega (arith, g, c.well_formed.1.1.1.1.0.0)

pub returns-then-n-h : goal.returns-then-n-h
returns-then-n-h c =
    let a = c.args in
    let f = later_of _ _ _ _ _ _ c.later_at.ensures c.in-Some.is in
    run_cut a.tp.now (λ i. omega (arith, c.type_inv.tp i)) a.start a.content a.first a.room.now _ (search rules) _ _ c.past_middles-joined.ensures _ f _ c.min-n.ensures _ c.copy_at.ensures c.if-n-h.true

pub overflow_add-result-2 : goal.overflow_add-result-2
overflow_add-result-2 c =
    let a = c.args in
    let f = later_of _ _ _ _ _ _ c.later_at.ensures c.in-Some.is in
    let g = run_fits a.tp.now (λ i. omega (arith, c.type_inv.tp i)) a.start a.content a.first a.room.now _ (search rules) _ _ c.past_middles-joined.ensures _ f _ c.min-n.ensures _ c.copy_at.ensures in
    omega (arith, g, c.well_formed.1.1.1.1.0.0)

pub returns : goal.returns
returns c =
    let a = c.args in
    let f = later_of _ _ _ _ _ _ c.later_at.ensures c.in-Some.is in
    run_whole a.tp.now (λ i. omega (arith, c.type_inv.tp i)) a.start a.content a.first a.room.now _ (search rules) _ _ c.past_middles-joined.ensures _ f _ c.min-n.ensures _ c.copy_at.ensures c.if-n-h.false
