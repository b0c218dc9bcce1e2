-- `receiver::stride::past_middles` meets its contract: the invariant: the call asked for from here, with what is kept, is the one asked for from the start. The measure is what is left of the TP.
-- Assumes nothing.
use mathlib.Core.Path.{refl, ◌≡◌}
use Prim.Native.Nat.{◌+◌}
use lib.ListN.{length}
use native.Mathlib.Omega.{arith}
use borrow.Author.Rules.{rules}
use Rattle.receiver.proofs.Standing.{middle_of}
use Rattle.receiver.proofs.Striding.{joins_none, joins_on, middle_joins, middle_put}
use Rattle.receiver.proofs.stride.past_middles.Goals as goal

pub loop-h-init : goal.loop-h-init
loop-h-init c =
    let a = c.args in (refl, joins_none a.tp.now (length a.room.now) a.content a.start a.first a.room.now c.requires.0 c.requires.1)

pub overflow_sub-room : goal.overflow_sub-room
overflow_sub-room c =
    let l = c.loop-h in omega (arith, l.invariant.0, l.invariant.1.roomy)

pub middle_at-requires : goal.middle_at-requires
middle_at-requires c =
    c.loop-h.invariant.1.within

pub overflow_add-from : goal.overflow_add-from
overflow_add-from c =
    let f = middle_of _ _ _ _ _ _ c.middle_at.ensures c.in-Some.is in omega (arith, f.3)

pub overflow_add-at : goal.overflow_add-at
overflow_add-at c =
    let f = middle_of _ _ _ _ _ _ c.middle_at.ensures c.in-Some.is in omega (arith, f.3)

pub slice_bounds-copy_at-count : goal.slice_bounds-copy_at-count
slice_bounds-copy_at-count c =
    let f = middle_of _ _ _ _ _ _ c.middle_at.ensures c.in-Some.is in omega (arith, f.3)

pub slice_bounds-copy_at-start : goal.slice_bounds-copy_at-start
slice_bounds-copy_at-start c =
    let f = middle_of _ _ _ _ _ _ c.middle_at.ensures c.in-Some.is in omega (arith, f.3)

pub slice_bounds-copy_at-end : goal.slice_bounds-copy_at-end
slice_bounds-copy_at-end c =
    let f = middle_of _ _ _ _ _ _ c.middle_at.ensures c.in-Some.is in omega (arith, f.3)

pub overflow_add-len : goal.overflow_add-len
overflow_add-len c =
    let f = middle_of _ _ _ _ _ _ c.middle_at.ensures c.in-Some.is in let l = c.loop-h in omega (arith, f.2, l.invariant.0, l.invariant.1.roomy)

pub loop-h-smaller : goal.loop-h-smaller
loop-h-smaller c =
    let f = middle_of _ _ _ _ _ _ c.middle_at.ensures c.in-Some.is in omega (arith, f.3)

pub loop-h-preserved : goal.loop-h-preserved
loop-h-preserved c =
    let f = middle_of _ _ _ _ _ _ c.middle_at.ensures c.in-Some.is in let a = c.args in
    let l = c.loop-h in
    let r = c.loop-h.invariant.1.roomy in
    let z = c.loop-h.invariant.0 in
    let put = middle_put a.tp.now (length a.room.now) a.content l.room _ (l.at + 6) _ l.len (omega (arith, f.3)) (omega (arith, f.2)) c.copy_at.ensures in
    let n : length c.copy_at.new.dst ≡ length a.room.now = search rules in
    (n, joins_on a.tp.now (length a.room.now) a.content a.start a.first a.room.now l.at l.len l.room _ _ _ l.invariant.1 (middle_joins a.tp.now (length a.room.now) a.content (λ i. omega (arith, c.type_inv.tp i)) l.room _ z l.at l.len _ _ _ f.0 f.4 f.1 r (omega (arith, f.2)) f.3 refl refl put))

pub returns : goal.returns
returns c =
    c.loop-h.invariant.1
