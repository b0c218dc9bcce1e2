-- `receiver::lane::look_ahead` meets its contract: behind fill the TP ends, or a header stands there.
-- Assumes nothing.
use mathlib.Core.Path.{refl}
use native.Mathlib.Omega.{arith}
use Rattle.receiver.proofs.LaneAhead.{ahead_beyond, ahead_cut, ahead_idle, ahead_whole, fits_of_lem}
use Rattle.receiver.proofs.lane.look_ahead.Goals as goal

pub overflow_sub-rest : goal.overflow_sub-rest
overflow_sub-rest c = omega (arith, c.past_fill-from.ensures.within)

pub returns-then-rest-eq0 : goal.returns-then-rest-eq0
returns-then-rest-eq0 c =
    let a = c.args in
    ahead_idle a.start _ a.stamp a.tp.now a.room.now (λ i. omega (arith, c.type_inv.tp i)) c.past_fill-from.ensures c.if-rest-eq0.true

pub gather-requires : goal.gather-requires
gather-requires c =
    let s = c.past_fill-from.ensures in
    (omega (arith, c.if-rest-lt6.true), omega arith, omega (arith, s.within))

pub returns-then-rest-lt6 : goal.returns-then-rest-lt6
returns-then-rest-lt6 c =
    let a = c.args in
    ahead_cut a.start _ a.stamp a.tp.now a.room.now (λ i. omega (arith, c.type_inv.tp i)) c.past_fill-from.ensures _ refl (omega (arith, c.if-rest-eq0.false)) c.if-rest-lt6.true _ c.of.ensures _ c.gather.ensures

pub read_at-requires : goal.read_at-requires
read_at-requires c = omega (arith, c.if-rest-lt6.false)

pub returns-in_default : goal.returns-in_default
returns-in_default c =
    let a = c.args in
    ahead_beyond a.start _ a.stamp a.tp.now a.room.now (λ i. omega (arith, c.type_inv.tp i)) c.past_fill-from.ensures c.if-rest-lt6.false _ c.read_at.ensures c.in_default.is

pub overflow_add-from : goal.overflow_add-from
overflow_add-from c = omega (arith, c.if-rest-lt6.false)

pub entered-requires : goal.entered-requires
entered-requires c = (omega (arith, c.if-rest-lt6.false), fits_of_lem _ _ _ c.fits.ensures c.if-fits.true)

pub returns-then-fits : goal.returns-then-fits
returns-then-fits c =
    let a = c.args in
    ahead_whole a.start _ a.stamp a.tp.now a.room.now (λ i. omega (arith, c.type_inv.tp i)) c.past_fill-from.ensures c.if-rest-lt6.false _ c.read_at.ensures _ c.in-Some.is _ c.of-then-fits.ensures c.entered.result _ c.entered.ensures
