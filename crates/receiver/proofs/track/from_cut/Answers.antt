-- `receiver::track::from_cut` meets its contract: behind the header fill or a packet ends within the TP, or the TP's end cuts the data.
-- Assumes nothing.
use Prim.Native.Nat.{◌-◌}
use mathlib.Core.Path.{refl}
use native.Mathlib.Omega.{arith}
use lib.ListN.{length}
use Rattle.receiver.proofs.LaneAhead.{fits_of_lem}
use Rattle.receiver.proofs.TrackOut.{cut_at, cut_over, cut_packet, head_whole, sets_off, tidy_by}
use Rattle.receiver.proofs.track.from_cut.Goals as goal

pub head-requires : goal.head-requires
head-requires c =
    let y = tidy_by (length c.args.room.now) c.args.t 2 c.requires.0 c.requires.1 in
    (y.0, y.1, y.2, c.requires.3)

pub returns-in_default : goal.returns-in_default
returns-in_default c =
    let a = c.args in
    sets_off a.t a.offset a.here a.tp.now a.room.now a.room.now _ c.out_with.ensures c.requires.0.flips refl

pub overflow_sub-start : goal.overflow_sub-start
overflow_sub-start c =
    let y = (tidy_by (length c.args.room.now) c.args.t 2 c.requires.0 c.requires.1).1 in
    omega (arith, y)

pub overflow_sub-rest : goal.overflow_sub-rest
overflow_sub-rest c =
    let y = (tidy_by (length c.args.room.now) c.args.t 2 c.requires.0 c.requires.1).1 in
    let w = head_whole (length c.args.tp.now - c.args.here) (6 - c.args.t.have) _ _ c.in-Some.h c.head.ensures c.in-Some.is in
    omega (arith, y, w.0, c.requires.3)

pub returns-then-offset-end : goal.returns-then-offset-end
returns-then-offset-end c =
    let a = c.args in
    sets_off a.t a.offset a.here a.tp.now a.room.now a.room.now _ c.out_with-then-offset-end.ensures c.requires.0.flips refl

pub returns-then-h-eq0 : goal.returns-then-h-eq0
returns-then-h-eq0 c =
    let a = c.args in
    let w = head_whole (length c.args.tp.now - c.args.here) (6 - c.args.t.have) _ _ c.in-Some.h c.head.ensures c.in-Some.is in
    cut_at a.t a.offset a.here a.tp.now a.room.now c.requires.0 c.requires.1 (λ i. omega (arith, c.type_inv.tp i)) c.requires.3 c.in-Some.h _ refl w.0 w.1 _ c.requires.4 c.if-n-rest.true c.if-offset-end.false c.if-h-eq0.true c.out_with-then-h-eq0.ensures

pub returns-then-not-fits : goal.returns-then-not-fits
returns-then-not-fits c =
    let a = c.args in
    sets_off a.t a.offset a.here a.tp.now a.room.now a.room.now _ c.out_with-then-not-fits.ensures c.requires.0.flips refl

pub returns-then-n-rest : goal.returns-then-n-rest
returns-then-n-rest c =
    let a = c.args in
    let w = head_whole (length c.args.tp.now - c.args.here) (6 - c.args.t.have) _ _ c.in-Some.h c.head.ensures c.in-Some.is in
    let f = fits_of_lem c.fits.result c.in-Some.h (length a.room.now) c.fits.ensures (c.if-not-fits.false) in
    cut_packet a.t a.offset a.here a.tp.now a.room.now c.requires.0 c.requires.1 (λ i. omega (arith, c.type_inv.tp i)) c.requires.3 c.in-Some.h _ refl w.0 w.1 _ f c.requires.4 c.if-n-rest.true c.if-offset-end.false c.copy_at.ensures

pub returns-then-offset-ne2047 : goal.returns-then-offset-ne2047
returns-then-offset-ne2047 c =
    let a = c.args in
    sets_off a.t a.offset a.here a.tp.now a.room.now a.room.now _ c.out_with-then-offset-ne2047.ensures c.requires.0.flips refl

pub returns-then-n-rest-2 : goal.returns-then-n-rest-2
returns-then-n-rest-2 c =
    let a = c.args in
    sets_off a.t a.offset a.here a.tp.now a.room.now a.room.now _ c.out_with-then-n-rest-2.ensures c.requires.0.flips refl

pub returns-then-not-fits-2 : goal.returns-then-not-fits-2
returns-then-not-fits-2 c =
    let a = c.args in
    sets_off a.t a.offset a.here a.tp.now a.room.now a.room.now _ c.out_with-then-not-fits-2.ensures c.requires.0.flips refl

pub slice_bounds-copy_at-count-2 : goal.slice_bounds-copy_at-count-2
slice_bounds-copy_at-count-2 c =
    let y = (tidy_by (length c.args.room.now) c.args.t 2 c.requires.0 c.requires.1).1 in
    let w = head_whole (length c.args.tp.now - c.args.here) (6 - c.args.t.have) _ _ c.in-Some.h c.head.ensures c.in-Some.is in
    omega (arith, y, w.0, c.requires.3)

pub slice_bounds-copy_at-start-2 : goal.slice_bounds-copy_at-start-2
slice_bounds-copy_at-start-2 c =
    let y = (tidy_by (length c.args.room.now) c.args.t 2 c.requires.0 c.requires.1).1 in
    let w = head_whole (length c.args.tp.now - c.args.here) (6 - c.args.t.have) _ _ c.in-Some.h c.head.ensures c.in-Some.is in
    omega (arith, y, w.0, c.requires.3)

pub returns : goal.returns
returns c =
    let a = c.args in
    let w = head_whole (length c.args.tp.now - c.args.here) (6 - c.args.t.have) _ _ c.in-Some.h c.head.ensures c.in-Some.is in
    let f = fits_of_lem c.fits-2.result c.in-Some.h (length a.room.now) c.fits-2.ensures (c.if-not-fits-2.false) in
    cut_over a.t a.offset a.here a.tp.now a.room.now c.requires.0 c.requires.1 (λ i. omega (arith, c.type_inv.tp i)) c.requires.3 c.in-Some.h _ refl w.0 w.1 _ f _ c.place_of-began.result c.busy.result (omega (arith, c.if-n-rest.false, c.if-n-rest-2.false)) c.if-offset-ne2047.false c.copy_at-2.ensures (omega arith) c.place_of-began.ensures c.busy.ensures.0 c.busy.ensures.1 c.busy.ensures.2 c.out_with-2.ensures
