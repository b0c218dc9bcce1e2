-- `receiver::track::ahead` meets its contract: behind fill the TP ends, or a header stands there. Assumes nothing.
use native.Mathlib.Omega.{arith}
use Rattle.receiver.proofs.LaneAhead.{fits_of_lem}
use Rattle.receiver.proofs.TrackAhead.{seen_begins, seen_off, seen_tail, seen_whole}
use Rattle.receiver.proofs.track.ahead.Goals as goal

pub returns-then-rest-lt6 : goal.returns-then-rest-lt6
returns-then-rest-lt6 c =
    let a = c.args in
    seen_tail a.start _ a.tp.now (λ i. omega (arith, c.type_inv.tp i)) c.past_fill-from.ensures c.unseen.result a.most c.unseen.ensures.0 c.unseen.ensures.1 c.unseen.ensures.2 c.if-rest-lt6.true

pub returns-in_default : goal.returns-in_default
returns-in_default c = let a = c.args in seen_off c.unseen-in_default.result a.start a.tp.now a.most c.unseen-in_default.ensures.0

pub returns-then-not-fits : goal.returns-then-not-fits
returns-then-not-fits c = let a = c.args in seen_off c.unseen-then-not-fits.result a.start a.tp.now a.most c.unseen-then-not-fits.ensures.0

pub returns-then-rest-h : goal.returns-then-rest-h
returns-then-rest-h c =
    let a = c.args in
    let fits = fits_of_lem c.fits.result _ a.most c.fits.ensures (c.if-not-fits.false) in
    seen_begins a.start _ a.tp.now (λ i. omega (arith, c.type_inv.tp i)) c.past_fill-from.ensures c.if-rest-lt6.false _ c.read_at.ensures _ c.in-Some.is a.most fits c.seen.result c.seen.ensures.0 c.seen.ensures.1 c.if-rest-h.true

pub returns : goal.returns
returns c =
    let a = c.args in
    let fits = fits_of_lem c.fits.result _ a.most c.fits.ensures (c.if-not-fits.false) in
    seen_whole a.start _ a.tp.now (λ i. omega (arith, c.type_inv.tp i)) c.past_fill-from.ensures c.if-rest-lt6.false _ c.read_at.ensures _ c.in-Some.is a.most fits c.seen-2.result c.seen-2.ensures.0 c.if-rest-h.false
