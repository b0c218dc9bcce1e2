-- `receiver::lane::from_cut` meets its contract: the TP's end cuts the header again, or it is whole.
-- Assumes nothing.
use native.Mathlib.Omega.{arith}
use lib.ListN.{length}
use Rattle.receiver.proofs.LaneAhead.{fits_of_lem}
use Rattle.receiver.proofs.LaneOut.{cut_ends, cut_enters, cut_fill_lem, least_of, read_of_lem}
use Rattle.receiver.proofs.lane.from_cut.Goals as goal

pub returns-then-rest-missing : goal.returns-then-rest-missing
returns-then-rest-missing c =
    let a = c.args in
    cut_ends a.began a.have a.word a.n a.at a.tp.now a.room.now (c.requires.1, c.requires.2, c.requires.3) (λ i. omega (arith, c.type_inv.tp i)) (omega (arith, c.requires.0)) _ c.if-rest-missing.true c.if-n-rest.false c.gather.ensures

pub overflow_add-result-then-h-eq0-2 : goal.overflow_add-result-then-h-eq0-2
overflow_add-result-then-h-eq0-2 c =
    omega (arith, c.requires.0, c.if-rest-missing-2.false, c.if-rest-missing.false)

pub returns-then-h-eq0 : goal.returns-then-h-eq0
returns-then-h-eq0 c =
    let a = c.args in
    let e = read_of_lem a.have a.word a.at a.tp.now _ _ c.in-Some.h c.gather-2.ensures c.read_header.ensures c.in-Some.is in
    let l = least_of _ _ _ _ c.min.ensures c.if-missing-min.false in
    cut_fill_lem a.began a.have a.word a.n a.at a.tp.now a.room.now (c.requires.1, c.requires.2, c.requires.3) (λ i. omega (arith, c.type_inv.tp i)) (omega (arith, c.requires.0)) c.in-Some.h c.if-rest-missing.false e l c.if-h-eq0.true c.if-rest-missing-2.false

pub entered-requires : goal.entered-requires
entered-requires c =
    let a = c.args in
    (omega (arith, c.requires.0, c.if-rest-missing.false), fits_of_lem _ c.in-Some.h (length a.room.now) c.fits.ensures c.if-fits.true)

pub returns-then-fits : goal.returns-then-fits
returns-then-fits c =
    let a = c.args in
    let e = read_of_lem a.have a.word a.at a.tp.now _ _ c.in-Some.h c.gather-2.ensures c.read_header.ensures c.in-Some.is in
    let l = least_of _ _ _ _ c.min.ensures c.if-missing-min.false in
    cut_enters a.began a.have a.word a.n a.at a.tp.now a.room.now (c.requires.1, c.requires.2, c.requires.3) (λ i. omega (arith, c.type_inv.tp i)) (omega (arith, c.requires.0)) c.in-Some.h c.if-rest-missing.false e l c.entered.result _ c.entered.ensures
