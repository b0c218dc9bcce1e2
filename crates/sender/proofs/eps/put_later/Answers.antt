-- `eps::put_later` meets its contract, by the invariant `Putting`. The measure is what is left of the SP. Assumes nothing.
use mathlib.Core.Path.{refl}
use native.Mathlib.Omega.{arith}
use Rattle.sender.proofs.Puts.{put_as}
use Rattle.sender.proofs.PutPieces.{starts, shorter, sound, piece_of, room_last, room_more, again, ends}
use Rattle.sender.proofs.eps.put_later.Goals as goal

pub loop-rest-init : goal.loop-rest-init
loop-rest-init c = let a = c.args in starts a.buf.now a.q a.content a.sp.now a.piece c.requires.kept

pub put_ep-t-requires : goal.put_ep-t-requires
put_ep-t-requires c =
    let a = c.args in
    let l = c.loop-rest in
    let s = sound a.buf.now a.q a.content a.sp.now a.piece l.buf l.t l.rest.now l.invariant c.requires.kept c.requires.le_piece.0 c.requires.sp_in_bounds in
    let e = piece_of a.buf.now a.q a.content a.sp.now a.piece l.buf l.t l.rest.now l.invariant c.requires.kept c.requires.le_piece.0 c.requires.sp_in_bounds c.loop-rest-test.true in
    let r = room_more a.buf.now a.q a.content a.sp.now a.piece l.buf l.t l.rest.now l.invariant c.requires.kept c.requires.le_piece.0 c.requires.sp_in_bounds c.loop-rest-test.true in
    record { kept = s; body_in_bounds = (rw e r, omega arith) }

pub loop-rest-smaller : goal.loop-rest-smaller
loop-rest-smaller c = shorter c.loop-rest.rest.now c.args.piece c.requires.le_piece.0 c.loop-rest-test.true

pub loop-rest-preserved : goal.loop-rest-preserved
loop-rest-preserved c =
    let a = c.args in
    let l = c.loop-rest in
    let e = piece_of a.buf.now a.q a.content a.sp.now a.piece l.buf l.t l.rest.now l.invariant c.requires.kept c.requires.le_piece.0 c.requires.sp_in_bounds c.loop-rest-test.true in
    again a.buf.now a.q a.content a.sp.now a.piece l.buf l.t l.rest.now l.invariant c.requires.kept c.requires.le_piece.0 c.requires.sp_in_bounds _ _ c.loop-rest-test.true (put_as l.buf l.t a.content 2 a.piece _ _ _ c.header_of-middle.ensures e c.put_ep-t.ensures)

pub put_ep-requires : goal.put_ep-requires
put_ep-requires c =
    let a = c.args in
    let l = c.loop-rest in
    let s = sound a.buf.now a.q a.content a.sp.now a.piece l.buf l.t l.rest.now l.invariant c.requires.kept c.requires.le_piece.0 c.requires.sp_in_bounds in
    let r = room_last a.buf.now a.q a.content a.sp.now a.piece l.buf l.t l.rest.now l.invariant c.requires.kept c.requires.le_piece.0 c.requires.sp_in_bounds c.loop-rest-test.false in
    record { kept = s; body_in_bounds = (r, omega arith) }

pub returns : goal.returns
returns c =
    let a = c.args in
    let l = c.loop-rest in
    ends a.buf.now a.q a.content a.sp.now a.piece l.buf l.t l.rest.now l.invariant c.requires.kept c.requires.le_piece.0 c.requires.sp_in_bounds _ _ c.loop-rest-test.false (put_as l.buf l.t a.content 3 _ _ _ _ c.header_of-last.ensures refl c.put_ep.ensures)
