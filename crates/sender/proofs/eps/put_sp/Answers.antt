-- `eps::put_sp` meets its contract: one complete EP, or a first one and the pieces after it. Assumes nothing.
use mathlib.Core.Path.{refl, sym, ap, ◌∙◌}
use native.Mathlib.Omega.{arith}
use lib.ListN.{length}
use Rattle.sender.specs.Steps.{Put}
use Rattle.sender.proofs.Puts.{put_as}
use Rattle.sender.proofs.PutPieces.{room_one, first_length, room_first, kept_first, room_later, put_more}
use Rattle.sender.proofs.Pieces.{one_piece}
use Rattle.sender.proofs.eps.put_sp.Goals as goal

pub put_ep-requires : goal.put_ep-requires
put_ep-requires c =
    let a = c.args in
    record { kept = c.requires.kept; body_in_bounds = (room_one a.buf.now a.q a.content a.sp.now a.piece c.requires.kept c.requires.sp_in_bounds c.if-sp-piece.true, omega arith) }

pub returns-then-sp-lt4095 : goal.returns-then-sp-lt4095
returns-then-sp-lt4095 c =
    let a = c.args in
    put_as a.buf.now a.q a.content 0 (length a.sp.now) _ _ _ c.short_header-short.ensures refl c.put_ep.ensures ∙ ap (Put a.buf.now a.q) (sym (one_piece a.piece a.content a.sp.now c.if-sp-piece.true))

pub put_ep-requires-then-sp-piece : goal.put_ep-requires-then-sp-piece
put_ep-requires-then-sp-piece c =
    let a = c.args in
    record { kept = c.requires.kept; body_in_bounds = (room_one a.buf.now a.q a.content a.sp.now a.piece c.requires.kept c.requires.sp_in_bounds c.if-sp-piece.true, omega arith) }

pub returns-then-sp-piece : goal.returns-then-sp-piece
returns-then-sp-piece c =
    let a = c.args in
    put_as a.buf.now a.q a.content 0 (length a.sp.now) _ _ _ c.header_of-complete.ensures refl c.put_ep-then-sp-piece.ensures ∙ ap (Put a.buf.now a.q) (sym (one_piece a.piece a.content a.sp.now c.if-sp-piece.true))

pub put_ep-t-requires : goal.put_ep-t-requires
put_ep-t-requires c =
    let a = c.args in
    record { kept = c.requires.kept; body_in_bounds = (room_first a.buf.now a.q a.content a.sp.now a.piece c.requires.kept c.requires.sp_in_bounds c.if-sp-piece.false, omega arith) }

pub put_later-requires : goal.put_later-requires
put_later-requires c =
    let a = c.args in
    let h = c.if-sp-piece.false in
    let u = put_as a.buf.now a.q a.content 1 a.piece _ _ _ c.header_of-first.ensures (first_length a.buf.now a.q a.content a.sp.now a.piece c.requires.kept c.requires.sp_in_bounds h) c.put_ep-t.ensures in
    record { kept = kept_first a.buf.now a.q a.content a.sp.now a.piece c.requires.kept c.requires.sp_in_bounds h _ _ u; le_piece = (c.requires.le_piece.0, c.requires.le_piece.1.0, h); sp_in_bounds = room_later a.buf.now a.q a.content a.sp.now a.piece c.requires.kept c.requires.sp_in_bounds h _ _ u }

pub returns : goal.returns
returns c =
    let a = c.args in
    let h = c.if-sp-piece.false in
    let u = put_as a.buf.now a.q a.content 1 a.piece _ _ _ c.header_of-first.ensures (first_length a.buf.now a.q a.content a.sp.now a.piece c.requires.kept c.requires.sp_in_bounds h) c.put_ep-t.ensures in
    put_more a.buf.now a.q a.content a.sp.now a.piece c.requires.kept c.requires.sp_in_bounds h _ _ u _ _ c.put_later.ensures
