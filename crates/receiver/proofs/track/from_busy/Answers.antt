-- `receiver::track::from_busy` meets its contract: the packet ends within the TP, or the TP's end cuts its data again.
-- Assumes nothing.
use mathlib.Core.Path.{refl}
use native.Mathlib.Omega.{arith}
use lib.ListN.{length}
use Rattle.receiver.proofs.TrackOut.{busy_over, busy_packet, sets_off, tidy_by}
use borrow.Author.Rules.{rules}
use Rattle.receiver.proofs.track.from_busy.Goals as goal

pub returns-then-offset-end : goal.returns-then-offset-end
returns-then-offset-end c =
    let a = c.args in
    sets_off a.t a.offset a.here a.tp.now a.room.now a.room.now _ c.out_with.ensures c.requires.0.flips refl

pub overflow_add-result : goal.overflow_add-result
overflow_add-result c =
    let y = (tidy_by (length c.args.room.now) c.args.t 3 c.requires.0 c.requires.1).1 in
    search rules

pub returns-then-left-rest : goal.returns-then-left-rest
returns-then-left-rest c =
    let a = c.args in
    busy_packet a.t a.offset a.here a.tp.now a.room.now _ c.requires.0 c.requires.1 (λ i. omega (arith, c.type_inv.tp i)) c.requires.3 (search rules) c.requires.4 c.if-left-rest.true c.if-offset-end.false c.copy_at.ensures

pub returns-then-offset-ne2047 : goal.returns-then-offset-ne2047
returns-then-offset-ne2047 c =
    let a = c.args in
    sets_off a.t a.offset a.here a.tp.now a.room.now a.room.now _ c.out_with-then-offset-ne2047.ensures c.requires.0.flips refl

pub returns-then-left-rest-2 : goal.returns-then-left-rest-2
returns-then-left-rest-2 c =
    let a = c.args in
    sets_off a.t a.offset a.here a.tp.now a.room.now a.room.now _ c.out_with-then-left-rest-2.ensures c.requires.0.flips refl

pub overflow_add-len : goal.overflow_add-len
overflow_add-len c =
    let y = (tidy_by (length c.args.room.now) c.args.t 3 c.requires.0 c.requires.1).1 in
    search rules

pub returns : goal.returns
returns c =
    let a = c.args in
    busy_over a.t a.offset a.here a.tp.now a.room.now _ c.requires.0 c.requires.1 (λ i. omega (arith, c.type_inv.tp i)) c.requires.3 (search rules) _ c.place_of-began.result c.busy.result (omega (arith, c.if-left-rest.false, c.if-left-rest-2.false)) c.if-offset-ne2047.false c.copy_at-2.ensures c.place_of-began.ensures c.busy.ensures.0 c.busy.ensures.1 c.busy.ensures.2 c.out_with-2.ensures
