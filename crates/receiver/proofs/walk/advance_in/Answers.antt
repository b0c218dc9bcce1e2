-- `receiver::walk::advance_in` meets its contract: only a run of data writes.
-- Assumes nothing.
use native.Mathlib.Omega.{arith}
use lib.ListN.{length}
use Rattle.receiver.proofs.Advancing.{advance_by_lem, counts, fine_by, less_roomy, room_by_lem, room_else}
use Rattle.receiver.proofs.walk.advance_in.Goals as goal

pub put-requires : goal.put-requires
put-requires c =
    let a = c.args in
    let p = c.requires.at in
    let f = fine_by (length a.room.now) a.stamp a.w a.tp.now _ c.in-Body.is c.requires in
    let e = c.min-n.ensures in
    record { n_in_bounds = omega arith; roomy = less_roomy (length a.room.now) _ _ a.w.kept f (omega arith) }

pub body-requires : goal.body-requires
body-requires c =
    let a = c.args in
    let f = fine_by (length a.room.now) a.stamp a.w a.tp.now _ c.in-Body.is c.requires in
    (c.requires.at, counts (length a.room.now) _ a.w.kept (omega arith) f)

pub returns-in-Body : goal.returns-in-Body
returns-in-Body c =
    let a = c.args in
    let e = c.in-Body.is in
    (rw c.body.ensures (advance_by_lem (length a.room.now) a.stamp a.w a.tp.now _ e), rw (c.put.ensures, c.min-n.ensures) (room_by_lem a.w a.tp.now a.room.now _ e))

pub returns : goal.returns
returns c = let a = c.args in (c.advance.ensures, room_else a.w a.tp.now a.room.now c.in_default.not-Body)
