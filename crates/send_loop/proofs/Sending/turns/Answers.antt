-- `Sending::turns` holds what the records taken write, and ends: each record moves on in the stretch.
-- Assumes nothing.
use Prim.Native.Nat.{◌+◌, ◌≤◌}
use native.Mathlib.Omega.{arith}
use lib.ListN.{length}
use Rattle.console.proofs.Records.{none_taken, at_hand_is, data_at_hand, rest_behind, record_fits, one_more}
use Rattle.house.specs.declared.Place.TheVariants as P
use Rattle.send_loop.proofs.Held.{sent_none, sent_then}
use Rattle.send_loop.proofs.Sending.turns.Goals as goal

pub loop-self-init : goal.loop-self-init
loop-self-init c = record { ready = c.requires; whole = none_taken P.Sending c.args.unread.now; sent = sent_none _ _ _ }

pub loop-self-smaller : goal.loop-self-smaller
loop-self-smaller c =
    let fits = record_fits c.loop-self.invariant.whole c.read_record.ensures c.in-Ok-Some.is c.in-Ok-Some.field-0-is c.data_of-sp.ensures in
    omega arith

pub loop-self-preserved : goal.loop-self-preserved
loop-self-preserved c =
    let i = c.loop-self.invariant in
    let p = c.loop-self.self in
    let t = c.turn.ensures in
    let w = i.whole in
    let read = c.read_record.ensures in
    let ok = c.in-Ok-Some.is in
    let some = c.in-Ok-Some.field-0-is in
    let sp = c.data_of-sp.ensures in
    let room : p.at + 8 + p.tp ≤ length c.loop-self.buffers.out = omega arith in
    record {
      ready = record { sound = t.sound; room = omega arith };
      whole = one_more w read ok some sp;
      sent = sent_then _ _ _ _ _ _ i.sent _ _ _ _ _ _ (at_hand_is w read ok some sp) (data_at_hand w read ok some sp) (rest_behind w read ok some sp) room t.same.0 t.after;
    }

pub returns-in-Some-clause-ready : goal.returns-in-Some-clause-ready
returns-in-Some-clause-ready c = let t = c.turn.ensures in record { sound = t.sound; room = omega arith }

pub returns-in-Some-clause-whole : goal.returns-in-Some-clause-whole
returns-in-Some-clause-whole c = one_more c.loop-self.invariant.whole c.read_record.ensures c.in-Ok-Some.is c.in-Ok-Some.field-0-is c.data_of-sp.ensures

pub returns-in-Some-clause-sent : goal.returns-in-Some-clause-sent
returns-in-Some-clause-sent c =
    let i = c.loop-self.invariant in
    let p = c.loop-self.self in
    let t = c.turn.ensures in
    let w = i.whole in
    let read = c.read_record.ensures in
    let ok = c.in-Ok-Some.is in
    let some = c.in-Ok-Some.field-0-is in
    let sp = c.data_of-sp.ensures in
    let room : p.at + 8 + p.tp ≤ length c.loop-self.buffers.out = omega arith in
    sent_then _ _ _ _ _ _ i.sent _ _ _ _ _ _ (at_hand_is w read ok some sp) (data_at_hand w read ok some sp) (rest_behind w read ok some sp) room t.same.0 t.after
