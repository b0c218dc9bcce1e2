-- `receiver::call` meets its contract: 1, 6, or what the course comes to.
-- Assumes nothing.
use borrow.Author.Rules.{rules}
use Rattle.receiver.proofs.Answering.{call_gives, call_reads, call_refused, call_six, reads_of}
use Rattle.receiver.proofs.Calling.{refused_gives, same_gives}
use Rattle.receiver.specs.Call.{counted_of, stage_call}
use Rattle.receiver.proofs.call.Goals as goal

pub returns-then-room-r : goal.returns-then-room-r
returns-then-room-r c =
    let a = c.args in
    rw (c.step_same.ensures, c.start.ensures) (call_refused a.r a.t a.tp.now a.room.now _ _ c.if-room-r.true (refused_gives a.r a.t.before a.tp.now a.room.now c.requires))

pub returns-then-tp-r : goal.returns-then-tp-r
returns-then-tp-r c =
    let a = c.args in
    rw (c.step_same-then-tp-r.ensures, c.start-then-tp-r.ensures) (call_six a.r a.t a.tp.now a.room.now _ _ c.if-room-r.false c.if-tp-r.true (same_gives a.r a.t.before a.tp.now a.room.now 6 c.requires))

pub onward-a-requires : goal.onward-a-requires
onward-a-requires c =
    let a = c.args in
    let f = c.if-room-r.false in
    let w = c.if-tp-r.false in
    let o = reads_of (stage_call a.r.stage a.r (counted_of a.r) a.t a.tp.now) (counted_of a.r) a.t.now a.tp.now _ _ c.take_up.ensures c.in-Reads.is in
    rw (f, w) o.sound

pub returns-in-Gives : goal.returns-in-Gives
returns-in-Gives c =
    let a = c.args in
    let f = c.if-room-r.false in
    let w = c.if-tp-r.false in
    call_gives a.r a.t a.tp.now a.room.now _ _ f w c.take_up.ensures c.in-Gives.is

pub returns-in-Reads : goal.returns-in-Reads
returns-in-Reads c =
    let a = c.args in
    let f = c.if-room-r.false in
    let w = c.if-tp-r.false in
    rw (c.tell.ensures, c.counted.ensures) (call_reads a.r a.t a.tp.now _ a.room.now _ _ _ c.requires.size f w c.take_up.ensures c.in-Reads.is c.onward-a.ensures (search rules))
