-- `receiver::swift::met_in` meets its contract: by what is met.
-- Assumes nothing.
use Rattle.receiver.specs.Words.{receiver_in}
use Rattle.receiver.proofs.OnWords.{behind_drops, behind_ends, behind_gives, behind_judged, behind_other, behind_reads, ends_tidy}
use Rattle.receiver.proofs.swift.met_in.Goals as goal

pub returns-then-number-eq12 : goal.returns-then-number-eq12
returns-then-number-eq12 c = let a = c.args in
    behind_judged (receiver_in a.w.now) a.count a.len a.w.now a.met _ c.in-Drops.is

pub put_lane-requires-in-Ends : goal.put_lane-requires-in-Ends
put_lane-requires-in-Ends c = (c.requires.0, ends_tidy _ c.args.met _ c.in-Ends.is c.requires.1)

pub returns-in-Other : goal.returns-in-Other
returns-in-Other c = let a = c.args in
    behind_other (receiver_in a.w.now) a.count a.len a.w.now a.met c.in-Other.is

pub returns-else-number-eq12 : goal.returns-else-number-eq12
returns-else-number-eq12 c = let a = c.args in
    rw (c.notice.ensures, c.start.ensures, c.own.ensures) (behind_drops (receiver_in a.w.now) a.count a.len a.w.now _ a.met _ c.in-Drops.is c.if-number-eq12.false c.put_lane.ensures.w_after c.put_lane.ensures.bytes)

pub returns-in-Ends : goal.returns-in-Ends
returns-in-Ends c = let a = c.args in
    rw c.nothing.ensures (behind_ends (receiver_in a.w.now) a.count a.len a.w.now _ a.met _ c.in-Ends.is c.put_lane-in-Ends.ensures.w_after c.put_lane-in-Ends.ensures.bytes)

pub returns-in-Reads : goal.returns-in-Reads
returns-in-Reads c = let a = c.args in
    behind_reads (receiver_in a.w.now) a.count a.len a.w.now a.met _ c.in-Reads.is

pub returns-in-Gives : goal.returns-in-Gives
returns-in-Gives c = let a = c.args in
    behind_gives (receiver_in a.w.now) a.count a.len a.w.now _ a.met _ _ _ _ _ c.in-Gives.is c.put_lane-in-Gives.ensures.w_after c.put_lane-in-Gives.ensures.bytes
