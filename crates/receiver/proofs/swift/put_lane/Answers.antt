-- `receiver::swift::put_lane` meets its contract: the words of each lane.
-- Assumes nothing.
use native.Mathlib.Omega.{arith}
use Rattle.receiver.proofs.LaneOut.{tidy_as}
use Rattle.receiver.proofs.OnWords.{put_busy, put_cut, put_idle, put_lost}
use Rattle.receiver.proofs.Worded.{fits}
use Rattle.receiver.proofs.swift.put_lane.Goals as goal

pub overflow_add-w : goal.overflow_add-w
overflow_add-w c = let y = tidy_as _ c.args.lane _ c.in-Busy.is c.requires.1 in
    omega (arith, y.1, (fits c.args.w.now c.requires.0).opens.limit)

pub returns-in-Other : goal.returns-in-Other
returns-in-Other c = absurd (omega (arith, tidy_as _ c.args.lane _ c.in-Other.is c.requires.1))

pub returns-in-Lost : goal.returns-in-Lost
returns-in-Lost c =
    let a = c.args in
    let p = put_lost a.w.now c.requires.0 a.count a.stage a.place _ _ c.sort_of-s.ensures c.offset_of-o.ensures a.lane c.in-Lost.is in
    record { w_after = p.0; bytes = p.1 }

pub returns-in-Idle : goal.returns-in-Idle
returns-in-Idle c =
    let a = c.args in
    let p = put_idle a.w.now c.requires.0 a.count a.stage a.place _ _ c.sort_of-s.ensures c.offset_of-o.ensures a.lane c.in-Idle.is in
    record { w_after = p.0; bytes = p.1 }

pub returns-in-Cut : goal.returns-in-Cut
returns-in-Cut c =
    let a = c.args in
    let p = put_cut a.w.now c.requires.0 a.count a.stage a.place _ _ c.sort_of-s.ensures c.offset_of-o.ensures a.lane _ _ _ _ c.in-Cut.is c.requires.1 in
    record { w_after = p.0; bytes = p.1 }

pub returns-in-Busy : goal.returns-in-Busy
returns-in-Busy c =
    let a = c.args in
    rw (c.wide-c.ensures.0, c.wide-e.ensures.0)
    (let p = put_busy a.w.now c.requires.0 a.count a.stage a.place _ _ c.sort_of-s.ensures c.offset_of-o.ensures a.lane _ _ _ _ _ c.in-Busy.is c.wide-c.ensures.1 c.wide-e.ensures.1 in
    record { w_after = p.0; bytes = p.1 })
