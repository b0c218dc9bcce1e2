-- `receiver::swift::low_next` meets its contract: a loss of step, the part's end, or a find.
-- Assumes nothing.
use mathlib.Core.Path.{sym, ◌∙◌}
use Rattle.receiver.specs.Words.{receiver_in}
use Rattle.receiver.proofs.OnWords.{low_drops, low_ends, low_gives}
use Rattle.receiver.proofs.Worded.{fits}
use Rattle.receiver.proofs.swift.low_next.Goals as goal

pub returns-in-Broken : goal.returns-in-Broken
returns-in-Broken c = let a = c.args in
    rw (c.notice.ensures, c.of.ensures, c.own-stamp.ensures) (low_drops (receiver_in a.w.now) a.count a.lane a.offset a.at a.tp.now a.w.now _ (fits a.w.now c.requires.0).able.size c.requires.1 c.requires.2 c.requires.3 c.requires.4 c.requires.5 _ (sym c.lows.ensures ∙ c.in-Broken.is) c.put_lane.ensures.w_after c.put_lane.ensures.bytes)

pub returns-in-End : goal.returns-in-End
returns-in-End c = let a = c.args in
    low_ends (receiver_in a.w.now) a.count a.lane a.offset a.at a.tp.now a.w.now a.w.now (fits a.w.now c.requires.0).able.size c.requires.1 c.requires.2 c.requires.3 c.requires.4 c.requires.5 _ (sym c.lows.ensures ∙ c.in-End.is)

pub returns-in-Gives : goal.returns-in-Gives
returns-in-Gives c = let a = c.args in
    let q = rw c.low_stage.ensures at c.put_lane-in-Gives.ensures in
    rw (c.of-in-Gives.ensures, c.own-stamp.ensures) (low_gives (receiver_in a.w.now) a.count a.lane a.offset a.at a.tp.now a.w.now _ (fits a.w.now c.requires.0).able.size c.requires.1 c.requires.2 c.requires.3 c.requires.4 c.requires.5 _ _ _ _ _ (sym c.lows.ensures ∙ c.in-Gives.is) q.w_after q.bytes)
