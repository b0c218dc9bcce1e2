-- `sending::turn` meets its contract: one law for each kind of record.
-- Assumes nothing.
use Rattle.sending.proofs.Turns.{to_ordinary, to_low, to_draw}
use Rattle.sending.proofs.turn.Goals as goal

pub returns-in-Ordinary : goal.returns-in-Ordinary
returns-in-Ordinary c =
    let a = c.args in
    let e = c.offered.ensures in
    record { refused_after = to_ordinary a.said a.s a.sp.now a.low.now a.ordinary.now a.tp _ _ _ _ _ _ _ _ c.in-Ordinary.is c.offer_ordinary-answer.ensures.ordinary_after e.sender e.at e.refused; sound = e.sound }

pub returns-in-Low : goal.returns-in-Low
returns-in-Low c =
    let a = c.args in
    let e = c.offered-in-Low.ensures in
    record { refused_after = to_low a.said a.s a.sp.now a.low.now a.ordinary.now a.tp _ _ _ _ _ _ _ _ c.in-Low.is c.offer_low-answer.ensures.low_after e.sender e.at e.refused; sound = e.sound }

pub returns-in-Draw : goal.returns-in-Draw
returns-in-Draw c =
    let a = c.args in
    record { refused_after = to_draw a.said a.s a.sp.now a.low.now a.ordinary.now a.tp _ _ c.in-Draw.is c.drawn.ensures.refused_after; sound = c.drawn.ensures.sound }
