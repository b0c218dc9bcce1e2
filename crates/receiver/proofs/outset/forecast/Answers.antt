-- `receiver::outset::forecast` meets its contract: the forecast in one step for each phase is the forecast byte by byte.
-- Assumes nothing.
use lib.ListN.{drop, length-drop}
use Rattle.receiver.specs.Outset.{fore_of}
use Rattle.receiver.proofs.Foretelling.{ahead_fore, body_fore, judged_fore}
use Rattle.receiver.proofs.outset.forecast.Goals as goal

pub ahead-requires : goal.ahead-requires
ahead-requires c =
    let a = c.args in
    let q = c.in-Head.is in
    let g = rw q at c.requires.1 in (g.0, g.1, c.requires.0)

pub returns-in-Lost : goal.returns-in-Lost
unfolding fore_of
returns-in-Lost c = rw c.in-Lost.is

pub returns-in-Head : goal.returns-in-Head
returns-in-Head c =
    let a = c.args in
    let q = c.in-Head.is in
    let g = rw q at c.requires.1 in rw (c.ahead.ensures, q) (ahead_fore a.tp.now a.at _ _ c.requires.0 g.0 g.1)

pub returns-in-Judged : goal.returns-in-Judged
returns-in-Judged c =
    let a = c.args in
    let q = c.in-Judged.is in
    rw (c.min.ensures, q) (judged_fore _ _ (drop a.at a.tp.now) (length-drop a.at a.tp.now))

pub returns-in-Body : goal.returns-in-Body
returns-in-Body c =
    let a = c.args in
    let q = c.in-Body.is in
    rw (c.min-in-Body.ensures, q) (body_fore _ _ _ (drop a.at a.tp.now) (length-drop a.at a.tp.now))
