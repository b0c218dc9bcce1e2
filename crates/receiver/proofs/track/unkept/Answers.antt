-- `receiver::track::unkept` meets its contract: with nothing kept, by the phase. Assumes nothing.
use mathlib.Core.Path.{◌∙◌}
use Rattle.receiver.proofs.Tracked.{track_cut, track_idle, track_lost, track_none}
use Rattle.receiver.proofs.track.unkept.Goals as goal

pub returns-then-have-eq0 : goal.returns-then-have-eq0
returns-then-have-eq0 c =
    let e = c.plain-then-have-eq0.ensures in
    track_idle c.plain-then-have-eq0.result c.args.phase c.args.began e.1 e.0 _ _ c.in-Head.is c.if-have-eq0.true c.requires

pub returns-in-Lost : goal.returns-in-Lost
returns-in-Lost c =
    let a = c.args in
    let e = c.plain.ensures in
    track_lost c.plain.result a.phase a.began e.1 e.0 c.in-Lost.is

pub returns-else-have-eq0 : goal.returns-else-have-eq0
returns-else-have-eq0 c =
    let e = c.cut.ensures in
    track_cut c.cut.result c.args.phase c.args.began (e.1 ∙ c.plain-in-Head.ensures.1) e.2 _ _ e.0 c.in-Head.is c.if-have-eq0.false c.requires

pub returns-in-Judged : goal.returns-in-Judged
returns-in-Judged c =
    let a = c.args in
    let e = c.plain-in-Judged.ensures in
    track_none c.plain-in-Judged.result a.phase a.began e.1 e.0
