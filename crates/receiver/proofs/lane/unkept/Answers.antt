-- `receiver::lane::unkept` meets its contract: with nothing kept, by the phase.
-- Assumes nothing.
use Rattle.receiver.proofs.Laned.{unkept_cut, unkept_idle}
use Rattle.receiver.proofs.lane.unkept.Goals as goal

pub returns-then-have-eq0 : goal.returns-then-have-eq0
returns-then-have-eq0 c =
    unkept_idle c.args.cap c.args.phase c.args.began _ _ c.in-Head.is c.if-have-eq0.true c.requires

pub returns-else-have-eq0 : goal.returns-else-have-eq0
returns-else-have-eq0 c =
    unkept_cut c.args.cap c.args.phase c.args.began _ _ c.in-Head.is c.if-have-eq0.false c.requires
