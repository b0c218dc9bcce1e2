-- `receiver::walk::body` meets its contract: either the TP ends first, or the EP does.
-- Assumes nothing.
use native.Mathlib.Omega.{arith}
use Rattle.receiver.proofs.Advancing.{body_cut, body_read, less_roomy}
use Rattle.receiver.proofs.walk.body.Goals as goal

pub grown-k-requires : goal.grown-k-requires
grown-k-requires c = less_roomy _ _ c.args.left c.args.kept c.requires.1 (omega arith)

pub returns-then-rest-left : goal.returns-then-rest-left
returns-then-rest-left c = let a = c.args in rw (c.stop.ensures, c.grown-k.ensures) (body_cut a.tp.now a.at a.left a.header a.began a.kept c.if-rest-left.true)

pub returns : goal.returns
returns c = let a = c.args in rw (c.finish.ensures, c.grown-k-2.ensures) (body_read a.tp.now a.at a.left a.header a.began a.kept c.if-rest-left.false)
