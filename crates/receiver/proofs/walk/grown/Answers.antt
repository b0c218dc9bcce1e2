-- `receiver::walk::grown` meets its contract: the length goes up.
-- Assumes nothing.
use native.Mathlib.Omega.{arith}
use Rattle.receiver.proofs.Advancing.{grown_of}
use Rattle.receiver.proofs.walk.grown.Goals as goal

pub overflow_add-result : goal.overflow_add-result
overflow_add-result c = let g = rw c.in_ok-k.was at c.requires in omega arith

pub returns : goal.returns
returns c = grown_of c.args.n _ _ _ _ c.args.kept c.in_ok-k.was
