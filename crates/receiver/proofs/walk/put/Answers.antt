-- `receiver::walk::put` meets its contract: a copy at the end of what is kept is the list with those bytes put in.
-- Assumes nothing.
use mathlib.Core.Path.{ap, sym}
use native.Mathlib.Omega.{arith}
use lib.ListN.{drop}
use Rattle.std.specs.Prelude.{Option}
use Rattle.receiver.specs.declared.walk.Kept.{Kept}
use Rattle.receiver.specs.InWalk.{pasted}
use Rattle.receiver.proofs.Gather.{put_is}
use Rattle.receiver.proofs.walk.put.Goals as goal

pub returns-in-None : goal.returns-in-None
returns-in-None c = sym (ap (λ (k : Option Kept). pasted k c.args.room.now (drop c.args.at c.args.tp.now) c.args.n) c.in-None.is)

pub returns-in-Some : goal.returns-in-Some
returns-in-Some c =
    let g = rw c.in-Some.is at c.requires.roomy in
    put_is c.args.tp.now c.args.at c.args.n _ _ _ _ c.args.kept c.args.room.now _ c.in-Some.is c.requires.n_in_bounds (omega arith) c.copy_at.ensures
