-- `digits::digits_of` meets its contract: behind the digits written are those of what is left of n.
-- Assumes nothing.
use mathlib.Core.Path.{◌∙◌}
use native.Mathlib.Omega.{arith}
use lib.ListN.{length-set, length-replicate}
use Rattle.digits.proofs.Laws.{none_written, one_more, all_written}
use Rattle.digits.proofs.digits_of.Goals as goal

pub loop-i-init : goal.loop-i-init
loop-i-init g c =
    let long = length-replicate g.row.N 0 in
    (long, none_written g.row.N c.args.n _ long)

pub loop-i-preserved : goal.loop-i-preserved
loop-i-preserved g c =
    let l = c.loop-i in
    (length-set l.bytes _ _ ∙ l.invariant.0, one_more l.rest l.bytes l.i c.loop-i-test.true (omega arith) ∙ l.invariant.1)

pub returns : goal.returns
returns g c = let l = c.loop-i in all_written l.i l.rest l.bytes c.loop-i-test.false ∙ l.invariant.1
