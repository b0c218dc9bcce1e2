-- Between two powers of ten. Assumes nothing.
use mathlib.Core.Path.{sym}
use native.Mathlib.Omega.{arith}
use borrow.Author.Rules.{rules}
use Rattle.block.specs.Decimal.{decimal}
use Rattle.block.proofs.Decimals.{digits_count}
use Rattle.block.proofs.numbers.places.Goals as goal

pub returns : goal.returns
unfolding decimal
returns c =
    let l = c.ilog10.ensures in
    sym (digits_count 19 c.ilog10.result c.args.n (omega (arith, l.bound)) (search rules) (search rules))
