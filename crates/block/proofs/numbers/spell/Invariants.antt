-- The digits before index i are those of rest, and the others are written. Assumes nothing.
use Rattle.std.proofs.Common.{◌≡◌, ◌++◌, length, drop}
use Rattle.block.specs.Decimal.{padded}
use Rattle.block.proofs.numbers.spell.Given as goal

abbrev pub invariant-loop-i : goal.invariant-loop-i
invariant-loop-i l = padded l.i l.rest ++ drop l.i l.out ≡ padded (length l.out) l.n
