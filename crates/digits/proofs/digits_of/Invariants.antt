-- `digits::digits_of` meets its contract: behind the digits written are those of what is left of n.
-- Assumes nothing.
use mathlib.Core.Path.{◌≡◌}
use mathlib.Core.List.{◌++◌}
use lib.ListN.{length, drop}
use Rattle.digits.specs.Digits.{digits}
use Rattle.digits.proofs.digits_of.Given as goal

abbrev pub invariant-loop-i : goal.invariant-loop-i
invariant-loop-i g l = (length l.bytes ≡ g.row.N) × (digits l.i l.rest ++ drop l.i l.bytes ≡ digits g.row.N l.n)
