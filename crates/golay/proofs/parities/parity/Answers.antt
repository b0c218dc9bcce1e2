-- `parities::parity` meets its contract: the three lookups' sum. Assumes nothing.
use mathlib.Core.Path.{refl}
use Prim.Native.Nat.{◌/◌}
use Rattle.golay.specs.Golay.{chosen, four, rows}
use Rattle.golay.specs.declared.parities.TheConstants.{FIRST, MIDDLE, LAST}
use Rattle.golay.proofs.Lookups.{in_three, looked_up, chooses}
use Rattle.golay.proofs.parities.parity.Goals as goal

pub returns : goal.returns
unfolding chooses chosen
returns c =
    let n = c.args.n in
    in_three (four rows 0) (four rows 4) (four rows 8) n _ _ _ refl refl (looked_up 4 (four rows 0) FIRST (n / 256) refl refl tt)
    (looked_up 4 (four rows 4) MIDDLE (n / 16) refl refl tt) (looked_up 4 (four rows 8) LAST n refl refl tt)
