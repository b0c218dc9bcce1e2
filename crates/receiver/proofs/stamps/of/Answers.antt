-- `receiver::stamps::of` meets its contract: the payload begins behind four bytes.
-- Assumes nothing.
use mathlib.Core.Path.{◌≡◌}
use Prim.Native.Nat.{◌-◌}
use native.Mathlib.Omega.{arith}
use Rattle.receiver.proofs.stamps.of.Goals as goal

pub returns-then-at-lt4 : goal.returns-then-at-lt4
returns-then-at-lt4 c = let e : c.args.at - 4 ≡ 0 = omega (arith, c.if-at-lt4.true) in rw e
