-- `receiver::lane::lows` meets its contract: behind the TP's end stands no LLEP. Assumes nothing.
use native.Mathlib.Omega.{arith}
use mathlib.Core.List.{List, []}
use mathlib.Core.Path.{◌≡◌}
use Prim.Native.Nat.{ℕ}
use lib.ListN.{drop, drop_of_length-le}
use Rattle.receiver.specs.Low.{llep}
use Rattle.receiver.specs.Lows.{lows, lows_of}
use Rattle.receiver.proofs.lane.lows.Goals as goal

pub returns-then-tp-at : goal.returns-then-tp-at
unfolding lows_of lows llep
returns-then-tp-at c =
    let a = c.args in
    let e : ◌≡◌ {A = List ℕ} (drop a.at a.tp.now) [] = drop_of_length-le a.tp.now {i = a.at} (omega (arith, c.if-tp-at.true)) in
    rw e
