-- `ordinary::fill_part` meets its contract: nothing, what fits of a header, or a header and AA. Assumes nothing.
use mathlib.Core.Path.{◌≡◌, refl, ap, ◌∙◌}
use Prim.Native.Nat.{ℕ, ◌-◌, ◌%◌}
use native.Mathlib.Omega.{arith}
use lib.ListN.{length}
use Rattle.wire.specs.Wire.{header}
use Rattle.sender.proofs.Stream.{fill_nothing, fill_cut, fill_whole, short_zero, short_some, short_none}
use Rattle.sender.proofs.ordinary.fill_part.Goals as goal

pub returns-then-m-eq0 : goal.returns-then-m-eq0
returns-then-m-eq0 c =
    let a = c.args in
    record { dst_after = fill_nothing a.dst.now a.at _ refl c.if-m-eq0.true; value = short_zero (length a.dst.now - a.at) c.if-m-eq0.true }

pub returns-then-m-lt6 : goal.returns-then-m-lt6
returns-then-m-lt6 c =
    let a = c.args in
    let m : ℕ = length a.dst.now - a.at in
    let few = c.if-m-lt6.true in
    record { dst_after = fill_cut a.dst.now _ c.header_of-h.result a.at m c.requires.0 refl few c.header_of-h.ensures c.copy_at.ensures; value = short_some m m (omega (arith, c.if-m-eq0.false)) (omega (arith, few)) }

pub returns : goal.returns
returns c =
    let a = c.args in
    let m : ℕ = length a.dst.now - a.at in
    let more = c.if-m-lt6.false in
    let z : (m - 6) % 4096 ≡ m - 6 = omega (arith, c.requires.1) in
    record { dst_after = fill_whole a.dst.now _ _ c.header_of-h-2.result a.at m c.requires.0 refl more (c.header_of-h-2.ensures ∙ ap (header 0 0) z) c.copy_at-2.ensures c.fill_at.ensures; value = short_none m more }
