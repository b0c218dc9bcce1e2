-- The part becomes the digits. Assumes nothing.
use Prim.Native.Nat.{◌+◌, ◌-◌, ◌≤◌}
use mathlib.Core.Path.{◌≡◌, ap, sym, ◌∙◌}
use native.Mathlib.Omega.{arith}
use lib.ListN.{length, take, drop, length-drop}
use lib.Seq.{length-take-le}
use borrow.Rule.Slice.PartMut.{put_mid}
use Rattle.block.specs.Decimal.{padded}
use Rattle.block.proofs.Decimals.{padded_long}
use Rattle.block.proofs.Laws.{in_part}
use Rattle.block.proofs.numbers.last.Goals as goal

pub returns : goal.returns
returns c c' =
    let a = c'.args in
    let k = c.row.K in
    let size : k ≡ length (padded k a.n) = sym (padded_long k a.n) in
    let h : a.at + length (padded k a.n) ≤ length a.out.now = omega (arith, c'.requires, size) in
    let size_part : length (take (a.at + k - a.at) (drop a.at a.out.now)) ≡ k = length-take-le (a.at + k - a.at) (drop a.at a.out.now) (omega (arith, length-drop a.at a.out.now, c'.requires)) ∙ omega arith in
    let same : c'.spell.new.out ≡ padded k a.n = c'.spell.ensures ∙ ap (λ x. padded x a.n) size_part in
    ap (λ x. put_mid a.at (a.at + x - a.at) a.out.now c'.spell.new.out) size ∙ in_part a.out.now (padded k a.n) _ a.at h same
