-- Where the digits fit they are written, and elsewhere nothing is. Assumes nothing.
use Prim.Native.Nat.{◌+◌, ◌-◌, ◌≤◌, ◌<◌}
use mathlib.Core.Path.{◌≡◌, ap, sym, ◌∙◌}
use native.Mathlib.Omega.{arith}
use lib.ListN.{length, take, drop, length-drop}
use lib.Seq.{length-take-le}
use borrow.Rule.Slice.PartMut.{put_mid}
use Rattle.block.specs.Decimal.{decimal, padded}
use Rattle.block.proofs.Decimals.{decimal_some, padded_all}
use Rattle.block.proofs.Laws.{fits, misfits, in_part, block_of}
use Rattle.block.proofs.numbers.put_any.Goals.{then-out-at-via-then-out-at, then-out-at-via-else-out-at+then-out-at-2}
use Rattle.block.proofs.numbers.put_any.Goals as goal

pub returns-then-out-at : goal.returns-then-out-at
returns-then-out-at c =
    let a = c.args in
    let long = c.places-k.ensures in
    let some = decimal_some a.n in
    let full : length a.out.now < a.at + length (decimal a.n) =
    elim c.then-out-at.branch [ then-out-at-via-then-out-at w ↦ omega (arith, w.if-out-at) | then-out-at-via-else-out-at+then-out-at-2 w ↦ omega (arith, w.if-out-at, w.if-out-at-2) ] in
    sym (misfits a.out.now a.at (decimal a.n) full)

pub returns : goal.returns
returns c =
    let a = c.args in
    let k = c.places-k.result in
    let digits = c.spell.ensures in
    let size : k ≡ length (decimal a.n) = c.places-k.ensures in
    let h : a.at + length (decimal a.n) ≤ length a.out.now = omega (arith, c.if-out-at-2.false, c.if-out-at.false) in
    let size_part : length (take (a.at + k - a.at) (drop a.at a.out.now)) ≡ k = length-take-le (a.at + k - a.at) (drop a.at a.out.now) (omega (arith, length-drop a.at a.out.now)) ∙ omega arith in
    let same : c.spell.new.out ≡ decimal a.n = digits ∙ ap (λ x. padded x a.n) (size_part ∙ size) ∙ padded_all a.n in
    ap (λ x. block_of (put_mid a.at (a.at + x - a.at) a.out.now c.spell.new.out) (a.at + x)) size
    ∙ ap (λ x. block_of x (a.at + length (decimal a.n))) (in_part a.out.now (decimal a.n) _ a.at h same)
    ∙ sym (fits a.out.now a.at (decimal a.n) h)
