-- Where the loop begins: the setup's record is held. Assumes nothing.
use Prim.Native.Nat.{ℕ, ◌+◌, ◌≤◌}
use mathlib.Core.Path.{◌≡◌, ap, ◌∙◌}
use mathlib.Core.List.{List}
use native.Mathlib.Omega.{arith}
use borrow.Author.Tests.{eq-eqb, le-leb}
use lib.ListN.{length, take, length-append}
use Rattle.block.specs.Block.{Block, placed}
use Rattle.block.proofs.Laws.{block_of, held_placed}
use Rattle.house.specs.Records.{head_of, record_bytes}
use Rattle.house.specs.Slices.{written_in}
use Rattle.house.specs.declared.Record.TheVariants.{Setup}
use Rattle.sending.specs.Turn.{begun}

module _ (setup out : List ℕ) (five : length setup ≡ 5) (room : 13 ≤ length out) where
  begun_is : begun setup out ≡ block_of (placed out 0 (record_bytes Setup setup)) (0 + 8 + length setup)
  unfolding written_in
  begun_is = rw (eq-eqb (length setup) 5 five, le-leb (0 + 8 + length setup) (length out) (omega arith))

  pub begun_held : (y : List ℕ) (at : ℕ) → block_of y at ≡ begun setup out → take at y ≡ record_bytes Setup setup
  begun_held y at e =
      let long : length (record_bytes Setup setup) ≡ 8 + length setup = length-append (head_of Setup) setup in
      let end : 0 + 8 + length setup ≡ 0 + length (record_bytes Setup setup) = omega (arith, long) in
      ap (λ (b : Block). take b.at b.bytes) (e ∙ begun_is)
      ∙ ap (λ (n : ℕ). take n (placed out 0 (record_bytes Setup setup))) end
      ∙ held_placed out 0 (record_bytes Setup setup) (omega (arith, long))
