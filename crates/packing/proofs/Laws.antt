-- One law for each way of a turn, from what the calls ensure to what the turn promises. Assumes nothing.
use Prim.Native.Nat.{ℕ, ◌-◌}
use mathlib.Core.Path.{◌≡◌, ap, sym, ◌∙◌}
use mathlib.Core.Bool.{Bool, true, false, cond}
use mathlib.Core.List.{List}
use native.Mathlib.Omega.{arith}
use lib.ListN.{length, take, drop}
use Rattle.std.specs.Prelude.{Option, Some, None}
use Rattle.block.specs.Block.{Block}
use Rattle.block.proofs.Laws.{block_of}
use Rattle.chapter11.specs.declared.Refusal.{Refusal}
use Rattle.chapter11.specs.Source.{Outcome, refuses, composed_of}
use Rattle.chapter11.proofs.Outcomes.{Gave, at_front}
use Rattle.house.specs.declared.Record.{Record}
use Rattle.packing.specs.Packing.{is_chapter11, of_length, recorded, After, packed, turn_of}

abbrev after : List ℕ → Block → Option Refusal → After
after sp o n = record { sp = sp; block = o; refused = n }

module _ (r : Record) (d sp out : List ℕ) (at : ℕ) where
  abbrev Turns : After → Type 0
  Turns x = x ≡ turn_of r d sp (block_of out at)

  asked : (t : Bool) → is_chapter11 r ≡ t
      → cond t (packed (composed_of d (length sp)) r sp (block_of out at)) (after sp (recorded r d (block_of out at)) None) ≡ turn_of r d sp (block_of out at)
  unfolding turn_of
  asked t e = ap (λ (b : Bool). cond b (packed (composed_of d (length sp)) r sp (block_of out at)) (after sp (recorded r d (block_of out at)) None)) (sym e)

  pub as_it_is : (y : List ℕ) (n : ℕ) → is_chapter11 r ≡ false → block_of y n ≡ recorded r d (block_of out at) → Turns (after sp (block_of y n) None)
  as_it_is y n e w = ap (λ (b : Block). after sp b None) w ∙ asked false e

  pub left_out : (y : List ℕ) (k : Refusal) → is_chapter11 r ≡ true → (composed_of d (length sp) ≡ refuses k) × (y ≡ sp) → Turns (after y (block_of out at) (Some k))
  left_out y k e both =
      ap (λ (l : List ℕ). after l (block_of out at) (Some k)) both.1
      ∙ ap (λ (o : Outcome). packed o r sp (block_of out at)) (sym both.0)
      ∙ asked true e

  pub put_composed : (y z : List ℕ) (n m : ℕ) (q : Record) → is_chapter11 r ≡ true → Gave sp y n (composed_of d (length sp)) → q ≡ of_length r n
      → block_of z m ≡ recorded q (take n y) (block_of out at) → Turns (after y (block_of z m) None)
  put_composed y z n m q e g same w =
      let s = g.result in
      ap (λ (b : Block). after y b None) w
      ∙ ap (λ (x : Record). after y (recorded x (take n y) (block_of out at)) None) same
      ∙ ap (λ (l : List ℕ). after y (recorded (of_length r n) l (block_of out at)) None) (at_front g)
      ∙ ap (λ (k : ℕ). after y (recorded (of_length r k) s (block_of out at)) None) g.count
      ∙ ap (λ (l : List ℕ). after l (recorded (of_length r (length s)) s (block_of out at)) None) g.buffer
      ∙ ap (λ (o : Outcome). packed o r sp (block_of out at)) (sym g.is)
      ∙ asked true e
