-- One law for each way of a find, from what the calls ensure to what is promised. Assumes nothing.
use Prim.Native.Nat.{ℕ, ◌+◌, ◌-◌, ◌≤◌, ◌<◌}
use mathlib.Core.Path.{◌≡◌, ap, sym, ◌∙◌}
use mathlib.Core.Bool.{Bool, true, false, cond}
use mathlib.Core.List.{List, ◌++◌, append_assoc, append-nil}
use native.Mathlib.Omega.{arith}
use borrow.Author.Tests.{le-leb, lt-leb}
use borrow.Rule.Slice.PartMut.{put_mid, Post-is}
use lib.Dec.{leb}
use lib.ListN.{length, take, drop, length-drop, drop_of_length-le, take-append-drop}
use lib.Seq.{take_all, drop-drop}
use Rattle.std.specs.Prelude.{Option, Some, None, Result, Ok, Err}
use Rattle.block.specs.Block.{Block, placed}
use Rattle.block.proofs.Laws.{block_of}
use Rattle.chapter11.specs.Source.{Left, Outcome, gives, refuses, left, reassembled_of}
use Rattle.chapter11.proofs.Theorems.{reassembled_fits}
use Rattle.chapter11.specs.declared.Refusal.{Refusal}
use Rattle.chapter11.specs.declared.Refusal.TheVariants.{Unfit}
use Rattle.chapter11.proofs.Outcomes.{Gave, done, refused}
use Rattle.receiver.specs.declared.Find.{Find}
use Rattle.unpacking.specs.Unpacking.{is_chapter11, After, unpacked, find_of}

abbrev after : Block → Option Refusal → After
after o n = record { block = o; refused = n }

-- the part behind what the block holds
abbrev pub behind : List ℕ → ℕ → List ℕ
behind out at = take (length out - at) (drop at out)

module _ (f : Find) (sp out : List ℕ) (at : ℕ) where
  abbrev Finds : After → Type 0
  Finds x = x ≡ find_of f sp (block_of out at)

  abbrev within : Bool → After
  within b = cond b (unpacked (reassembled_of sp (length out - at)) (block_of out at)) (after (block_of out at) (Some Unfit))

  asked : (t : Bool) → is_chapter11 f ≡ t → cond t (within (leb at (length out))) (after (block_of out at) None) ≡ find_of f sp (block_of out at)
  unfolding find_of
  asked t e = ap (λ (b : Bool). cond b (within (leb at (length out))) (after (block_of out at) None)) (sym e)

  pub passed_over : is_chapter11 f ≡ false → Finds (after (block_of out at) None)
  passed_over e = asked false e

  module _ (is : is_chapter11 f ≡ true) where
    pub past_the_end : length out < at → Finds (after (block_of out at) (Some Unfit))
    past_the_end h = ap within (sym (lt-leb at (length out) h)) ∙ asked true is

    module _ (fit : at ≤ length out) where
      part_is : behind out at ≡ drop at out
      part_is = take_all (length out - at) (drop at out) (rw length-drop (omega arith))

      put_back : (b : List ℕ) → put_mid at (length out - at) out b ≡ take at out ++ b
      put_back b =
          let all : length out ≤ length out = omega arith in
          ap (λ (x : List ℕ). take at out ++ (b ++ x)) (Post-is at (length out) out fit ∙ drop_of_length-le out all)
          ∙ ap (λ (x : List ℕ). take at out ++ x) (append-nil b)

      room : length (behind out at) ≡ length out - at
      room = ap length part_is ∙ length-drop at out

      abbrev pub Leaves : Result ℕ Refusal → List ℕ → Type 0
      Leaves a b = ◌≡◌ {A = Left} (record { answer = a; buffer = b }) (left (behind out at) (reassembled_of sp (length (behind out at))))

      outcome : (o : Outcome) → reassembled_of sp (length (behind out at)) ≡ o → unpacked o (block_of out at) ≡ find_of f sp (block_of out at)
      outcome o e =
          ap (λ (x : Outcome). unpacked x (block_of out at)) (sym e ∙ ap (reassembled_of sp) room)
          ∙ ap within (sym (le-leb at (length out) fit))
          ∙ asked true is

      pub left_out : (a : Result ℕ Refusal) (b : List ℕ) (k : Refusal) → Leaves a b → a ≡ Err k → Finds (after (block_of (put_mid at (length out - at) out b) at) (Some k))
      left_out a b k e is_err =
          let r = refused (behind out at) b k a (reassembled_of sp (length (behind out at))) e is_err in
          ap (λ (x : List ℕ). after (block_of x at) (Some k)) (put_back b ∙ ap (λ (x : List ℕ). take at out ++ x) (r.1 ∙ part_is) ∙ take-append-drop at out)
          ∙ outcome (refuses k) r.0

      gave : (a : Result ℕ Refusal) (b : List ℕ) (n : ℕ) → Leaves a b → a ≡ Ok n → Gave (behind out at) b n (reassembled_of sp (length (behind out at)))
      gave a b n e k = done (behind out at) b n a (reassembled_of sp (length (behind out at))) e k

      pub ends : (a : Result ℕ Refusal) (b : List ℕ) (n : ℕ) → Leaves a b → a ≡ Ok n → at + n ≤ length out
      ends a b n e k =
          let g = gave a b n e k in
          omega (arith, g.count, reassembled_fits sp (length (behind out at)) g.result g.is, room)

      pub put_whole : (a : Result ℕ Refusal) (b : List ℕ) (n : ℕ) → Leaves a b → a ≡ Ok n → Finds (after (block_of (put_mid at (length out - at) out b) (at + n)) None)
      put_whole a b n e k =
          let g = gave a b n e k in
          let s = g.result in
          let rest : drop (length s) (behind out at) ≡ drop (at + length s) out = ap (drop (length s)) part_is ∙ drop-drop (length s) at out in
          let whole : put_mid at (length out - at) out b ≡ placed out at s =
          put_back b
          ∙ ap (λ (x : List ℕ). take at out ++ x) (g.buffer ∙ ap (λ (x : List ℕ). s ++ x) rest)
          ∙ sym (append_assoc (take at out) s (drop (at + length s) out)) in
          ap (λ (x : List ℕ). after (block_of x (at + n)) None) whole
          ∙ ap (λ (m : ℕ). after (block_of (placed out at s) (at + m)) None) g.count
          ∙ outcome (gives s) g.is
