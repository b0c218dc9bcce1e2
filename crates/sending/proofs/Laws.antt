-- A TP drawn behind the place of its head, with the head then put before it, is the whole record put at once. Assumes nothing.
use Prim.Native.Nat.{ℕ, ◌+◌, ◌-◌, ◌≤◌, ◌<◌}
use mathlib.Core.Path.{◌≡◌, refl, ap, sym, subst, ◌∙◌}
use mathlib.Core.List.{List, ◌++◌, append_assoc}
use native.Mathlib.Omega.{arith}
use borrow.Author.Tests.{le-leb, lt-leb}
use borrow.Rule.Slice.PartMut.{put_mid, Post-is}
use lib.ListN.{length, take, drop, length-append, length-drop}
use lib.Seq.{length-take-le, take-append-le, take-take, drop_at}
use Rattle.block.specs.Block.{Block, placed, put}
use Rattle.block.proofs.Laws.{fits, length_placed, block_of}
use Rattle.house.specs.Records.{head_of}
use Rattle.house.specs.declared.Record.TheVariants.{Packet}
use Rattle.sender.specs.Answers.{given_by, Left}
use Rattle.sender.specs.Drawing.{drew}
use Rattle.sender.specs.declared.Sender.{Sender}
use Rattle.std.specs.Prelude.{None, Result, Ok, Err}
use Rattle.sender.specs.declared.Refusal.{Refusal}
use Rattle.sending.specs.Turn.{Drawn, drawn_by, drawn_of}

abbrev drawn_with : Sender → Block → Drawn
drawn_with s k = record { sender = s; block = k; refused = None }

module _ (d : List ℕ) (at tp : ℕ) (h : at + 8 + tp ≤ length d) where
  size : at + 8 + tp - (at + 8) ≡ tp
  size = omega arith

  holds : at + 8 ≤ length d
  holds = omega arith

  lent : length (take tp (drop (at + 8) d)) ≡ tp
  lent = length-take-le tp (drop (at + 8) d) (rw length-drop (omega arith))

  middle : (b : List ℕ) → length b ≡ tp → put_mid (at + 8) (at + 8 + tp - (at + 8)) d b ≡ placed d (at + 8) b
  middle b e =
      ap (λ (x : List ℕ). take (at + 8) d ++ (b ++ x)) (Post-is (at + 8) (at + 8 + tp) d (omega arith))
      ∙ ap (λ (n : ℕ). take (at + 8) d ++ (b ++ drop (at + 8 + n) d)) (sym e)
      ∙ sym (append_assoc (take (at + 8) d) b (drop (at + 8 + length b) d))

  before : (b : List ℕ) → take at (placed d (at + 8) b) ≡ take at d
  before b =
      ap (take at) (append_assoc (take (at + 8) d) b (drop (at + 8 + length b) d))
      ∙ take-append-le at (take (at + 8) d) (b ++ drop (at + 8 + length b) d) (omega (arith, length-take-le (at + 8) d holds))
      ∙ take-take at (at + 8) d (omega arith)

  behind : (b : List ℕ) → drop (at + 8) (placed d (at + 8) b) ≡ b ++ drop (at + 8 + length b) d
  behind b =
      ap (drop (at + 8)) (append_assoc (take (at + 8) d) b (drop (at + 8 + length b) d))
      ∙ drop_at (take (at + 8) d) (b ++ drop (at + 8 + length b) d) (at + 8) (length-take-le (at + 8) d holds)

  module _ (b hd : List ℕ) (e : length b ≡ tp) (eight : length hd ≡ 8) where
    ends : at + 8 + length b ≡ at + length (hd ++ b)
    ends = rw length-append (omega arith)

    both : placed (placed d (at + 8) b) at hd ≡ placed d at (hd ++ b)
    both =
        ap (λ (x : List ℕ). x ++ hd ++ drop (at + length hd) (placed d (at + 8) b)) (before b)
        ∙ ap (λ (n : ℕ). take at d ++ hd ++ drop (at + n) (placed d (at + 8) b)) eight
        ∙ ap (λ (x : List ℕ). take at d ++ hd ++ x) (behind b)
        ∙ sym (append_assoc (take at d ++ hd) b (drop (at + 8 + length b) d))
        ∙ ap (λ (n : ℕ). take at d ++ hd ++ b ++ drop n d) ends
        ∙ ap (λ (x : List ℕ). x ++ drop (at + length (hd ++ b)) d) (append_assoc (take at d) hd b)

    fit : at + length (hd ++ b) ≤ length d
    fit = omega (arith, ends)

    headed : (y : List ℕ) (r : ℕ) → block_of y r ≡ put (placed d (at + 8) b) at hd → y ≡ placed d at (hd ++ b)
    headed y r g =
        let room : at + length hd ≤ length (placed d (at + 8) b) = omega (arith, length_placed d (at + 8) b (omega arith)) in
        ap (λ (k : Block). k.bytes) (g ∙ fits (placed d (at + 8) b) at hd room) ∙ both

    wrote_both : (y : List ℕ) (r : ℕ) → block_of y r ≡ put (placed d (at + 8) b) at hd → block_of y (at + 8 + tp) ≡ put d at (hd ++ b)
    wrote_both y r g =
        let end : at + 8 + tp ≡ at + length (hd ++ b) = omega (arith, ends) in
        ap (λ (x : List ℕ). block_of x (at + 8 + tp)) (headed y r g) ∙ ap (block_of (placed d at (hd ++ b))) end ∙ sym (fits d at (hd ++ b) fit)

  -- what the draw, lent its part of the block, leaves there
  module _ (s : Sender) (low ordinary b : List ℕ) (same : length b ≡ length (take (at + 8 + tp - (at + 8)) (drop (at + 8) d))) where
    sized : length b ≡ tp
    sized = same ∙ ap (λ (k : ℕ). length (take k (drop (at + 8) d))) size ∙ lent

    abbrev pub drew_as : Result Sender Refusal → Type 0
    drew_as a = ◌≡◌ {A = Left} (record { given = given_by a; buffer = b }) (drew s low ordinary (take (at + 8 + tp - (at + 8)) (drop (at + 8) d)))

    by_draw : (a : Result Sender Refusal) → drew_as a → drawn_by (record { given = given_by a; buffer = b }) s tp d at ≡ drawn_of s low ordinary tp d at
    unfolding drawn_of
    by_draw a g =
        rw (le-leb (at + 8 + tp) (length d) h)
        (ap (λ (l : Left). drawn_by l s tp d at) (g ∙ ap (λ (k : ℕ). drew s low ordinary (take k (drop (at + 8) d))) size))

    pub drew_one : (t : Sender) (a : Result Sender Refusal) (y : List ℕ) (r : ℕ) → drew_as a → a ≡ Ok t
        → block_of y r ≡ put (put_mid (at + 8) (at + 8 + tp - (at + 8)) d b) at (head_of (Packet tp))
        → ◌≡◌ {A = Drawn} (record { sender = t; block = block_of y (at + 8 + tp); refused = None }) (drawn_of s low ordinary tp d at)
    drew_one t a y r g is w =
        ap (λ (k : Block). drawn_with t k) (wrote_both b (head_of (Packet tp)) sized refl y r (w ∙ ap (λ (x : List ℕ). put x at (head_of (Packet tp))) (middle b sized)))
        ∙ by_draw (Ok t) (subst drew_as is g)

    pub drew_none : (k : Refusal) (a : Result Sender Refusal) → drew_as a → a ≡ Err k
        → ◌≡◌ {A = Drawn} (record { sender = s; block = block_of (put_mid (at + 8) (at + 8 + tp - (at + 8)) d b) at; refused = None }) (drawn_of s low ordinary tp d at)
    drew_none k a g is =
        ap (λ (x : List ℕ). drawn_with s (block_of x at)) (middle b sized) ∙ by_draw (Err k) (subst drew_as is g)

pub drew_nothing : (s : Sender) (low ordinary d : List ℕ) (at tp : ℕ) → length d < at + 8 + tp
    → ◌≡◌ {A = Drawn} (record { sender = s; block = block_of d at; refused = None }) (drawn_of s low ordinary tp d at)
unfolding drawn_of
drew_nothing s low ordinary d at tp h = rw (lt-leb (at + 8 + tp) (length d) h)
