-- A packet's line is its record and a listing's line; put piece by piece into a block with room for it, it is the line; and where the
-- block was a text of its own, its start is the line. Assumes nothing.
use Prim.Native.Nat.{ℕ, ◌+◌, ◌≤◌, ◌<◌}
use mathlib.Core.Path.{◌≡◌, refl, ap, sym, ◌∙◌}
use mathlib.Core.Bool.{Bool, true, false, cond}
use mathlib.Core.List.{List, [], ◌∷◌, ◌++◌, append_assoc}
use native.Mathlib.Omega.{arith}
use lib.ListN.{length, take, drop, length-append}
use lib.Seq.{take-append_seam}
use borrow.Author.Tests.{lt-ltb}
use Rattle.block.specs.Block.{Block, placed, put}
use Rattle.block.specs.Decimal.{decimal}
use Rattle.block.proofs.Laws.{fits, then, block_of, room}
use Rattle.block.proofs.Decimals.{decimal_most}
use Rattle.listing.specs.Lines.{low_word, ordinary_word, behind, rest_of}
use Rattle.listing.proofs.Laws.{rest_most}
use Rattle.receiver.specs.declared.Find.{Find}
use Rattle.receiver.specs.declared.Find.TheVariants.{Nothing, Refused, Notice, Low, Ordinary}
use Rattle.receiver.specs.declared.Place.{Place}
use Rattle.indexing.specs.Lines.{line_with, find_text, is_packet, packet_text, new_text}

-- ---- a packet's line

line_is : (r p : ℕ) (w : List ℕ) (c n : ℕ) → line_with r p w c n ≡ decimal r ++ (32 ∷ []) ++ decimal p ++ behind w c n
unfolding line_with
line_is r p w c n = simp append_assoc

-- only a packet has one
chosen : (p : Place) (f : Find) → find_text p f ≡ cond (is_packet f) (packet_text p f) []
chosen p Nothing = refl
chosen p Refused = refl
chosen p (Notice k) = refl
chosen p (Low c start n) = line_is p.stamp.number p.at low_word c n
chosen p (Ordinary c n) = line_is p.stamp.number p.at ordinary_word c n

pub no_line : (p : Place) (f : Find) → is_packet f ≡ false → find_text p f ≡ []
no_line p f e = chosen p f ∙ ap (λ (b : Bool). cond b (packet_text p f) []) e

pub its_line : (p : Place) (f : Find) → is_packet f ≡ true → packet_text p f ≡ find_text p f
its_line p f e = sym (chosen p f ∙ ap (λ (b : Bool). cond b (packet_text p f) []) e)

packet_most : (p : Place) (f : Find) → length (packet_text p f) ≤ 101
packet_most p f = simp length-append (omega (arith, decimal_most p.stamp.number, decimal_most p.at, rest_most f))

-- its record and its place leave room for the rest
module _ (d : List ℕ) (at : ℕ) (p : Place) (h : at + 101 ≤ length d) (y₁ y₂ y₃ : List ℕ) (r₁ r₂ r₃ : ℕ) (e₁ : block_of y₁ r₁ ≡ put d at (decimal p.stamp.number))
    (e₂ : block_of y₂ r₂ ≡ put y₁ r₁ (32 ∷ [])) (e₃ : block_of y₃ r₃ ≡ put y₂ r₂ (decimal p.at)) where
  headed : block_of y₃ r₃ ≡ put d at (decimal p.stamp.number ++ (32 ∷ []) ++ decimal p.at)
  headed =
      let record-most = decimal_most p.stamp.number in
      let place-most = decimal_most p.at in
      let e₁₂ = then d y₁ y₂ (decimal p.stamp.number) (32 ∷ []) at r₁ r₂ (omega (arith, record-most)) e₁ e₂ in
      then d y₂ y₃ (decimal p.stamp.number ++ (32 ∷ [])) (decimal p.at) at r₂ r₃ (simp length-append (omega (arith, record-most, place-most))) e₁₂ e₃

  pub rest_room : r₃ + 52 ≤ length y₃
  rest_room = room d y₃ (decimal p.stamp.number ++ (32 ∷ []) ++ decimal p.at) at r₃ 52 headed (simp length-append (omega (arith, decimal_most p.stamp.number, decimal_most p.at)))

  pub spelled : (f : Find) (y₄ : List ℕ) (r₄ : ℕ) → block_of y₄ r₄ ≡ put y₃ r₃ (rest_of f) → block_of y₄ r₄ ≡ put d at (packet_text p f)
  spelled f y₄ r₄ e₄ =
      then d y₃ y₄ (decimal p.stamp.number ++ (32 ∷ []) ++ decimal p.at) (rest_of f) at r₃ r₄
      (simp length-append (omega (arith, decimal_most p.stamp.number, decimal_most p.at, rest_most f))) headed e₄

-- a text of its own holds it from its first byte on
module _ (d : List ℕ) (long : 101 ≤ length d) (p : Place) (f : Find) (y : List ℕ) (r : ℕ) (e : block_of y r ≡ put d 0 (packet_text p f)) where
  pub within : r ≤ length y
  within = omega (arith, room d y (packet_text p f) 0 r 0 e (omega (arith, packet_most p f)))

  pub cut : take r y ≡ packet_text p f
  cut =
      let s : List ℕ = packet_text p f in
      let fit : 0 + length s ≤ length d = omega (arith, packet_most p f) in
      let both : block_of y r ≡ block_of (placed d 0 s) (0 + length s) = e ∙ fits d 0 s fit in
      let size : r ≡ length s = omega (arith, ap (λ (b : Block). b.at) both) in
      ap (λ (k : ℕ). take k y) size ∙ ap (λ (b : Block). take (length s) b.bytes) both ∙ take-append_seam s (drop (0 + length s) d)

-- ---- of a record that is not covered

pub old : (covered r : ℕ) (p : Place) (f : Find) → r < covered → new_text covered r p f ≡ []
old covered r p f h = ap (λ (b : Bool). cond b [] (find_text p f)) (lt-ltb r covered h)
