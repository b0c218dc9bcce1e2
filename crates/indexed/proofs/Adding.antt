-- An output block that has room for one line more had room for each line that was put. Assumes nothing.
use Prim.Native.Nat.{ℕ, ◌+◌, ◌≤◌}
use mathlib.Core.Path.{◌≡◌, refl, ap, sym, subst⁻¹, ◌∙◌}
use mathlib.Core.Bool.{Bool, true, false, cond}
use mathlib.Core.List.{List, [], ◌++◌, append_assoc, append-nil}
use native.Mathlib.Omega.{arith}
use borrow.Author.Tests.{leb-true, leb-false}
use lib.Dec.{leb, ltb}
use lib.ListN.{length, length-append}
use Rattle.block.specs.Block.{Block, put}
use Rattle.block.proofs.Decimals.{decimal_most}
use Rattle.block.proofs.Laws.{fits, misfits, held_placed, length_placed}
use Rattle.receiver.specs.declared.Find.{Find}
use Rattle.receiver.specs.declared.Find.TheVariants as F
use Rattle.receiver.specs.declared.Place.{Place}
use Rattle.indexing.specs.Lines.{line_with, sort_word, find_text, new_text}
use Rattle.indexed.specs.Loop.{held_in, Roomy}

-- from block to block s is put, or there is no room at the end
pub record Adds (o : Block) (s : List ℕ) (o' : Block) : Type 0 where
  pub more : o.at ≤ o'.at
  pub size : length o'.bytes ≡ length o.bytes
  pub held : Roomy o' → held_in o' ≡ held_in o ++ s

pub adds_none : (o : Block) → Adds o [] o
adds_none o = record { more = omega arith; size = refl; held = λ k. sym (append-nil (held_in o)) }

pub adds_then : {o : Block} {s : List ℕ} {o' : Block} {t : List ℕ} {o'' : Block} → Adds o s o' → Adds o' t o'' → Adds o (s ++ t) o''
adds_then {o} {s} {o'} {t} {o''} a b =
    let m = a.more in
    let n = b.more in
    let x = a.size in
    let y = b.size in
    record {
      more = omega arith;
      size = y ∙ x;
      held = λ k. b.held k ∙ ap (λ (l : List ℕ). l ++ t) (a.held (omega (arith, k, n, y))) ∙ append_assoc (held_in o) s t;
    }

-- one line
pub adds_one : (o : Block) (s : List ℕ) → length s ≤ 93 → Adds o s (put o.bytes o.at s)
adds_one o s few = go (leb (o.at + length s) (length o.bytes)) refl
  where
    go : (t : Bool) → leb (o.at + length s) (length o.bytes) ≡ t → Adds o s (put o.bytes o.at s)
    go true e =
        let room = leb-true (o.at + length s) (length o.bytes) e in
        subst⁻¹ (Adds o s) (fits o.bytes o.at s room)
        (record { more = omega arith; size = length_placed o.bytes o.at s room; held = λ k. held_placed o.bytes o.at s room })
    go false e =
        let none = leb-false (o.at + length s) (length o.bytes) e in
        subst⁻¹ (Adds o s) (misfits o.bytes o.at s none) (record { more = omega arith; size = refl; held = λ k. absurd (omega (arith, k, none, few)) })

-- ---- a line has at most 93 bytes

line_most : (r p c n : ℕ) (is_low : Bool) → length (line_with r p (sort_word is_low) c n) ≤ 93
unfolding line_with
line_most r p c n true = simp length-append (omega (arith, decimal_most r, decimal_most p, decimal_most c, decimal_most n))
line_most r p c n false = simp length-append (omega (arith, decimal_most r, decimal_most p, decimal_most c, decimal_most n))

find_most : (p : Place) (f : Find) → length (find_text p f) ≤ 93
find_most p F.Nothing = omega arith
find_most p F.Refused = omega arith
find_most p (F.Notice k) = omega arith
find_most p (F.Low c start n) = line_most p.stamp.number p.at c n true
find_most p (F.Ordinary c n) = line_most p.stamp.number p.at c n false

pub new_most : (covered n : ℕ) (p : Place) (f : Find) → length (new_text covered n p f) ≤ 93
new_most covered n p f = go (ltb n covered)
  where
    go : (t : Bool) → length (cond t [] (find_text p f)) ≤ 93
    go true = omega arith
    go false = find_most p f
