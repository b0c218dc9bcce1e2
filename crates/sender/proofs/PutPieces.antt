-- An SP's pieces put behind what a ring holds, one after another. Assumes nothing.
use mathlib.Core.Path.{◌≡◌, refl, sym, ap, ◌∙◌}
use mathlib.Core.List.{List, [], ◌++◌, append_assoc, flatten}
use Prim.Native.Nat.{ℕ, suc, ◌+◌, ◌-◌, ◌≤◌, ◌<◌}
use native.Mathlib.Nat.{sub-zero}
use native.Mathlib.Omega.{arith}
use lib.ListN.{length, take, drop, length-append, length-drop}
use lib.Seq.{take_all, length-take-le}
use Rattle.queue.specs.declared.Ring.{Ring}
use Rattle.queue.specs.Ring.{Kept}
use Rattle.wire.specs.Wire.{ep}
use Rattle.wire.proofs.Laws.{ep_length}
use Rattle.sender.specs.Offering.{later, sp_bytes}
use Rattle.sender.specs.Steps.{Put}
use Rattle.sender.proofs.Puts.{nothing, same, kept, longer_by, then}
use Rattle.sender.proofs.Pieces.{last_bytes, middle_bytes, one_piece, first_piece, piece_length}

-- out is put, and r, the rest of the SP, is still to come
pub record Putting (b₀ : List ℕ) (q : Ring) (c : ℕ) (d : List ℕ) (F : ℕ) (b : List ℕ) (t : Ring) (r : List ℕ) : Type 0 where
  pub out : List ℕ
  pub put : record { ring = t; bytes = b } ≡ Put b₀ q out
  pub fuel : ℕ
  pub enough : length r ≤ fuel
  pub whole : out ++ flatten (later fuel F c r) ≡ flatten (later (length d) F c (drop F d))

-- what code takes from place F to the end
pub tail_is : (d : List ℕ) (F : ℕ) → take (length d - F) (drop F d) ≡ drop F d
tail_is d F = take_all (length d - F) (drop F d) (omega (arith, length-drop F d))

pub shorter : (d : List ℕ) (F : ℕ) → 1 ≤ F → F < length d → length (take (length d - F) (drop F d)) < length d
shorter d F f h = rw (tail_is d F) (omega (arith, length-drop F d))

pub starts : (b : List ℕ) (q : Ring) (c : ℕ) (d : List ℕ) (F : ℕ) → Kept b q → Putting b q c d F b q (take (length d - F) (drop F d))
starts b q c d F w =
    rw (tail_is d F) (record { out = []; put = nothing b q w; fuel = length d; enough = omega (arith, length-drop F d); whole = refl })

module _ (b₀ : List ℕ) (q : Ring) (c : ℕ) (d : List ℕ) (F : ℕ) (b : List ℕ) (t : Ring) (r : List ℕ) (p : Putting b₀ q c d F b t r)
    (w : Kept b₀ q) (f : 1 ≤ F) (room : q.len + length (flatten (later (length d) F c (drop F d))) ≤ length b₀) where
  to_come : List ℕ
  to_come = flatten (later p.fuel F c r)

  all_len : length p.out + length to_come ≡ length (flatten (later (length d) F c (drop F d)))
  unfolding to_come
  all_len = sym (length-append p.out (flatten (later p.fuel F c r))) ∙ ap length p.whole

  out_room : q.len + length p.out ≤ length b₀
  out_room = omega (arith, all_len)

  pub sound : Kept b t
  sound = kept b₀ q w p.out b t out_room p.put

  pub size : length b ≡ length b₀
  size = same b₀ q w p.out b t out_room p.put

  tail_len : t.len ≡ q.len + length p.out
  tail_len = longer_by b₀ q w p.out b t out_room p.put

  last_is : length r ≤ F → to_come ≡ ep c 3 r
  unfolding to_come
  last_is h = last_bytes p.fuel F c r h

  pub room_last : length r ≤ F → t.len + (6 + length r) ≤ length b
  room_last h = omega (arith, ap length (last_is h) ∙ ep_length c 3 r, tail_len, all_len, size)

  goes : F < length r → (k : ℕ) × ((p.fuel ≡ suc k) × (to_come ≡ ep c 2 (take F r) ++ flatten (later k F c (drop F r))))
  unfolding to_come
  goes h =
      let g : p.fuel ≡ suc (p.fuel - 1) = omega (arith, p.enough) in
      (p.fuel - 1, (g, ap (λ (z : ℕ). flatten (later z F c r)) g ∙ middle_bytes (p.fuel - 1) F c r h))

  pub piece_of : F < length r → length (take F r) ≡ F
  piece_of h = length-take-le F r (omega arith)

  more_len : (h : F < length r) → length to_come ≡ 6 + F + length (flatten (later (goes h).0 F c (drop F r)))
  more_len h = ap length (goes h).1.1 ∙ piece_length F c 2 r (flatten (later (goes h).0 F c (drop F r))) (omega arith)

  pub room_more : F < length r → t.len + (6 + F) ≤ length b
  room_more h = omega (arith, more_len h, tail_len, all_len, size)

  pub again : (b' : List ℕ) (t' : Ring) → F < length r → record { ring = t'; bytes = b' } ≡ Put b t (ep c 2 (take F r))
      → Putting b₀ q c d F b' t' (take (length r - F) (drop F r))
  unfolding to_come
  again b' t' h u =
      let g = goes h in
      let e : List ℕ = ep c 2 (take F r) in
      let lp : q.len + length p.out + length e ≤ length b₀ = omega (arith, ep_length c 2 (take F r), piece_of h, more_len h, all_len) in
      let g₁ = g.1.0 in
      let en = p.enough in
      rw (tail_is r F) (record {
        out = p.out ++ e;
        put = then b₀ q w p.out b t out_room p.put e b' t' lp u;
        fuel = g.0;
        enough = omega (arith, length-drop F r);
        whole = append_assoc p.out e (flatten (later g.0 F c (drop F r))) ∙ ap (λ (z : List ℕ). p.out ++ z) (sym g.1.1) ∙ p.whole;
      })

  pub ends : (b' : List ℕ) (t' : Ring) → length r ≤ F → record { ring = t'; bytes = b' } ≡ Put b t (ep c 3 r)
      → record { ring = t'; bytes = b' } ≡ Put b₀ q (flatten (later (length d) F c (drop F d)))
  unfolding to_come
  ends b' t' h u =
      let l = last_is h in
      let lp : q.len + length p.out + length (ep c 3 r) ≤ length b₀ = omega (arith, ap length l, all_len) in
      then b₀ q w p.out b t out_room p.put (ep c 3 r) b' t' lp u ∙ ap (Put b₀ q) (ap (λ (z : List ℕ). p.out ++ z) (sym l) ∙ p.whole)

-- ---- the whole SP

module _ (b : List ℕ) (q : Ring) (c : ℕ) (d : List ℕ) (F : ℕ) (w : Kept b q) (r : q.len + length (sp_bytes F c d) ≤ length b) where
  pub room_one : length d ≤ F → q.len + (6 + length d) ≤ length b
  room_one h = omega (arith, ap length (one_piece F c d h) ∙ ep_length c 0 d)

  module _ (h : F < length d) where
    lengths : length (sp_bytes F c d) ≡ 6 + F + length (flatten (later (length d) F c (drop F d)))
    lengths = ap length (first_piece F c d h) ∙ piece_length F c 1 d (flatten (later (length d) F c (drop F d))) (omega arith)

    pub first_length : length (take (F - 0) d) ≡ F
    first_length = rw (sub-zero F) (length-take-le F d (omega arith))

    pub room_first : q.len + (6 + length (take (F - 0) d)) ≤ length b
    room_first = omega (arith, lengths, first_length)

    first_room : q.len + length (ep c 1 (take (F - 0) d)) ≤ length b
    first_room = omega (arith, lengths, first_length, ep_length c 1 (take (F - 0) d))

    module _ (b₁ : List ℕ) (t : Ring) (u : record { ring = t; bytes = b₁ } ≡ Put b q (ep c 1 (take (F - 0) d))) where
      pub kept_first : Kept b₁ t
      kept_first = kept b q w (ep c 1 (take (F - 0) d)) b₁ t first_room u

      pub room_later : t.len + length (flatten (later (length d) F c (drop F d))) ≤ length b₁
      room_later =
          omega (
            arith,
            lengths,
            first_length,
            ep_length c 1 (take (F - 0) d),
            same b q w (ep c 1 (take (F - 0) d)) b₁ t first_room u,
            longer_by b q w (ep c 1 (take (F - 0) d)) b₁ t first_room u,
          )

      pub put_more : (b₂ : List ℕ) (t₂ : Ring) → record { ring = t₂; bytes = b₂ } ≡ Put b₁ t (flatten (later (length d) F c (drop F d)))
          → record { ring = t₂; bytes = b₂ } ≡ Put b q (sp_bytes F c d)
      put_more b₂ t₂ v =
          let z : F - 0 ≡ F = sub-zero F in
          let x = then b q w (ep c 1 (take (F - 0) d)) b₁ t first_room u (flatten (later (length d) F c (drop F d))) b₂ t₂ (omega (arith, lengths, first_length, ep_length c 1 (take (F - 0) d))) v in
          rw (first_piece F c d h) (rw z at x)
