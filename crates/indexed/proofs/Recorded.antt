-- The records of a recording from one byte of it to another: some behind others, and that they are the same for all who read them.
-- Assumes nothing.
use Prim.Native.Nat.{ℕ, ◌+◌, ◌≤◌}
use mathlib.Core.Path.{◌≡◌, refl, ap, ap₂, sym, subst, subst⁻¹, ◌∙◌}
use mathlib.Core.List.{List, [], ◌∷◌, ◌++◌}
use native.Mathlib.Omega.{arith}
use lib.ListN.{length, drop}
use Rattle.std.specs.Prelude.{Ok, Some}
use Rattle.house.specs.Slices.{at_hand, data_in}
use Rattle.house.specs.declared.Place.TheVariants.{Listing}
use Rattle.house.specs.declared.Record.TheVariants.{Packet, Gap}
use Rattle.house.proofs.Slicing.{whole_data}
use Rattle.receiver.specs.Tp.{Input, tp_in, gap_told}
use Rattle.receiver.specs.declared.Stamp.{Stamp}
use Rattle.indexed.specs.Index.{behind, behind_all}
use Rattle.indexed.specs.Loop.{Records}

pub packet_size : (u : List ℕ) (k n : ℕ) → at_hand Listing u ≡ Ok (Some (Packet k)) → at_hand Listing u ≡ Ok (Some (Packet n)) → k ≡ n
packet_size u k n d e = let both : Ok (Some (Packet k)) ≡ Ok (Some (Packet n)) = sym d ∙ e in cc

pub no_gap : (u : List ℕ) (k : ℕ) → at_hand Listing u ≡ Ok (Some (Packet k)) → at_hand Listing u ≡ Ok (Some Gap) → ⊥
no_gap u k d e = let other : Ok (Some (Packet k)) ≡ Ok (Some Gap) = sym d ∙ e in let z : ◌≡◌ {A = ℕ} 0 1 = cc in omega arith

module _ (recording : List ℕ) where
  -- one TP
  pub records_tp : (i n k : ℕ) → at_hand Listing (drop i recording) ≡ Ok (Some (Packet n)) → i + 8 + n ≡ k → Records recording i (tp_in (data_in (Packet n) (drop i recording)) ∷ []) k
  records_tp i n k whole e =
      let u = drop i recording in
      let long : length (data_in (Packet n) u) ≡ n = whole_data Listing u (Packet n) whole in
      (whole ∙ ap (λ (z : ℕ). Ok (Some (Packet z))) (sym long), (ap (λ (z : ℕ). data_in (Packet z) u) long, ap (λ (z : ℕ). i + 8 + z) long ∙ e))

  pub records_append : (xs ys : List Input) (i j k : ℕ) → Records recording i xs j → Records recording j ys k → Records recording i (xs ++ ys) k
  records_append [] ys i j k a b = subst⁻¹ (λ (n : ℕ). Records recording n ys k) a b
  records_append (tp_in d ∷ xs) ys i j k a b = (a.0, (a.1.0, records_append xs ys (i + 8 + length d) j k a.1.1 b))
  records_append (gap_told ∷ xs) ys i j k a b = (a.0, records_append xs ys (i + 8) j k a.1 b)

  pub records_split : (xs ys : List Input) (i k : ℕ) → Records recording i (xs ++ ys) k → (j : ℕ) × (Records recording i xs j × Records recording j ys k)
  records_split [] ys i k a = (i, (refl, a))
  records_split (tp_in d ∷ xs) ys i k a = let b = records_split xs ys (i + 8 + length d) k a.1.1 in (b.0, ((a.0, (a.1.0, b.1.0)), b.1.1))
  records_split (gap_told ∷ xs) ys i k a = let b = records_split xs ys (i + 8) k a.1 in (b.0, ((a.0, b.1.0), b.1.1))

  -- where they end is where the stamps say
  pub records_byte : (xs : List Input) (i k : ℕ) (p : Stamp) → p.byte ≡ i → Records recording i xs k → (behind_all p xs).byte ≡ k
  records_byte [] i k p e a = e ∙ a
  records_byte (tp_in d ∷ xs) i k p e a = records_byte xs (i + 8 + length d) k (behind p (tp_in d)) (omega arith) a.1.1
  records_byte (gap_told ∷ xs) i k p e a = records_byte xs (i + 8) k (behind p gap_told) (omega arith) a.1

  -- more of them begin with fewer
  pub records_longer : (xs ys : List Input) (i j k : ℕ) → Records recording i xs j → Records recording i ys k → length xs ≤ length ys → (zs : List Input) × (ys ≡ xs ++ zs)
  records_longer [] ys i j k a b l = (ys, refl)
  records_longer (x ∷ xs) [] i j k a b l = absurd (omega arith)
  records_longer (tp_in d ∷ xs) (tp_in e ∷ ys) i j k a b l =
      let u = drop i recording in
      let size : length e ≡ length d = packet_size u (length e) (length d) b.0 a.0 in
      let same : e ≡ d = sym b.1.0 ∙ ap (λ (n : ℕ). data_in (Packet n) u) size ∙ a.1.0 in
      let z = records_longer xs ys (i + 8 + length d) j k a.1.1 (subst (λ (n : ℕ). Records recording (i + 8 + n) ys k) size b.1.1) (omega arith) in
      (z.0, ap₂ (λ (c : List ℕ) (cs : List Input). tp_in c ∷ cs) same z.1)
  records_longer (tp_in d ∷ xs) (gap_told ∷ ys) i j k a b l = absurd (no_gap (drop i recording) (length d) a.0 b.0)
  records_longer (gap_told ∷ xs) (tp_in e ∷ ys) i j k a b l = absurd (no_gap (drop i recording) (length e) b.0 a.0)
  records_longer (gap_told ∷ xs) (gap_told ∷ ys) i j k a b l =
      let z = records_longer xs ys (i + 8) j k a.1 b.1 (omega arith) in
      (z.0, ap (λ (cs : List Input). gap_told ∷ cs) z.1)
