-- RECORDINGS: inputs one after the other, each with its record's stamp, are ways one after the other. Assumes nothing.
use Prim.Native.Nat.{ℕ, suc, ◌+◌, ◌≤◌, ◌<◌}
use mathlib.Core.Path.{◌≡◌, refl, sym, ap, ap₂, ◌∙◌, subst}
use mathlib.Core.Bool.{true, false}
use mathlib.Core.List.{List, [], ◌∷◌, ◌++◌, map, map-append, append_assoc}
use native.Mathlib.Omega.{arith}
use lib.ListN.{length, take}
use Rattle.receiver.specs.declared.Stamp.{Stamp}
use Rattle.receiver.specs.declared.Place.{Place}
use Rattle.receiver.specs.Forecast.{Way, by_way}
use Rattle.receiver.specs.Join.{Finding, notice, low, ordinary, finds}
use Rattle.receiver.specs.Low.{wire}
use Rattle.receiver.specs.Call.{always}
use Rattle.receiver.specs.Tp as T
use Rattle.receiver.specs.Tp.{Setting, Input, way_of}
use Rattle.indexing.specs.Lines.{Line}
use Rattle.indexed.specs.Index.{behind, behind_all, packets, record_of, lines_of, stand_at}
use Rattle.indexed.specs.Packets.{Packet, handed, All}
use Rattle.indexed.specs.Statements.{handed_all, line_by}
use Rattle.indexed.proofs.Lists.{all_map}
use Rattle.indexed.proofs.Ways.{Stand, next, run, gives}
use Rattle.indexed.proofs.Gives.{handed_append}
use Rattle.indexed.proofs.Inputs.{lows_of, bare, finds_are, stand_is}
use Rattle.indexed.proofs.Climb.{Climbs}

-- ---- lines and packets

lines_in : (fs : List (Finding wire)) → packets fs ≡ map line_by (handed wire fs)
lines_in [] = refl
lines_in (notice n p ∷ fs) = lines_in fs
lines_in (low t d ∷ fs) = ap (λ l. line_by (record { is_low = true; tag = t; bytes = d }) ∷ l) (lines_in fs)
lines_in (ordinary t d ∷ fs) = ap (λ l. line_by (record { is_low = false; tag = t; bytes = d }) ∷ l) (lines_in fs)

module _ (s : Setting) where
  pub lines_are : (xs : List Input) (p : Stamp) (t : T.Stand) → lines_of s p t xs ≡ map line_by (handed_all s p t xs)
  lines_are [] p t = refl
  lines_are (x ∷ xs) p t =
      let r = record_of s p t x in
      ap₂ (λ (a b : List Line). a ++ b) (lines_in r.0) (lines_are xs (behind p x) r.1)
      ∙ sym (map-append line_by (handed wire r.0) (handed_all s (behind p x) r.1 xs))

  abbrev pub way : Stamp → Input → Way wire
  way p x = way_of s (always p) x

  abbrev pub ways_of : Stamp → List Input → List (Way wire)
  ways_of p [] = []
  ways_of p (x ∷ xs) = way p x ∷ ways_of (behind p x) xs

  -- where an input leaves the receiver, and what it hands out
  abbrev pub onward : Stamp → T.Stand → Input → T.Stand
  onward p t x = (record_of s p t x).1

  pub onward_is : (p : Stamp) (t : T.Stand) (x : Input) → bare (onward p t x) ≡ next wire s.room (bare t) (way p x)
  onward_is p t x = ap bare (stand_is s p t x)

  pub hands_are : (p : Stamp) (t : T.Stand) (x : Input)
      → handed wire (record_of s p t x).0 ≡ handed wire (lows_of s p x) ++ gives wire s.room (bare t) (way p x)
  hands_are p t x =
      ap (handed wire) (finds_are s p t x) ∙ handed_append wire (lows_of s p x) (finds wire s.room t.held (by_way wire t.frame (way p x)).1)

  pub stand_run : (xs : List Input) (p : Stamp) (t : T.Stand) → bare (stand_at s p t xs) ≡ run wire s.room (bare t) (ways_of p xs)
  stand_run [] p t = refl
  stand_run (x ∷ xs) p t = stand_run xs (behind p x) (onward p t x) ∙ ap (λ (u : Stand wire). run wire s.room u (ways_of (behind p x) xs)) (onward_is p t x)

  -- ---- one part behind the other

  pub stand_append : (xs ys : List Input) (p : Stamp) (t : T.Stand) → stand_at s p t (xs ++ ys) ≡ stand_at s (behind_all p xs) (stand_at s p t xs) ys
  stand_append [] ys p t = refl
  stand_append (x ∷ xs) ys p t = stand_append xs ys (behind p x) (onward p t x)

  pub hands_append : (xs ys : List Input) (p : Stamp) (t : T.Stand)
      → handed_all s p t (xs ++ ys) ≡ handed_all s p t xs ++ handed_all s (behind_all p xs) (stand_at s p t xs) ys
  hands_append [] ys p t = refl
  hands_append (x ∷ xs) ys p t =
      let now : List (Packet wire) = handed wire (record_of s p t x).0 in
      let q : Stamp = behind p x in
      let u : T.Stand = onward p t x in
      ap (λ l. now ++ l) (hands_append xs ys q u) ∙ sym (append_assoc now (handed_all s q u xs) (handed_all s (behind_all q xs) (stand_at s q u xs) ys))

-- ---- stamps

pub behind_append : (xs ys : List Input) (p : Stamp) → behind_all p (xs ++ ys) ≡ behind_all (behind_all p xs) ys
behind_append [] ys p = refl
behind_append (x ∷ xs) ys p = behind_append xs ys (behind p x)

-- a fact of each record's stamp
abbrev pub Stamped : (Stamp → Type 0) → Stamp → List Input → Type 0
Stamped R p [] = Unit {0}
Stamped R p (x ∷ xs) = R p × Stamped R (behind p x) xs

pub stamped_map : (Q R : Stamp → Type 0) → ((p : Stamp) → Q p → R p) → (xs : List Input) (p : Stamp) → Stamped Q p xs → Stamped R p xs
stamped_map Q R f [] p a = tt
stamped_map Q R f (x ∷ xs) p a = (f p a.0, stamped_map Q R f xs (behind p x) a.1)

-- the stamp of the record that n records stand before
pub record Own (p : Stamp) (xs : List Input) (q : Stamp) : Type 0 where
  pub n : ℕ
  pub stamp_is : q ≡ behind_all p (take n xs)
  pub number_is : q.number ≡ p.number + n

pub stamped_own : (xs : List Input) (p : Stamp) → Stamped (Own p xs) p xs
stamped_own [] p = tt
stamped_own (x ∷ xs) p =
    (record { n = 0; stamp_is = refl; number_is = omega arith }, stamped_map (Own (behind p x) xs) (Own p (x ∷ xs)) further xs (behind p x) (stamped_own xs (behind p x)))
  where
    further : (q : Stamp) → Own (behind p x) xs q → Own p (x ∷ xs) q
    further q o = let e = o.number_is in record { n = suc o.n; stamp_is = o.stamp_is; number_is = omega arith }

pub stamped_before : (k : ℕ) (xs : List Input) (p : Stamp) → p.number + length xs ≤ k → Stamped (λ q. q.number < k) p xs
stamped_before k [] p l = tt
stamped_before k (x ∷ xs) p l = ((omega arith), stamped_before k xs (behind p x) (omega arith))

pub climbs_stamp : (t : Stamp) (i : ℕ) (ps : List Place) → Climbs t i ps → All (λ (p : Place). p.stamp ≡ t) ps
climbs_stamp t i [] c = tt
climbs_stamp t i (p ∷ ps) c = (c.0, climbs_stamp t (suc p.at) ps c.2)

-- of one TP
pub climbs_all : (R : Stamp → Type 0) (t : Stamp) (i : ℕ) (ps : List Place) → R t → Climbs t i ps → All (λ (p : Place). R p.stamp) ps
climbs_all R t i ps r c = all_map (λ (p : Place). p.stamp ≡ t) (λ (p : Place). R p.stamp) (λ p e. subst R (sym e) r) ps (climbs_stamp t i ps c)
