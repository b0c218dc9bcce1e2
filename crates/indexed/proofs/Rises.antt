-- LINES OF ONE SORT RISE: low-latency packets stand in the order of their LLEPs, ordinary ones in that of the bytes at which they begin.
-- Assumes nothing.
use Prim.Native.Nat.{ℕ, suc, ◌<◌, ◌≤◌}
use mathlib.Core.Path.{◌≡◌, refl, sym, ap, ap₂, ◌∙◌, subst}
use mathlib.Core.Logic.{inl, inr}
use mathlib.Core.Bool.{Bool, true, false, not}
use mathlib.Core.List.{List, [], ◌∷◌, ◌++◌, map, map-append, append-nil}
use native.Mathlib.Omega.{arith}
use Rattle.receiver.specs.declared.Stamp.{Stamp}
use Rattle.receiver.specs.declared.Place.{Place}
use Rattle.receiver.specs.Forecast.{by_way}
use Rattle.receiver.specs.Low.{wire}
use Rattle.receiver.specs.Tp as T
use Rattle.receiver.specs.Tp.{Setting, Input}
use Rattle.receiver.proofs.Facts.{wired}
use Rattle.indexing.specs.Lines.{Line}
use Rattle.indexed.specs.Index.{start_stamp, behind, fresh, record_of}
use Rattle.indexed.specs.Packets.{Packet, handed, chosen, All, Rising}
use Rattle.indexed.specs.Statements.{handed_all, handed_out, line_by, same_sort, of_sort, Earlier, Before, Rises}
use Rattle.indexed.proofs.Lists.{chosen_append, none_chosen, all_chosen, all_append, all_map, chosen_map, rising_of_map, rising_to_map, rising_append}
use Rattle.indexed.proofs.Sub.{rising_sub}
use Rattle.indexed.proofs.Ways.{marks, marks_of, Stand, gives, gives_all}
use Rattle.indexed.proofs.Gives.{all_plain}
use Rattle.indexed.proofs.InOrder.{from, begun_in}
use Rattle.indexed.proofs.Inputs.{lows_of, bare}
use Rattle.indexed.proofs.Climb.{Climbs, places, Low, marks_climb, lows_climb, lows_sort}
use Rattle.indexed.proofs.Records.{way, ways_of, onward, onward_is, hands_are, Stamped, climbs_all}
use Rattle.indexed.proofs.Grown.{listed}

abbrev pub BeforeAt : Place → Place → Type 0
BeforeAt a b = Earlier a.stamp.number a.at b.stamp.number b.at

abbrev pub place_of : Packet wire → Place
place_of q = from wire wired q

-- ---- the places of a TP, and of any number

climbs_above : (t : Stamp) (i : ℕ) (ps : List Place) → Climbs t i ps → All (λ (p : Place). (p.stamp ≡ t) × (i ≤ p.at)) ps
climbs_above t i [] c = tt
climbs_above t i (p ∷ ps) c = (
  (c.0, c.1),
  all_map (λ (q : Place). (q.stamp ≡ t) × (suc p.at ≤ q.at)) (λ (q : Place). (q.stamp ≡ t) × (i ≤ q.at)) (λ q x. (x.0, le q x.1)) ps (climbs_above t (suc p.at) ps c.2),
)
  where
    le : (q : Place) → suc p.at ≤ q.at → i ≤ q.at
    le q l = let m = c.1 in omega arith

climbs_rise : (t : Stamp) (i : ℕ) (ps : List Place) → Climbs t i ps → Rising BeforeAt ps
climbs_rise t i [] c = tt
climbs_rise t i (p ∷ ps) c =
    (all_map (λ (q : Place). (q.stamp ≡ t) × (suc p.at ≤ q.at)) (BeforeAt p) behind_p ps (climbs_above t (suc p.at) ps c.2), climbs_rise t (suc p.at) ps c.2)
  where
    behind_p : (q : Place) → (q.stamp ≡ t) × (suc p.at ≤ q.at) → BeforeAt p q
    behind_p q x = let l = x.1 in inr (ap (λ (y : Stamp). y.number) (c.0 ∙ sym x.0), (omega arith))

abbrev all_places : (Stamp → Input → List Place) → Stamp → List Input → List Place
all_places each p [] = []
all_places each p (x ∷ xs) = each p x ++ all_places each (behind p x) xs

stamped_after : (k : ℕ) (xs : List Input) (p : Stamp) → k < p.number → Stamped (λ q. k < q.number) p xs
stamped_after k [] p l = tt
stamped_after k (x ∷ xs) p l = (l, stamped_after k xs (behind p x) (omega arith))

module _ (each : Stamp → Input → List Place) (climb : (p : Stamp) (x : Input) → Climbs p 0 (each p x)) where
  in_all : (R : Stamp → Type 0) (xs : List Input) (p : Stamp) → Stamped R p xs → All (λ (q : Place). R q.stamp) (all_places each p xs)
  in_all R [] p a = tt
  in_all R (x ∷ xs) p a =
      all_append (λ (q : Place). R q.stamp) (each p x) (all_places each (behind p x) xs) (climbs_all R p 0 (each p x) a.0 (climb p x)) (in_all R xs (behind p x) a.1)

  all_rise : (xs : List Input) (p : Stamp) → Rising BeforeAt (all_places each p xs)
  all_rise [] p = tt
  all_rise (x ∷ xs) p =
      rising_append BeforeAt (each p x) (all_places each (behind p x) xs) (climbs_rise p 0 (each p x) (climb p x)) (all_rise xs (behind p x))
      (all_map (λ (q : Place). (q.stamp ≡ p) × (0 ≤ q.at)) (λ (q : Place). All (BeforeAt q) later) below (each p x) (climbs_above p 0 (each p x) (climb p x)))
    where
      later : List Place
      later = all_places each (behind p x) xs

      below : (q : Place) → (q.stamp ≡ p) × (0 ≤ q.at) → All (BeforeAt q) later
      below q e =
          all_map (λ (r : Place). p.number < r.stamp.number) (BeforeAt q) (λ r l. inl (let z = ap (λ (y : Stamp). y.number) e.0 in omega arith)) later
          (in_all (λ (y : Stamp). p.number < y.number) xs (behind p x) (stamped_after p.number xs (behind p x) (omega arith)))

-- ---- the packets of each sort

module _ (s : Setting) where
  abbrev pub sorted : Bool → List (Packet wire) → List (Packet wire)
  sorted b qs = chosen (λ (q : Packet wire). same_sort b q.is_low) qs

  abbrev low_places : Stamp → Input → List Place
  low_places p x = places (lows_of s p x)

  abbrev mark_places : Stamp → Input → List Place
  mark_places p x = marks wire (way s p x)

  plain : (p : Stamp) (t : T.Stand) (x : Input) → All (λ (q : Packet wire). q.is_low ≡ false) (gives wire s.room (bare t) (way s p x))
  plain p t x = all_plain wire s.room (by_way wire t.frame (way s p x)).1 t.held

  one_low : (p : Stamp) (t : T.Stand) (x : Input) → sorted true (handed wire (record_of s p t x).0) ≡ handed wire (lows_of s p x)
  one_low p t x =
      let lows : List (Packet wire) = handed wire (lows_of s p x) in
      let more : List (Packet wire) = gives wire s.room (bare t) (way s p x) in
      ap (sorted true) (hands_are s p t x)
      ∙ chosen_append (λ (q : Packet wire). q.is_low) lows more
      ∙ ap₂ (λ (a b : List (Packet wire)). a ++ b) (all_chosen (λ (q : Packet wire). q.is_low) lows (lows_sort s p x)) (none_chosen (λ (q : Packet wire). q.is_low) more (plain p t x))
      ∙ append-nil lows

  one_ordinary : (p : Stamp) (t : T.Stand) (x : Input) → sorted false (handed wire (record_of s p t x).0) ≡ gives wire s.room (bare t) (way s p x)
  one_ordinary p t x =
      let lows : List (Packet wire) = handed wire (lows_of s p x) in
      let more : List (Packet wire) = gives wire s.room (bare t) (way s p x) in
      let test : Packet wire → Bool = λ (q : Packet wire). not q.is_low in
      ap (sorted false) (hands_are s p t x)
      ∙ chosen_append test lows more
      ∙ ap₂ (λ (a b : List (Packet wire)). a ++ b)
      (none_chosen test lows (all_map Low (λ (q : Packet wire). not q.is_low ≡ false) (λ q e. ap not e) lows (lows_sort s p x)))
      (all_chosen test more (all_map (λ (q : Packet wire). q.is_low ≡ false) (λ (q : Packet wire). not q.is_low ≡ true) (λ q e. ap not e) more (plain p t x)))

  lows_are : (xs : List Input) (p : Stamp) (t : T.Stand) → map place_of (sorted true (handed_all s p t xs)) ≡ all_places low_places p xs
  lows_are [] p t = refl
  lows_are (x ∷ xs) p t =
      let now : List (Packet wire) = handed wire (record_of s p t x).0 in
      let rest : List (Packet wire) = handed_all s (behind p x) (onward s p t x) xs in
      ap (map place_of) (chosen_append (λ (q : Packet wire). q.is_low) now rest)
      ∙ map-append place_of (sorted true now) (sorted true rest)
      ∙ ap₂ (λ (a b : List Place). a ++ b) (ap (map place_of) (one_low p t x)) (lows_are xs (behind p x) (onward s p t x))

  ordinaries_are : (xs : List Input) (p : Stamp) (t : T.Stand) → sorted false (handed_all s p t xs) ≡ gives_all wire s.room (bare t) (ways_of s p xs)
  ordinaries_are [] p t = refl
  ordinaries_are (x ∷ xs) p t =
      let now : List (Packet wire) = handed wire (record_of s p t x).0 in
      let rest : List (Packet wire) = handed_all s (behind p x) (onward s p t x) xs in
      chosen_append (λ (q : Packet wire). not q.is_low) now rest
      ∙ ap₂ (λ (a b : List (Packet wire)). a ++ b) (one_ordinary p t x)
      (ordinaries_are xs (behind p x) (onward s p t x) ∙ ap (λ (u : Stand wire). gives_all wire s.room u (ways_of s (behind p x) xs)) (onward_is s p t x))

  marks_are : (xs : List Input) (p : Stamp) → marks_of wire (ways_of s p xs) ≡ all_places mark_places p xs
  marks_are [] p = refl
  marks_are (x ∷ xs) p = ap (λ (l : List Place). mark_places p x ++ l) (marks_are xs (behind p x))

  pub marks_rise : (xs : List Input) → Rising BeforeAt (marks_of wire (ways_of s start_stamp xs))
  marks_rise xs = subst (Rising BeforeAt) (sym (marks_are xs start_stamp)) (all_rise mark_places (marks_climb s) xs start_stamp)

  places_rise : (is_low : Bool) (xs : List Input) → Rising BeforeAt (map place_of (sorted is_low (handed_out s xs)))
  places_rise true xs = subst (Rising BeforeAt) (sym (lows_are xs start_stamp fresh)) (all_rise low_places (lows_climb s) xs start_stamp)
  places_rise false xs =
      subst (λ (l : List (Packet wire)). Rising BeforeAt (map place_of l)) (sym (ordinaries_are xs start_stamp fresh))
      (rising_sub BeforeAt (begun_in wire wired s.room (ways_of s start_stamp xs)) (marks_rise xs))

  pub packets_rise : (is_low : Bool) (xs : List Input) → Rising (λ (a b : Packet wire). BeforeAt (place_of a) (place_of b)) (sorted is_low (handed_out s xs))
  packets_rise is_low xs = rising_of_map BeforeAt place_of (sorted is_low (handed_out s xs)) (places_rise is_low xs)

pub rises : Rises
rises s xs is_low =
    subst (λ (l : List Line). Rising Before (of_sort is_low l)) (sym (listed s xs))
    (subst (Rising Before) (sym (chosen_map line_by (λ (l : Line). same_sort is_low l.is_low) (handed_out s xs)))
    (rising_to_map Before line_by (sorted s is_low (handed_out s xs)) (packets_rise s is_low xs)))
