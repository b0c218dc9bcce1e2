-- FROM ANY LINE: of the packets begun at or after a line's place, a receiver started at the line's record is given the same as the one that
-- read all, input by input; none of an earlier record is among them, and in what rises the line's own packet is the first.
-- Assumes nothing.
use Prim.Native.Nat.{ℕ, suc, ◌-◌, ◌<◌}
use mathlib.Core.Path.{◌≡◌, refl, sym, ap, ap₂, ◌∙◌, subst}
use mathlib.Core.Logic.{inl, inr}
use mathlib.Core.Bool.{Bool, true, false, cond}
use mathlib.Core.List.{List, [], ◌∷◌, ◌++◌, map}
use native.Mathlib.Omega.{arith}
use lib.Dec.{leb, ltb}
use lib.ListN.{take, drop, take-append-drop}
use borrow.Author.Tests.{ne_eqb, eq-eqb, le-leb, lt-leb, le-ltb}
use Rattle.std.specs.Prelude.{Some}
use Rattle.receiver.specs.declared.Stamp.{Stamp}
use Rattle.receiver.specs.declared.Place.{Place}
use Rattle.receiver.specs.Low.{wire}
use Rattle.receiver.specs.Tp as T
use Rattle.receiver.specs.Tp.{Setting, Input}
use Rattle.receiver.proofs.Facts.{wired}
use Rattle.indexed.specs.Index.{start_stamp, behind, behind_all, fresh, record_of, stand_at}
use Rattle.indexed.specs.Packets.{Packet, handed, chosen, first, All, Rising}
use Rattle.indexing.specs.Lines.{at_or_after}
use Rattle.indexed.specs.Statements.{handed_all, handed_out, same_sort, started_at, FromLine}
use Rattle.indexed.proofs.Lists.{chosen_append, none_chosen, all_append, all_left, all_right, all_map, all_of_map, rising_before, chosen_twice, chosen_swap}
use Rattle.indexed.proofs.Sub.{all_sub}
use Rattle.indexed.proofs.Ways as W
use Rattle.indexed.proofs.Ways.{Stand, marks, gives}
use Rattle.indexed.proofs.Facts.{weaker}
use Rattle.indexed.proofs.Near.{Rests, rests_next, Aged, Near, near_next, near_gives}
use Rattle.indexed.proofs.InOrder.{known, by_way_in}
use Rattle.indexed.proofs.Inputs.{lows_of, bare}
use Rattle.indexed.proofs.Climb.{places, marks_climb, lows_climb}
use Rattle.indexed.proofs.Records.{way, onward, onward_is, hands_are, hands_append, Stamped, Own, stamped_own, climbs_all}
use Rattle.indexed.proofs.Grown.{rests_at, in_stand, stamped_first}
use Rattle.indexed.proofs.Rises.{BeforeAt, place_of, packets_rise}

-- ---- at or after a place

abbrev from_on : Place → Place → Bool
from_on p q = at_or_after p.stamp.number p.at q.stamp.number q.at

earlier_record : (p q : Place) → q.stamp.number < p.stamp.number → from_on p q ≡ false
earlier_record p q l =
    ap (λ (b : Bool). cond b (leb p.at q.at) (ltb p.stamp.number q.stamp.number)) (ne_eqb q.stamp.number p.stamp.number (λ e. omega arith))
    ∙ le-ltb p.stamp.number q.stamp.number (omega arith)

earlier_place : (p q : Place) → BeforeAt q p → from_on p q ≡ false
earlier_place p q (inl l) = earlier_record p q l
earlier_place p q (inr (e, l)) =
    ap (λ (b : Bool). cond b (leb p.at q.at) (ltb p.stamp.number q.stamp.number)) (eq-eqb q.stamp.number p.stamp.number e)
    ∙ lt-leb p.at q.at l

own_place : (p : Place) → from_on p p ≡ true
own_place p =
    ap (λ (b : Bool). cond b (leb p.at p.at) (ltb p.stamp.number p.stamp.number)) (eq-eqb p.stamp.number p.stamp.number refl)
    ∙ le-leb p.at p.at (omega arith)

own_sort : (b : Bool) → same_sort b b ≡ true
own_sort true = refl
own_sort false = refl

module _ (s : Setting) where
  -- ---- of all packets: what holds of each record's stamp

  hands_all : (R : Stamp → Type 0) (xs : List Input) (p : Stamp) (t : T.Stand) → All (λ (q : Place). R q.stamp) (known wire wired s.room (bare t)) → Stamped R p xs
      → All (λ (r : Packet wire). R (place_of r).stamp) (handed_all s p t xs)
  hands_all R [] p t k a = tt
  hands_all R (x ∷ xs) p t k a =
      let Q : Place → Type 0 = λ (q : Place). R q.stamp in
      let K : Packet wire → Type 0 = λ (r : Packet wire). R (place_of r).stamp in
      let now : List (Packet wire) = gives wire s.room (bare t) (way s p x) in
      let left : List Place = known wire wired s.room (W.next wire s.room (bare t) (way s p x)) in
      let both : All Q (map place_of now ++ left) =
      all_sub Q (by_way_in wire wired s.room (bare t) (way s p x))
      (all_append Q (known wire wired s.room (bare t)) (marks wire (way s p x)) k (climbs_all R p 0 (marks wire (way s p x)) a.0 (marks_climb s p x))) in
      let lows : All K (handed wire (lows_of s p x)) =
      all_of_map Q place_of (handed wire (lows_of s p x)) (climbs_all R p 0 (places (lows_of s p x)) a.0 (lows_climb s p x)) in
      let here : All K (handed wire (lows_of s p x) ++ now) =
      all_append K (handed wire (lows_of s p x)) now lows (all_of_map Q place_of now (all_left Q (map place_of now) left both)) in
      all_append K (handed wire (record_of s p t x).0) (handed_all s (behind p x) (onward s p t x) xs)
      (subst (All K) (sym (hands_are s p t x)) here)
      (hands_all R xs (behind p x) (onward s p t x)
      (subst (λ (v : Stand wire). All Q (known wire wired s.room v)) (sym (onward_is s p t x)) (all_right Q (map place_of now) left both)) a.1)

  -- ---- started at a record

  module _ (new : Place → Bool) where
    abbrev is_later : Packet wire → Bool
    is_later r = new (place_of r)

    near_hands : (xs : List Input) (p : Stamp) (t u : T.Stand) → Rests wire s.room t.frame t.held → Near wire s.room wired new (bare t) (bare u)
        → chosen is_later (handed_all s p t xs) ≡ chosen is_later (handed_all s p u xs)
    near_hands [] p t u r n = refl
    near_hands (x ∷ xs) p t u r n =
        let w = way s p x in
        let lows : List (Packet wire) = handed wire (lows_of s p x) in
        let rests : Rests wire s.room (onward s p t x).frame (onward s p t x).held =
        subst (λ (v : Stand wire). Rests wire s.room v.frame v.held) (sym (onward_is s p t x)) (rests_next wire s.room w t.frame t.held r) in
        let near : Near wire s.room wired new (bare (onward s p t x)) (bare (onward s p u x)) =
        subst (λ (v : Stand wire). Near wire s.room wired new v (bare (onward s p u x))) (sym (onward_is s p t x))
        (subst (λ (v : Stand wire). Near wire s.room wired new (W.next wire s.room (bare t) w) v) (sym (onward_is s p u x))
        (near_next wire s.room wired new w (bare t) (bare u) r n)) in
        let one : chosen is_later (handed wire (record_of s p t x).0) ≡ chosen is_later (handed wire (record_of s p u x).0) =
        ap (chosen is_later) (hands_are s p t x)
        ∙ chosen_append is_later lows (gives wire s.room (bare t) w)
        ∙ ap (λ (l : List (Packet wire)). chosen is_later lows ++ l) (near_gives wire s.room wired new w (bare t) (bare u) r n)
        ∙ sym (chosen_append is_later lows (gives wire s.room (bare u) w))
        ∙ sym (ap (chosen is_later) (hands_are s p u x)) in
        chosen_append is_later (handed wire (record_of s p t x).0) (handed_all s (behind p x) (onward s p t x) xs)
        ∙ ap₂ (λ (a b : List (Packet wire)). a ++ b) one (near_hands xs (behind p x) (onward s p t x) (onward s p u x) rests near)
        ∙ sym (chosen_append is_later (handed wire (record_of s p u x).0) (handed_all s (behind p x) (onward s p u x) xs))

    -- where all places of earlier records are old ones
    pub from_record : (n : ℕ) (xs : List Input) → ((q : Place) → q.stamp.number < suc n → new q ≡ false)
        → chosen is_later (handed_all s (behind_all start_stamp (take n xs)) fresh (drop n xs)) ≡ chosen is_later (handed_out s xs)
    from_record n xs old =
        let p : Stamp = behind_all start_stamp (take n xs) in
        let t : T.Stand = stand_at s start_stamp fresh (take n xs) in
        let first_part : List (Packet wire) = handed_out s (take n xs) in
        let rest : List (Packet wire) = handed_all s p t (drop n xs) in
        let aged : Aged wire s.room wired new (bare t) =
        weaker wire wired (λ (q : Place). q.stamp.number < suc n) (λ (q : Place). new q ≡ false) old (bare t)
        (in_stand s (λ (y : Stamp). y.number < suc n) (take n xs) start_stamp (stamped_first s n xs)) in
        let none_is : chosen is_later first_part ≡ [] =
        none_chosen is_later first_part
        (all_map (λ (r : Packet wire). (place_of r).stamp.number < suc n) (λ (r : Packet wire). new (place_of r) ≡ false) (λ r l. old (place_of r) l) first_part
        (hands_all (λ (y : Stamp). y.number < suc n) (take n xs) start_stamp fresh tt (stamped_first s n xs))) in
        sym (near_hands (drop n xs) p t fresh (rests_at s (take n xs) start_stamp) (inr (record { is_fresh = refl; is_old = aged })))
        ∙ sym (ap (λ (l : List (Packet wire)). l ++ chosen is_later rest) none_is)
        ∙ sym (chosen_append is_later first_part rest)
        ∙ sym (ap (chosen is_later) (hands_append s (take n xs) (drop n xs) start_stamp fresh))
        ∙ ap (λ (l : List Input). chosen is_later (handed_out s l)) (take-append-drop n xs)

  -- ---- the first of its sort

  abbrev sort_of_lem : Packet wire → Packet wire → Bool
  sort_of_lem q r = same_sort q.is_low r.is_low

  abbrev behind_of_lem : Packet wire → Packet wire → Bool
  behind_of_lem q r = from_on (place_of q) (place_of r)

  own_record : (xs : List Input) (before behind : List (Packet wire)) (q : Packet wire) → handed_out s xs ≡ before ++ q ∷ behind
      → Own start_stamp xs (place_of q).stamp
  own_record xs before behind q e =
      let K : Packet wire → Type 0 = λ (r : Packet wire). Own start_stamp xs (place_of r).stamp in
      (all_right K before (q ∷ behind) (subst (All K) e (hands_all (Own start_stamp xs) xs start_stamp fresh tt (stamped_own xs start_stamp)))).0

  -- of a list that rises
  first_there : (before behind : List (Packet wire)) (q : Packet wire)
      → Rising (λ (a b : Packet wire). BeforeAt (place_of a) (place_of b)) (chosen (sort_of_lem q) (before ++ q ∷ behind))
      → first (chosen (behind_of_lem q) (chosen (sort_of_lem q) (before ++ q ∷ behind))) ≡ Some q
  first_there before behind q r =
      let x : List (Packet wire) = chosen (sort_of_lem q) before in
      let y : List (Packet wire) = chosen (sort_of_lem q) behind in
      let split : chosen (sort_of_lem q) (before ++ q ∷ behind) ≡ x ++ q ∷ y =
      chosen_append (sort_of_lem q) before (q ∷ behind) ∙ ap (λ (b : Bool). x ++ cond b (q ∷ y) y) (own_sort q.is_low) in
      let old : All (λ (a : Packet wire). BeforeAt (place_of a) (place_of q)) x =
      rising_before (λ (a b : Packet wire). BeforeAt (place_of a) (place_of b)) x y q
      (subst (Rising (λ (a b : Packet wire). BeforeAt (place_of a) (place_of b))) split r) in
      let none_is : chosen (behind_of_lem q) x ≡ [] =
      none_chosen (behind_of_lem q) x
      (all_map (λ (a : Packet wire). BeforeAt (place_of a) (place_of q)) (λ (a : Packet wire). behind_of_lem q a ≡ false) (λ a l. earlier_place (place_of q) (place_of a) l) x old) in
      ap (λ (l : List (Packet wire)). first (chosen (behind_of_lem q) l)) split
      ∙ ap first (chosen_append (behind_of_lem q) x (q ∷ y))
      ∙ ap (λ (l : List (Packet wire)). first (l ++ chosen (behind_of_lem q) (q ∷ y))) none_is
      ∙ ap (λ (b : Bool). first (cond b (q ∷ chosen (behind_of_lem q) y) (chosen (behind_of_lem q) y))) (own_place (place_of q))

pub from_line : FromLine
from_line s xs before behind q e =
    let k : ℕ = (place_of q).stamp.number in
    let i = (own_record s xs before behind q e).number_is in
    let one : suc (k - 1) ≡ k = omega arith in
    let old : (r : Place) → r.stamp.number < suc (k - 1) → from_on (place_of q) r ≡ false =
    λ r l. earlier_record (place_of q) r (subst (λ (m : ℕ). r.stamp.number < m) one l) in
    let all : List (Packet wire) = before ++ q ∷ behind in
    ap first (chosen_swap (sort_of_lem s q) (behind_of_lem s q) (started_at s xs k)
    ∙ ap (chosen (sort_of_lem s q)) (from_record s (from_on (place_of q)) (k - 1) xs old ∙ ap (chosen (behind_of_lem s q)) e)
    ∙ sym (chosen_swap (sort_of_lem s q) (behind_of_lem s q) all)
    ∙ chosen_twice (sort_of_lem s q) (behind_of_lem s q) all)
    ∙ first_there s before behind q
    (subst (λ (l : List (Packet wire)). Rising (λ (a b : Packet wire). BeforeAt (place_of a) (place_of b)) (chosen (sort_of_lem s q) l)) e (packets_rise s q.is_low xs))
