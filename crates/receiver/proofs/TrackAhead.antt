-- What stands ahead of a place between two EPs, and the track behind a TP at whose end a header or an EP is cut. Assumes nothing.
use Prim.Native.Nat.{ℕ, ◌+◌, ◌-◌, ◌≤◌, ◌<◌}
use mathlib.Core.Path.{◌≡◌, refl, sym, subst, subst⁻¹, ap, ◌∙◌}
use mathlib.Core.Bool.{Bool, cond, false, true}
use mathlib.Core.List.{List}
use mathlib.Core.Logic.{◌⊎◌, inl, inr}
use native.Mathlib.Omega.{arith}
use lib.Dec.{eqb}
use lib.ListN.{drop, length, length-drop, take}
use lib.Seq.{take_all}
use borrow.Author.Tests.{eqb-false, eqb-true, ne_eqb}
use Rattle.std.specs.Prelude.{Option, Some}
use Rattle.digits.specs.Digits.{number}
use Rattle.queue.specs.Ring.{copied}
use Rattle.wire.specs.Reading.{header_in}
use Rattle.wire.specs.declared.Header.{Header}
use Rattle.receiver.specs.declared.Place.{Place}
use Rattle.receiver.specs.declared.Stamp.{Stamp}
use Rattle.receiver.specs.declared.lane.Lane.TheVariants as L
use Rattle.receiver.specs.declared.lane.Met.TheVariants as M
use Rattle.receiver.specs.declared.track.Sight.{Sight}
use Rattle.receiver.specs.declared.track.Track.{Track}
use Rattle.receiver.specs.InLanes.{FitsIf}
use Rattle.receiver.specs.InStride.{Skips}
use Rattle.receiver.specs.InTracks.{sight_of}
use Rattle.receiver.specs.Lanes.{AheadAs}
use Rattle.receiver.specs.Place.{place_at}
use Rattle.receiver.specs.Tracks.{BeginsAt, BehindAs, Seen, TailAt, WholeAt, lane_in, part_of, tail_in}
use Rattle.receiver.proofs.Heading.{Bytes}
use Rattle.receiver.proofs.LaneAhead.{ahead_cut, ahead_idle, ahead_whole, enters_cut, enters_whole}
use Rattle.receiver.proofs.Tracked.{lane_idle}

all_left : (n from : ℕ) (tp : List ℕ) → n ≡ length tp - from → take n (drop from tp) ≡ drop from tp
all_left n from tp e = take_all n (drop from tp) (omega (arith, e, length-drop from tp))

-- ---- what stands ahead

pub seen_off : (q : Sight) (start : ℕ) (tp : List ℕ) (most : ℕ) → q.sort ≡ 0 → Seen q start tp most
seen_off q start tp most z = record {
  tail = λ e. absurd (omega (arith, z, e));
  begins = λ e. absurd (omega (arith, z, e));
  whole = λ e. absurd (omega (arith, z, e));
  sort = omega (arith, z);
}

module _ (start from : ℕ) (tp : List ℕ) (bytes : Bytes tp) (s : Skips tp start from) where
  tail_met : length tp - from < 6 → (t : Stamp) (m : List ℕ) → AheadAs (M.Ends (tail_in from t tp)) start t tp m m
  tail_met few t m = go (eqb (length tp - from) 0) refl
    where
      go : (x : Bool) → eqb (length tp - from) 0 ≡ x
          → AheadAs (M.Ends (cond x L.Idle (L.Cut (place_at t from) (length tp - from) (number 0 (drop from tp))))) start t tp m m
      go true e = ahead_idle start from t tp m bytes s (eqb-true (length tp - from) 0 e)
      go false e =
          let some = eqb-false (length tp - from) 0 e in
          ahead_cut start from t tp m bytes s (length tp - from) refl (omega (arith, some)) few (place_at t from) refl (number 0 (drop from tp)) (ap (number 0) (sym (all_left (length tp - from) from tp refl)))

  pub seen_tail : (q : Sight) (most : ℕ) → q.sort ≡ 1 → q.from ≡ from → q.flips ≡ 0 → length tp - from < 6 → Seen q start tp most
  seen_tail q most z f x few =
      let ends : TailAt q start tp = record {
        within = subst⁻¹ (λ (i : ℕ). i ≤ length tp) f s.within;
        few = subst⁻¹ (λ (i : ℕ). length tp - i < 6) f few;
        flips = omega (arith, x);
        met = subst⁻¹ (λ (i : ℕ). (t : Stamp) (m : List ℕ) → AheadAs (M.Ends (tail_in i t tp)) start t tp m m) f (tail_met few);
      } in
      record { tail = λ e. ends; begins = λ e. absurd (omega (arith, z, e)); whole = λ e. absurd (omega (arith, z, e)); sort = omega (arith, z) }

  module _ (six : 6 ≤ length tp - from) (r : Option Header) (read : r ≡ header_in (number 0 (take 6 (drop from tp)))) (h : Header) (w : r ≡ Some h) (most : ℕ) (fits : FitsIf true h most) where
    -- the data that go to the room
    abbrev pasted : ℕ → List ℕ → List ℕ
    pasted n m = copied m 0 (take n (drop (from + 6) tp))

    put : (n : ℕ) (m : List ℕ) → pasted n m ≡ pasted (from + 6 + n - (from + 6)) m
    put n m =
        let e : n ≡ from + 6 + n - (from + 6) = omega arith in
        ap (λ (i : ℕ). pasted i m) e

    begins_met : (n : ℕ) → n ≡ length tp - (from + 6) → n < h.size → (t : Stamp) (m : List ℕ) → length m ≡ most
        → AheadAs (M.Ends (L.Busy (place_at t from) (h.size - n) n h.content h.flips)) start t tp m (pasted n m)
    begins_met n e less t m full =
        ahead_whole start from t tp m bytes s six r read h w (place_at t from) refl (M.Ends (L.Busy (place_at t from) (h.size - n) n h.content h.flips)) (pasted n m)
        (enters_cut h (place_at t from) (from + 6) n tp m (pasted n m) bytes (omega (arith, six)) (subst⁻¹ (FitsIf true h) full fits) (omega (arith, e, less)) (put n m) less)

    whole_met : h.size ≤ length tp - (from + 6) → (t : Stamp) (m : List ℕ) → length m ≡ most
        → AheadAs (M.Gives h.content h.flips (place_at t from) h.size (from + 6 + h.size)) start t tp m (pasted h.size m)
    whole_met all t m full =
        ahead_whole start from t tp m bytes s six r read h w (place_at t from) refl (M.Gives h.content h.flips (place_at t from) h.size (from + 6 + h.size)) (pasted h.size m)
        (enters_whole h (place_at t from) (from + 6) h.size tp m (pasted h.size m) bytes (omega (arith, six)) (subst⁻¹ (FitsIf true h) full fits) (omega (arith, all)) (put h.size m) (omega arith))

    pub seen_begins : (q : Sight) → q ≡ sight_of 2 from h → q.flips < 256 → length tp - from - 6 < h.size → Seen q start tp most
    seen_begins q e small few =
        let less : length tp - (from + 6) < h.size = omega (arith, few) in
        let begins : BeginsAt (sight_of 2 from h) start tp most = record {
          within = omega (arith, six);
          cut = less;
          fits = fits.1;
          flips = subst (λ (x : Sight). x.flips < 256) e small;
          met = begins_met (length tp - (from + 6)) refl less;
        } in
        subst⁻¹ (λ (x : Sight). Seen x start tp most) e
        (record { tail = λ z. absurd (omega (arith, z)); begins = λ z. begins; whole = λ z. absurd (omega (arith, z)); sort = omega arith })

    pub seen_whole : (q : Sight) → q ≡ sight_of 3 from h → h.size ≤ length tp - from - 6 → Seen q start tp most
    seen_whole q e all =
        let some : h.size ≤ length tp - (from + 6) = omega (arith, all) in
        let whole : WholeAt (sight_of 3 from h) start tp most = record {
          later = s.on;
          within = omega (arith, some, six);
          content = fits.4;
          fits = fits.1;
          met = whole_met some;
        } in
        subst⁻¹ (λ (x : Sight). Seen x start tp most) e
        (record { tail = λ z. absurd (omega (arith, z)); begins = λ z. absurd (omega (arith, z)); whole = λ z. whole; sort = omega arith })

-- ---- behind it

-- what `behind` asks: a few bytes before the TP's end, or an EP that it cuts
abbrev pub FewLeft : Sight → List ℕ → Type 0
FewLeft a tp = (a.sort ≡ 1) × (a.from ≤ length tp) × (length tp - a.from < 6)

abbrev pub PartLeft : Sight → List ℕ → ℕ → Type 0
PartLeft a tp most = (a.sort ≡ 2) × (a.from + 6 ≤ length tp) × (length tp - (a.from + 6) < a.size) × (a.size ≤ most)

pub few_left : (a : Sight) (tp : List ℕ) (most : ℕ) → FewLeft a tp ⊎ PartLeft a tp most → a.sort ≡ 1 → FewLeft a tp
few_left a tp most (inl x) e = x
few_left a tp most (inr x) e = let two = x.0 in absurd (omega (arith, two, e))

pub part_left : (a : Sight) (tp : List ℕ) (most : ℕ) → FewLeft a tp ⊎ PartLeft a tp most → (a.sort ≡ 1 → ⊥) → PartLeft a tp most
part_left a tp most (inl x) d = absurd (d x.0)
part_left a tp most (inr x) d = x

module _ (q : Track) (a : Sight) (t : Stamp) (tp m : List ℕ) (small : q.flips < 256) where
  pub behind_idle : a.sort ≡ 1 → length tp - a.from ≡ 0 → q.sort ≡ 1 → BehindAs q a t tp m m
  behind_idle s z e = record {
    tail = λ x. (lane_idle q e ∙ sym (ap (λ (n : ℕ). cond (eqb n 0) L.Idle (L.Cut (place_at t a.from) (length tp - a.from) (number 0 (drop a.from tp)))) z), refl);
    begins = λ x. absurd (omega (arith, s, x));
    flips = small;
  }

  cut_is : (rest w : ℕ) (p : Place) → rest ≡ length tp - a.from → (rest ≡ 0 → ⊥) → p ≡ place_at t a.from → w ≡ number 0 (take rest (drop a.from tp))
      → L.Cut p rest w ≡ tail_in a.from t tp
  cut_is rest w p r some e f =
      let here = place_at t a.from in
      let word = number 0 (drop a.from tp) in
      ap (λ (g : Place). L.Cut g rest w) e
      ∙ ap (L.Cut here rest) (f ∙ ap (number 0) (all_left rest a.from tp r))
      ∙ ap (λ (n : ℕ). L.Cut here n word) r
      ∙ sym (ap (λ (x : Bool). cond x L.Idle (L.Cut here (length tp - a.from) word)) (ne_eqb (length tp - a.from) 0 (λ z. some (r ∙ z))))

  pub behind_cut : a.sort ≡ 1 → (rest w : ℕ) (p : Place) → rest ≡ length tp - a.from → (rest ≡ 0 → ⊥) → p ≡ place_at t a.from → w ≡ number 0 (take rest (drop a.from tp))
      → lane_in q ≡ L.Cut p rest w → BehindAs q a t tp m m
  behind_cut s rest w p r some e f l = record { tail = λ x. (l ∙ cut_is rest w p r some e f, refl); begins = λ x. absurd (omega (arith, s, x)); flips = small }

  pub behind_busy : a.sort ≡ 2 → (p : Place) → p ≡ place_at t a.from → lane_in q ≡ L.Busy p (a.size - part_of a tp) (part_of a tp) a.content a.flips
      → (m' : List ℕ) → m' ≡ copied m 0 (take (part_of a tp) (drop (a.from + 6) tp)) → BehindAs q a t tp m m'
  behind_busy s p e l m' f = record {
    tail = λ x. absurd (omega (arith, s, x));
    begins = λ x. (l ∙ ap (λ (g : Place). L.Busy g (a.size - part_of a tp) (part_of a tp) a.content a.flips) e, f);
    flips = small;
  }
