-- The unread stretch of a block: found, moved to the block's start, and what stands in it there. Assumes nothing.
use Prim.Native.Nat.{ℕ, ◌+◌, ◌-◌, ◌≤◌, min}
use mathlib.Core.Path.{◌≡◌, refl, ap, ap₂, sym, subst, subst⁻¹, ◌∙◌}
use mathlib.Core.Bool.{Bool, true, false, cond, ◌&&◌}
use mathlib.Core.List.{List, ◌++◌}
use native.Mathlib.Omega.{arith}
use borrow.Author.Tests.{eqb-true}
use lib.Dec.{eqb}
use lib.ListN.{length, take, drop, length-take, length-drop, take-append-drop}
use lib.Seq.{length-take-le, take_all, take-take, take_at, take-append-le, drop-append-le}
use Rattle.house.specs.declared.Place.TheVariants as P
use Rattle.std.specs.Prelude.{Option, Some, None, Ok}
use Rattle.std.specs.List.{copy_within}
use Rattle.house.specs.declared.Record.{Record}
use Rattle.house.specs.declared.Setup.{Setup}
use Rattle.house.specs.Records.{length_of}
use Rattle.house.specs.Setups.{settings_of, setup_in}
use Rattle.house.specs.Setups as Setups
use Rattle.house.specs.Slices.{at_hand, data_in}
use Rattle.house.proofs.Slicing.{whole_fits, start_setup, front_whole}
use Rattle.console.specs.declared.Unread.{Unread}
use Rattle.console.specs.Taking.{till_in, from_in, within, stretch, moved, ReadOn, Onward, Goes, Begins}

-- ---- found: t and f are where the stretch ends and begins

module _ (d : List ℕ) (u : Unread) (t f : ℕ) (et : t ≡ min u.till (length d)) (ef : f ≡ min u.from t) where
  pub is_stretch : take (t - f) (drop f d) ≡ stretch d u
  is_stretch =
      ap (λ (k : ℕ). take (t - k) (drop k d)) (ef ∙ ap (λ (k : ℕ). min u.from k) et)
      ∙ ap (λ (k : ℕ). take (k - from_in (length d) u) (drop (from_in (length d) u) d)) et

  pub stretch_long : t - f ≡ length (stretch d u)
  stretch_long = sym (length-take-le (t - f) (drop f d) (rw length-drop (omega arith))) ∙ ap length is_stretch

stretch_most : (d : List ℕ) (u : Unread) → length (stretch d u) ≤ length d
stretch_most d u = rw (length-take, length-drop) (omega arith)

pub stretch_in : (d : List ℕ) (u : Unread) (n k : ℕ) → n ≡ length (stretch d u) → k ≡ length d → n ≤ k
stretch_in d u n k e same = omega (arith, stretch_most d u)

-- ---- as far as the block has it

module _ (d : List ℕ) (u w : Unread) (e : w ≡ within (length d) u) where
  pub in_order : w.from ≤ w.till
  in_order = subst⁻¹ (λ (x : Unread). x.from ≤ x.till) e (omega arith)

  pub inside : w.till ≤ length d
  inside = subst⁻¹ (λ (x : Unread). x.till ≤ length d) e (omega arith)

  pub its_bytes : take (w.till - w.from) (drop w.from d) ≡ stretch d u
  its_bytes = ap (λ (x : Unread). take (x.till - x.from) (drop x.from d)) e

  pub its_length : w.till - w.from ≡ length (stretch d u)
  its_length = sym (length-take-le (w.till - w.from) (drop w.from d) (rw length-drop (omega (arith, inside)))) ∙ ap length its_bytes

  -- copied to the block's start
  pub is_moved : (b : List ℕ) → b ≡ copy_within d w.from w.till 0 → b ≡ moved d u
  is_moved b is =
      let size : 0 + (w.till - w.from) ≡ length (stretch d u) = omega (arith, its_length) in
      is ∙ ap₂ (λ (x : List ℕ) (k : ℕ). x ++ drop k d) its_bytes size

-- ---- read on: bytes behind the first n change

pub still_first : (d m y z : List ℕ) (u : Unread) (n : ℕ) → n ≡ length (stretch d u) → m ≡ moved d u → n ≤ length m → take (length (stretch d u)) (take n m ++ (y ++ z)) ≡ stretch d u
still_first d m y z u n e is h =
    let k = length (stretch d u) in
    ap (λ (j : ℕ). take k (take j m ++ (y ++ z))) e
    ∙ take_at (take k m) (y ++ z) k (length-take-le k m (subst (λ (j : ℕ). j ≤ length m) e h))
    ∙ ap (λ (x : List ℕ). take k x) is
    ∙ take_at (stretch d u) (drop k d) k refl

module _ (d : List ℕ) (u : Unread) (start : u.from ≡ 0) (most : u.till ≤ length d) where
  from_start : stretch d u ≡ take u.till d
  from_start =
      let whole : u.till - 0 ≡ u.till = omega arith in
      sym (is_stretch d u u.till 0 (omega arith) (omega arith)) ∙ ap (λ (k : ℕ). take k d) whole

  pub stretch_from_start : length (stretch d u) ≡ u.till
  stretch_from_start = ap length from_start ∙ length-take-le u.till d most

-- ---- gone on

pub as_within : (n : ℕ) (u : Unread) (t f : ℕ) → t ≡ min u.till n → f ≡ min u.from t → record { gone = u.gone; from = f; till = t } ≡ within n u
as_within n u t f et ef =
    ap (λ (k : ℕ). record { gone = u.gone; from = k; till = t }) (ef ∙ ap (λ (k : ℕ). min u.from k) et)
    ∙ ap (λ (k : ℕ). record { gone = u.gone; from = from_in n u; till = k }) et

module _ (d : List ℕ) (u : Unread) where
  -- a stretch brought within its block has the same bytes
  same_stretch : stretch d (within (length d) u) ≡ stretch d u
  same_stretch = sym (is_stretch d (within (length d) u) (till_in (length d) u) (from_in (length d) u) (omega arith) (omega arith))

  pub stays : (w : Unread) → w ≡ within (length d) u → Onward d u d w
  stays w e = subst⁻¹ (Onward d u d) e
      (record {
        begin = refl;
        from = omega arith;
        end = omega arith;
        kept = ap (λ (x : List ℕ). take (length (stretch d u)) x) same_stretch ∙ take_all (length (stretch d u)) (stretch d u) (omega arith);
      })

  read_there : (b : List ℕ) (v : Unread) → ReadOn d (within (length d) u) b (Some v) → Onward d u b v
  read_there b v h =
      let k = length (stretch d u) in
      let long : length (stretch d (within (length d) u)) ≡ k = ap length same_stretch in
      record {
        begin = omega (arith, h.0, h.1.0);
        from = omega (arith, h.1.0);
        end = h.1.1.0;
        kept =
            ap (λ (x : List ℕ). take k x) (from_start b v h.1.0 h.1.1.0)
            ∙ take-take k v.till b (omega (arith, h.1.1.1.0, long))
            ∙ ap (λ (j : ℕ). take j b) (sym long)
            ∙ h.1.1.1.1
            ∙ same_stretch;
      }

  pub reads : (w : Unread) (b : List ℕ) (m : Option Unread) → w ≡ within (length d) u → ReadOn d w b m → Goes d u b m
  reads w b None e h = tt
  reads w b (Some v) e h = read_there b v (subst (λ (x : Unread). ReadOn d x b (Some v)) e h)

-- ---- the setup record

abbrev OfFive : Option Setup → ℕ → Type 0
OfFive None n = Unit {0}
OfFive (Some s) n = n ≡ 5

of_five : (x : List ℕ) → OfFive (settings_of x) (length x)
unfolding settings_of
of_five x = go (eqb (length x) 5) (Setups.within (setup_in x)) refl
  where
    go : (t w : Bool) → eqb (length x) 5 ≡ t → OfFive (cond (t && w) (Some (setup_in x)) None) (length x)
    go true true e = eqb-true (length x) 5 e
    go true false e = tt
    go false w e = tt

front_data : (d : List ℕ) (t : ℕ) → 13 ≤ t → t ≤ length d → take 5 (drop 8 (take t d)) ≡ take 5 (drop 8 d)
front_data d t enough most =
    let long : length (take t d) ≡ t = length-take-le t d most in
    let behind : 5 ≤ length (drop 8 (take t d)) = rw length-drop (omega (arith, long)) in
    sym (ap (λ (x : List ℕ). take 5 (drop 8 x)) (sym (take-append-drop t d))
    ∙ ap (λ (x : List ℕ). take 5 x) (drop-append-le 8 (take t d) (drop t d) (omega (arith, long)))
    ∙ take-append-le 5 (drop 8 (take t d)) (drop t d) behind)

module _ (d : List ℕ) (u : Unread) (start : u.from ≡ 0) (most : u.till ≤ length d) where
  -- the data are five bytes, since they are settings
  pub as_told : (s x : List ℕ) (r : Record) (q : Setup) → s ≡ stretch d u → at_hand P.Start s ≡ Ok (Some r) → x ≡ data_in r s → settings_of x ≡ Some q
      → Begins d q (record { gone = 0; from = 13; till = u.till })
  as_told s x r q es whole ex settled =
      let here : s ≡ take u.till d = es ∙ from_start d u start most in
      let long : length s ≡ u.till = ap length es ∙ stretch_from_start d u start most in
      let fits : 8 + length_of r ≤ length s = whole_fits P.Start s r whole in
      let said : length x ≡ length_of r = ap length ex ∙ length-take-le (length_of r) (drop 8 s) (rw length-drop (omega arith)) in
      let five : length x ≡ 5 = subst (λ (z : Option Setup). OfFive z (length x)) settled (of_five x) in
      let is_five : length_of r ≡ 5 = omega arith in
      let enough : 13 ≤ u.till = omega arith in
      let same : x ≡ take 5 (drop 8 d) = ex ∙ ap (λ (k : ℕ). take k (drop 8 s)) is_five ∙ ap (λ (y : List ℕ). take 5 (drop 8 y)) here ∙ front_data d u.till enough most in
      let front : at_hand P.Start (take 13 s) ≡ Ok (Some r) = front_whole P.Start s 13 r (omega arith) whole in
      record {
        head =
            ap (λ (y : List ℕ). at_hand P.Start y) (sym (take-take 13 u.till d enough) ∙ ap (λ (y : List ℕ). take 13 y) (sym here))
            ∙ front
            ∙ ap (λ (z : Record). Ok (Some z)) (start_setup s r whole);
        settings = subst (λ (y : List ℕ). settings_of y ≡ Some q) same settled;
        gone = refl;
        from = refl;
        enough = enough;
        end = most;
      }
