-- A track before ordinary bytes: what its numbers say of the lane, and what setting about them comes to. Assumes nothing.
use mathlib.Core.Path.{◌≡◌, refl, ap, sym, subst, ◌∙◌}
use mathlib.Core.Bool.{Bool, true, false, cond}
use mathlib.Core.List.{List}
use Prim.Native.Nat.{ℕ, ◌+◌, ◌-◌, ◌≤◌, ◌<◌, min}
use native.Mathlib.Omega.{arith}
use lib.Dec.{leb}
use lib.ListN.{drop, length, take}
use borrow.Author.Tests.{eq-eqb, le-leb, le-ltb, leb-false, lt-leb, ne_eqb}
use Rattle.std.specs.Prelude.{Ok, None, Option, Some}
use Rattle.digits.specs.Digits.{number}
use Rattle.queue.specs.Ring.{copied}
use Rattle.wire.specs.Reading.{header_in}
use Rattle.wire.specs.declared.Header.{Header}
use Rattle.receiver.specs.declared.Place.{Place}
use Rattle.receiver.specs.declared.lane.Lane.{Lane}
use Rattle.receiver.specs.declared.lane.Lane.TheVariants as L
use Rattle.receiver.specs.declared.lane.Met.{Met}
use Rattle.receiver.specs.declared.lane.Met.TheVariants as M
use Rattle.receiver.specs.declared.track.Onto.{Onto}
use Rattle.receiver.specs.declared.track.Track.{Track}
use Rattle.receiver.specs.InLanes.{EntersAs, FitsIf, SetAs}
use Rattle.receiver.specs.Lanes.{OutAs, Tidy}
use Rattle.receiver.specs.Outset.{place_of}
use Rattle.receiver.specs.Tracks.{Kempt, SetsOut, lane_in, place_in, turned_of}
use Rattle.receiver.proofs.Heading.{Bytes}
use Rattle.receiver.proofs.LaneAhead.{enters_cut, enters_whole}
use Rattle.receiver.proofs.LaneOut.{busy_ends, busy_gives, cut_enters, cut_fill_lem, idle_reads, lane_as, lost_reads, tidy_as}

-- ---- the lane and the offset

-- a track's lane by its sort
pub lane_by_lem : (t : Track) (s : ℕ) → t.sort ≡ s → lane_in t ≡ lane_in (turned_of t s)
lane_by_lem t s e = ap (λ (x : ℕ). lane_in (turned_of t x)) e

pub tidy_by : (cap : ℕ) (t : Track) (s : ℕ) → Kempt cap t → t.sort ≡ s → Tidy cap (lane_in (turned_of t s))
tidy_by cap t s y e = tidy_as cap (lane_in t) (lane_in (turned_of t s)) (lane_by_lem t s e) y.tidy

-- the offset of a place within a TP of a lawful length
place_behind : (o at len n : ℕ) → o + 4 ≡ at + n → at + n < len → len ≤ 2051 → place_of o at len ≡ Ok n
unfolding place_of
place_behind o at len n e i small =
    let some : o ≡ 2047 → ⊥ = λ (z : o ≡ 2047). omega (arith, z, e, i, small) in
    let x : o + 4 - at ≡ n = omega (arith, e) in
    rw (ne_eqb o 2047 some, lt-leb len (o + 4) (omega (arith, e, i)), le-ltb (o + 4) at (omega (arith, e))) (ap Ok x)

-- that says that no EP begins
none_behind : (o at len : ℕ) → o ≡ 2047 → place_of o at len ≡ Ok (len - at)
unfolding place_of
none_behind o at len e = rw (eq-eqb o 2047 e)

module _ (t : Track) (o at s n : ℕ) (tp m m' : List ℕ) (e : t.sort ≡ s) (b : place_of o at (length tp) ≡ Ok n) where
  out_by_lem : (q : Met) → SetAs q (lane_in (turned_of t s)) n at tp m m' → OutAs q (lane_in t) o at tp m m'
  out_by_lem q set =
      let x = lane_as n at tp m q (lane_in t) (lane_in (turned_of t s)) m' (lane_by_lem t s e) set in
      λ r k c d p small. x r k c o d p small b

-- ---- each answer

module _ (t : Track) (o at : ℕ) (tp m m' : List ℕ) where
  pub sets_off : (q : Onto) → q ≡ record { sort = 0; place = 0; content = 0; len = 0; track = t } → t.flips < 256 → m' ≡ m → SetsOut q t o at tp m m'
  sets_off q e f same = subst (λ (x : Onto). SetsOut x t o at tp m m') (sym e) (record {
    off = λ z. same;
    over = λ z. absurd (omega (arith, z));
    at = λ z. absurd (omega (arith, z));
    packet = λ z. absurd (omega (arith, z));
    flips = f;
    sort = omega arith;
  })

  sets_over : (q : Onto) (u : Track) → q ≡ record { sort = 1; place = 0; content = 0; len = 0; track = u } → u.flips < 256 → u.sort ≤ 3
      → OutAs (M.Ends (lane_in u)) (lane_in t) o at tp m m' → SetsOut q t o at tp m m'
  sets_over q u e f s out = subst (λ (x : Onto). SetsOut x t o at tp m m') (sym e) (record {
    off = λ z. absurd (omega (arith, z));
    over = λ z. (s, out);
    at = λ z. absurd (omega (arith, z));
    packet = λ z. absurd (omega (arith, z));
    flips = f;
    sort = omega arith;
  })

  sets_at : (q : Onto) (i : ℕ) → q ≡ record { sort = 2; place = i; content = 0; len = 0; track = t } → t.flips < 256 → i ≤ length tp
      → OutAs (M.Reads i) (lane_in t) o at tp m m' → SetsOut q t o at tp m m'
  sets_at q i e f in_tp_lem out = subst (λ (x : Onto). SetsOut x t o at tp m m') (sym e) (record {
    off = λ z. absurd (omega (arith, z));
    over = λ z. absurd (omega (arith, z));
    at = λ z. (refl, in_tp_lem, out);
    packet = λ z. absurd (omega (arith, z));
    flips = f;
    sort = omega arith;
  })

  sets_packet : (i c n e : ℕ) (p : Place) → t.flips < 256 → c ≤ 6 → i ≤ length tp → OutAs (M.Gives c e p n i) (lane_in t) o at tp m m'
      → SetsOut (record { sort = 3; place = i; content = c; len = n; track = t }) t o at tp m m'
  sets_packet i c n e p f small in_tp_lem out = record {
    off = λ z. absurd (omega (arith, z));
    over = λ z. absurd (omega (arith, z));
    at = λ z. absurd (omega (arith, z));
    packet = λ z. (small, in_tp_lem, (e, (p, out)));
    flips = f;
    sort = omega arith;
  }

-- ---- from track to track

module _ (t : Track) (o at : ℕ) (tp m : List ℕ) (y : Kempt (length m) t) (small : length tp ≤ 2051) where
  -- between two EPs
  pub idle_at : (q : Onto) → t.sort ≡ 1 → o + 4 ≡ at → at < length tp → q ≡ record { sort = 2; place = at; content = 0; len = 0; track = t }
      → SetsOut q t o at tp m m
  idle_at q s e i r =
      let b = place_behind o at (length tp) 0 (omega (arith, e)) (omega (arith, i)) small in
      sets_at t o at tp m m q at r y.flips (omega (arith, i)) (out_by_lem t o at 1 0 tp m m s b (M.Reads at) (idle_reads 0 at tp m refl))

  -- out of step
  pub lost_at_lem : (q : Onto) (i : ℕ) → t.sort ≡ 0 → o + 4 ≡ i → at ≤ i → i < length tp → q ≡ record { sort = 2; place = i; content = 0; len = 0; track = t }
      → SetsOut q t o at tp m m
  lost_at_lem q i s e low high r =
      let z : at + (i - at) ≡ i = omega (arith, low) in
      let b = place_behind o at (length tp) (i - at) (omega (arith, e, low)) (omega (arith, low, high)) small in
      let x = lost_reads (i - at) at tp m (omega (arith, low, high)) in
      let w = subst (λ (j : ℕ). SetAs (M.Reads j) L.Lost (i - at) at tp m m) z x in
      sets_at t o at tp m m q i r y.flips (omega (arith, high)) (out_by_lem t o at 0 (i - at) tp m m s b (M.Reads i) w)

-- in data that are kept
module _ (t : Track) (o at : ℕ) (tp m m' : List ℕ) (y : Kempt (length m) t) (s : t.sort ≡ 3) (bytes : Bytes tp) (within : at ≤ length tp)
    (same : length m' ≡ length m) where
  tidy_busy : Tidy (length m) (L.Busy (place_in t) t.left t.len t.content t.flips)
  tidy_busy = tidy_by (length m) t 3 y s

  pub busy_packet : length tp ≤ 2051 → t.left < length tp - at → o + 4 ≡ at + t.left → m' ≡ copied m t.len (take (at + t.left - at) (drop at tp))
      → SetsOut (record { sort = 3; place = at + t.left; content = t.content; len = t.len + t.left; track = t }) t o at tp m m'
  busy_packet small less e put =
      let b = place_behind o at (length tp) t.left e (omega (arith, less)) small in
      let x = busy_gives (place_in t) t.left t.len t.content t.flips t.left at tp m m' tidy_busy bytes (omega (arith, less)) (omega (arith, less)) put same (omega (arith, less)) in
      sets_packet t o at tp m m' (at + t.left) t.content (t.len + t.left) t.flips (place_in t) y.flips tidy_busy.3 (omega (arith, less)) (out_by_lem t o at 3 t.left tp m m' s b (M.Gives t.content t.flips (place_in t) (t.len + t.left) (at + t.left)) x)

  pub busy_over : (q : Onto) (g : Place) (u : Track) → length tp - at < t.left → o ≡ 2047 → m' ≡ copied m t.len (take (length tp - at) (drop at tp))
      → g ≡ place_in t → lane_in u ≡ L.Busy g (t.left - (length tp - at)) (t.len + (length tp - at)) t.content t.flips → u.flips ≡ t.flips → u.sort ≡ 3
      → q ≡ record { sort = 1; place = 0; content = 0; len = 0; track = u } → SetsOut q t o at tp m m'
  busy_over q g u less e put place lane flips sort r =
      let b = none_behind o at (length tp) e in
      let z : length tp - at ≡ at + (length tp - at) - at = omega (arith, within) in
      let put' = put ∙ ap (λ (i : ℕ). copied m t.len (take i (drop at tp))) z in
      let x = busy_ends (place_in t) t.left t.len t.content t.flips (length tp - at) at tp m m' tidy_busy bytes (omega (arith, within)) (omega (arith, less)) put' same less in
      let v = lane ∙ ap (λ (p : Place). L.Busy p (t.left - (length tp - at)) (t.len + (length tp - at)) t.content t.flips) place in
      let w = subst (λ (l : Lane). SetAs (M.Ends l) (lane_in (turned_of t 3)) (length tp - at) at tp m m') (sym v) x in
      sets_over t o at tp m m' q u r (omega (arith, flips, y.flips)) (omega (arith, sort)) (out_by_lem t o at 3 (length tp - at) tp m m' s b (M.Ends (lane_in u)) w)

-- in a header

-- whose data the TP's end cuts
all_taken : (k at len start size : ℕ) → k < len - at → start ≡ at + k → len - start < size → k + min size (len - at - k) ≡ len - at
all_taken k at len start size long there less =
    let x : len - start ≡ len - at - k = omega (arith, there) in
    let z : len - at - k < size = omega (arith, x, less) in
    omega (arith, z, long)

pub head_beyond : (a b : ℕ) (r : Option Header) → a ≤ b → None ≡ cond (leb a b) None r
head_beyond a b r i = rw (le-leb a b i)

pub head_read : (a b v w : ℕ) (q : Option Header) → b < a → v ≡ w → q ≡ header_in v → q ≡ cond (leb a b) None (header_in w)
head_read a b v w q i e f = rw (lt-leb a b i) (f ∙ ap (λ (x : ℕ). header_in x) e)

pub head_whole : (a b w : ℕ) (q : Option Header) (h : Header) → q ≡ cond (leb a b) None (header_in w) → q ≡ Some h → (b < a) × (header_in w ≡ Some h)
head_whole a b w q h e f = go (leb a b) refl (sym e ∙ f)
  where
    go : (x : Bool) → leb a b ≡ x → cond x None (header_in w) ≡ Some h → (b < a) × (header_in w ≡ Some h)
    go true l g = let z : ◌≡◌ {A = ℕ} 0 1 = cc in absurd (omega arith)
    go false l g = (leb-false a b l, g)

module _ (t : Track) (o at : ℕ) (tp m : List ℕ) (y : Kempt (length m) t) (s : t.sort ≡ 2) (bytes : Bytes tp) (within : at ≤ length tp)
    (h : Header) (start : ℕ) (from : start ≡ at + 6 - t.have) (long : 6 - t.have < length tp - at)
    (read : header_in (number t.word (take (6 - t.have) (drop at tp))) ≡ Some h) where
  tidy_cut : Tidy (length m) (L.Cut (place_in t) t.have t.word)
  tidy_cut = tidy_by (length m) t 2 y s

  there : start ≡ at + (6 - t.have)
  there = omega (arith, from, tidy_cut.1)

  pub cut_at : (q : Onto) → length tp ≤ 2051 → h.size < length tp - start → o + 4 ≡ start + h.size → h.content ≡ 0
      → q ≡ record { sort = 2; place = start + h.size; content = 0; len = 0; track = t } → SetsOut q t o at tp m m
  cut_at q small less e fill r =
      let b = place_behind o at (length tp) (6 - t.have + h.size) (omega (arith, e, there)) (omega (arith, less, there)) small in
      let x = cut_fill_lem (place_in t) t.have t.word (6 - t.have + h.size) at tp m tidy_cut bytes within h (omega (arith, long)) read (omega (arith, less, there)) fill (omega (arith, less, there)) in
      let w = subst (λ (j : ℕ). SetAs (M.Reads (j + h.size)) (lane_in (turned_of t 2)) (6 - t.have + h.size) at tp m m) (sym there) x in
      sets_at t o at tp m m q (start + h.size) r y.flips (omega (arith, less)) (out_by_lem t o at 2 (6 - t.have + h.size) tp m m s b (M.Reads (start + h.size)) w)

  -- a complete EP, as it is taken behind the header
  module _ (m' : List ℕ) (fits : FitsIf true h (length m)) where
    enters_out : (q : Met) (n : ℕ) → 6 - t.have + min h.size (length tp - at - (6 - t.have)) ≡ n → place_of o at (length tp) ≡ Ok n
        → EntersAs q h (place_in t) start tp m m' → OutAs q (lane_in t) o at tp m m'
    enters_out q n least b en =
        let x = subst (λ (j : ℕ). EntersAs q h (place_in t) j tp m m') there en in
        let w = cut_enters (place_in t) t.have t.word n at tp m tidy_cut bytes within h (omega (arith, long)) read least q m' x in
        out_by_lem t o at 2 n tp m m' s b q w

    pub cut_packet : length tp ≤ 2051 → h.size < length tp - start → o + 4 ≡ start + h.size → m' ≡ copied m 0 (take (start + h.size - start) (drop start tp))
        → SetsOut (record { sort = 3; place = start + h.size; content = h.content; len = h.size; track = t }) t o at tp m m'
    cut_packet small less e put =
        let b = place_behind o at (length tp) (6 - t.have + h.size) (omega (arith, e, there)) (omega (arith, less, there)) small in
        let en = enters_whole h (place_in t) start h.size tp m m' bytes (omega (arith, less)) fits (omega (arith, less)) put (omega arith) in
        let q = M.Gives h.content h.flips (place_in t) h.size (start + h.size) in
        let out = enters_out q (6 - t.have + h.size) (omega (arith, less, there)) b en in
        sets_packet t o at tp m m' (start + h.size) h.content h.size h.flips (place_in t) y.flips fits.4 (omega (arith, less)) out

    pub cut_over : (q : Onto) (g : Place) (u : Track) → length tp - start < h.size → o ≡ 2047 → m' ≡ copied m 0 (take (length tp - start) (drop start tp)) → h.flips < 256
        → g ≡ place_in t → lane_in u ≡ L.Busy g (h.size - (length tp - start)) (length tp - start) h.content h.flips → u.flips ≡ h.flips → u.sort ≡ 3
        → q ≡ record { sort = 1; place = 0; content = 0; len = 0; track = u } → SetsOut q t o at tp m m'
    cut_over q g u less e put small place lane flips sort r =
        let b = none_behind o at (length tp) e in
        let z : length tp - start ≡ start + (length tp - start) - start = omega arith in
        let put' = put ∙ ap (λ (i : ℕ). copied m 0 (take i (drop start tp))) z in
        let en = enters_cut h (place_in t) start (length tp - start) tp m m' bytes (omega (arith, long, there)) fits (omega (arith, less)) put' less in
        let v = lane ∙ ap (λ (p : Place). L.Busy p (h.size - (length tp - start)) (length tp - start) h.content h.flips) place in
        let w = subst (λ (l : Lane). EntersAs (M.Ends l) h (place_in t) start tp m m') (sym v) en in
        let out = enters_out (M.Ends (lane_in u)) (length tp - at) (all_taken (6 - t.have) at (length tp) start h.size long there less) b w in
        sets_over t o at tp m m' q u r (omega (arith, flips, small)) (omega (arith, sort)) out
