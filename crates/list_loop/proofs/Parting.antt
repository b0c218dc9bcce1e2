-- The low-latency part, by calls; and the payload, by the calls of both parts. Assumes nothing.
use Prim.Native.Nat.{ℕ, ◌+◌, ◌≤◌, ◌<◌}
use mathlib.Core.Path.{◌≡◌, refl, ap, sym, subst, subst⁻¹, ◌∙◌}
use mathlib.Core.Bool.{Bool, true, false, cond}
use mathlib.Core.List.{List, ◌++◌, append_assoc, append-nil}
use native.Mathlib.Omega.{arith}
use lib.Dec.{eqb, leb}
use lib.ListN.{length, take}
use borrow.Author.Tests.{eqb-false, eqb-true, leb-false, leb-true}
use Rattle.block.specs.Block.{Block, put}
use Rattle.listing.specs.Hearing.{Hears, nothing, then, Ends, last}
use Rattle.listing.specs.Lines.{line_of}
use Rattle.listing.specs.Tens.{Kept}
use Rattle.listing.specs.declared.Ten.{Ten}
use Rattle.receiver.specs.Lanes.{Lends, LowAs, Tidy, call_by, in_lane}
use Rattle.receiver.specs.Place.{own_of}
use Rattle.receiver.specs.State.{Able}
use Rattle.receiver.specs.Tracks.{BriefAs, Kempt, lane_in}
use Rattle.receiver.specs.declared.Find.TheVariants as F
use Rattle.receiver.specs.declared.Receiver.{Receiver}
use Rattle.receiver.specs.declared.Stage.TheVariants.{Low, Due}
use Rattle.receiver.specs.declared.Stamp.{Stamp}
use Rattle.receiver.specs.declared.lane.Lane.{Lane}
use Rattle.receiver.specs.declared.low.Lows.{Lows}
use Rattle.receiver.specs.declared.track.Brief.{Brief}
use Rattle.receiver.specs.declared.track.Track.{Track}
use Rattle.receiver.proofs.LaneFirst.{low_as}
use Rattle.receiver.proofs.Laning.{StageAt, lane_able}
use Rattle.list_loop.specs.Lanes.{Holds, LeadsBy, LeavesBy, LedTo, LeftAs, LeftBy, OnBy, PartSteady, PartedBy, Steady, ended, onward, part_left, start_stage, stays}
use Rattle.list_loop.specs.declared.lanes.Left.{Left}
use Rattle.list_loop.specs.declared.lanes.Left.TheVariants.{All, From}
use Rattle.list_loop.specs.declared.lanes.Parted.{Parted}
use Rattle.list_loop.specs.declared.lanes.Passed.{Passed}
use Rattle.list_loop.proofs.Leading.{Reached, given_from, line_put, not_both, paused_in, reached_none, reached_then}

-- ---- the low-latency part

pub past_four : (n : ℕ) → 4 ≤ n → (n ≡ 4 → ⊥) → 4 < n
past_four n h other = go (leb 5 n) refl
  where
    go : (x : Bool) → leb 5 n ≡ x → 4 < n
    go true e = leb-true 5 n e
    go false e = absurd (other (omega (arith, h, leb-false 5 n e)))

-- an LLEP that is a packet lies within the TP
pub brief_few : (l : Brief) (tp : List ℕ) (at : ℕ) → l.found ≡ true → BriefAs l.found l tp at → (at + 7 + l.size ≤ length tp) × (l.content ≤ 6)
brief_few l tp at is brief = let y = subst (λ (x : Bool). BriefAs x l tp at) is brief in (y.0, y.1)

staged : (within : Bool) (o i : ℕ) → o < 2048 → 4 ≤ i → StageAt (start_stage within o) i
staged true o i small four = (small, four)
staged false o i small four = (small, four)

module _ (n : ℕ) (tp out₀ : List ℕ) (from : ℕ) where
  -- from place 4 on to this
  pub record Parts (within : Bool) (place : ℕ) (out : List ℕ) (at : ℕ) (kept : Ten) : Type 0 where
    pub ten : Kept kept
    pub more : from ≤ at
    pub long : length out ≡ length out₀
    pub four : 4 ≤ place
    pub inside : place ≤ length tp
    pub some : 4 < place → from < at
    pub none : place ≡ 4 → (out ≡ out₀) × (at ≡ from) × (within ≡ true)
    pub ran : (b : Receiver) (k : ℕ) (l : Lane) (o : ℕ) (m : List ℕ) → Lends b 4 tp m → Tidy b.limit l → o < 2048
        → Reached tp n (in_lane b k l (Low o) 4) m out₀ from (in_lane b k l (start_stage within o) place) m out at

  pub parts_first : (kept : Ten) → Kept kept → 4 ≤ length tp → Parts true 4 out₀ from kept
  parts_first kept k inside = record {
    ten = k;
    more = omega arith;
    long = refl;
    four = omega arith;
    inside = inside;
    some = λ z. absurd (omega (arith, z));
    none = λ z. (refl, refl, refl);
    ran = λ b k l o m d y s. reached_none;
  }

  module _ (within : Bool) (place : ℕ) (out : List ℕ) (at : ℕ) (kept : Ten) (h : Parts within place out at kept) where
    -- an LLEP more
    pub parts_then : (l : Brief) (out' : List ℕ) (at' : ℕ) (kept' : Ten) → within ≡ true → l.found ≡ true → BriefAs l.found l tp place → at < 61440 → 61520 ≤ length out₀
        → length out' ≡ length out → Kept kept'
        → ◌≡◌ {A = Block} (record { bytes = out'; at = at' }) (put out at (line_of n (F.Low l.content (place + 6) l.size)))
        → Parts l.more (place + 7 + l.size) out' at' kept'
    parts_then l out' at' kept' is found brief few size long k e =
        let y = subst (λ (x : Bool). BriefAs x l tp place) found brief in
        let f = F.Low l.content (place + 6) l.size in
        let line = line_put n f out at out' at' refl few (omega (arith, size, h.long)) e in
        record {
          ten = k;
          more = omega (arith, h.more, line.1);
          long = long ∙ h.long;
          four = omega (arith, h.four);
          inside = y.0;
          some = λ z. omega (arith, h.more, line.1);
          none = λ z. absurd (omega (arith, z, h.four));
          ran =
              λ b k x o m d t small.
              let low = low_as b k x o place (own_of k) tp m (record { size = d.size; whole = d.whole; full = d.full; within = h.inside }) t h.four small in
              let met = subst (λ (z : Lows). LowAs z b k x o (own_of k) (call_by (own_of k) (in_lane b k x (Low o) place) tp m) tp m) y.2.1 low in
              let here = subst (λ (z : Bool). Reached tp n (in_lane b k x (Low o) 4) m out₀ from (in_lane b k x (start_stage z o) place) m out at) is (h.ran b k x o m d t small) in
              reached_then (given_from (paused_in b k x (Low o) place refl here) met.0) out' at' refl line.0;
        }

    decided : (x : Bool) → leb 5 place ≡ x → within ≡ false → from < at
    decided true e z = h.some (leb-true 5 place e)
    decided false e z = absurd (not_both within (h.none (omega (arith, leb-false 5 place e, h.four))).2 z)

    pub parts_steady : PartSteady (record { within = within; place = place; held = record { ten = kept; at = at } }) tp out₀ out from
    parts_steady = record {
      ten = h.ten;
      at = h.more;
      from = h.four;
      within = h.inside;
      more = h.some;
      none = λ z. ((h.none z).0, (h.none z).1);
      behind = decided (leb 5 place) refl;
    }

    pub parts_by : PartedBy (record { within = within; place = place; held = record { ten = kept; at = at } }) n tp out₀ from out
    parts_by b k l o m d t small =
        let y = h.ran b k l o m d t small in
        record {
          lines = y.lines;
          hears = y.hears;
          held = y.held;
          able = lane_able b k l (start_stage within o) place d.size t (omega (arith, h.inside, d.whole)) (staged within o place small h.four);
        }

-- ---- calls behind calls

module _ {tp : List ℕ} {n : ℕ} {r : Receiver} {m ls : List ℕ} {r₁ : Receiver} {m₁ : List ℕ} (h : Hears tp n r m ls r₁ m₁) where
  hears_on : {ms : List ℕ} {r₂ : Receiver} {m₂ : List ℕ} → Hears tp n r₁ m₁ ms r₂ m₂ → Hears tp n r m (ls ++ ms) r₂ m₂
  hears_on nothing = subst⁻¹ (λ (x : List ℕ). Hears tp n r m x r₁ m₁) (append-nil ls) h
  hears_on {r₂ = r₂} {m₂ = m₂} (then {ls = ks} {q = q} g gives lasting) =
      subst (λ (x : List ℕ). Hears tp n r m x r₂ m₂) (append_assoc ls ks (line_of n q.find)) (then (hears_on g) gives lasting)

  ends_on : {ms : List ℕ} {r₂ : Receiver} {m₂ : List ℕ} → Ends tp n r₁ m₁ ms r₂ m₂ → Ends tp n r m (ls ++ ms) r₂ m₂
  ends_on {r₂ = r₂} {m₂ = m₂} (last {ls = ks} {q = q} g gives off) =
      subst (λ (x : List ℕ). Ends tp n r m x r₂ m₂) (append_assoc ls ks (line_of n q.find)) (last (hears_on g) gives off)

holds_on : (out : List ℕ) (at : ℕ) (ls out₁ : List ℕ) (at₁ : ℕ) (ms out₂ : List ℕ) (at₂ : ℕ) → Holds out at ls out₁ at₁ → Holds out₁ at₁ ms out₂ at₂ → Holds out at (ls ++ ms) out₂ at₂
holds_on out at ls out₁ at₁ ms out₂ at₂ e f = f ∙ ap (λ (z : List ℕ). z ++ ms) e ∙ append_assoc (take at out) ls ms

-- ---- the payload

-- without a low-latency part
left_plain : (q : Passed) (t : Track) (b : Receiver) (k : ℕ) (r : Receiver) (n : ℕ) (tp m out : List ℕ) (at : ℕ) (m' out' : List ℕ) → Kempt b.limit t
    → LedTo false q t All b k r n tp m m out at m' out' → LeftAs q t b k r n tp m out at m' out'
left_plain q t b k r n tp m out at m' out' y (ended e d z) =
    record { left = subst⁻¹ (λ (l : Left). LeftBy l q t b k r n tp m out at m' out') e d; kempt = z }
left_plain q t b k r n tp m out at m' out' y (onward i e d more z) =
    record { left = subst⁻¹ (λ (l : Left). LeftBy l q t b k r n tp m out at m' out') e (d, more); kempt = z }
left_plain q t b k r n tp m out at m' out' y (stays none el et ea em eu) =
    record { left = subst⁻¹ (λ (l : Left). LeftBy l q t b k r n tp m out at m' out') el (em, eu, ea, et); kempt = subst⁻¹ (Kempt b.limit) et y }

-- behind one
module _ (q : Passed) (t : Track) (o here : ℕ) (b : Receiver) (k : ℕ) (r r₁ : Receiver) (n : ℕ) (tp m out : List ℕ) (at : ℕ) (out₁ : List ℕ) (at₁ : ℕ) (ls : List ℕ) (m' out' : List ℕ)
    (h : Hears tp n r m ls r₁ m) (is : r₁ ≡ in_lane b k (lane_in t) (Due o) here) (held : Holds out at ls out₁ at₁) (able : Able r₁) (some : at < at₁) (y : Kempt b.limit t) where
  abbrev Leaves : Left → Type 0
  Leaves l = LeftBy l q t b k r n tp m out at m' out'

  left_behind : LedTo false q t (From (Due o) here) b k r₁ n tp m m out₁ at₁ m' out' → LeftAs q t b k r n tp m out at m' out'
  left_behind (ended e d z) = record {
    left = subst⁻¹ Leaves e (record { lines = ls ++ d.lines; ends = ends_on h d.ends; held = holds_on out at ls out₁ at₁ d.lines out' q.held.at held d.held });
    kempt = z;
  }
  left_behind (onward i e d more z) = record {
    left =
        subst⁻¹ Leaves e
        (record { lines = ls ++ d.lines; hears = hears_on h d.hears; held = holds_on out at ls out₁ at₁ d.lines out' q.held.at held d.held; able = d.able }, omega (arith, more, some));
    kempt = z;
  }
  left_behind (stays none el et ea em eu) = record { left = subst⁻¹ Leaves el (due, omega (arith, ea, some)); kempt = subst⁻¹ (Kempt b.limit) et y }
    where
      there : in_lane b k (lane_in q.track) (Due o) here ≡ r₁
      there = ap (λ (x : Track). in_lane b k (lane_in x) (Due o) here) et ∙ sym is

      due : OnBy q (Due o) here b k r n tp m out at m' out'
      due = record {
        lines = ls;
        hears = subst⁻¹ (λ (x : Receiver). Hears tp n r m ls x m') there (subst⁻¹ (λ (x : List ℕ). Hears tp n r m ls r₁ x) em h);
        held = ap (λ (x : ℕ). take x out') ea ∙ ap (take at₁) eu ∙ held;
        able = subst⁻¹ Able there able;
      }

module _ (t : Track) (s : Stamp) (low : Bool) (o n : ℕ) (tp m out : List ℕ) (at : ℕ) (sort : t.sort ≤ 3) (small : o < 2048) where
  module _ (p : Parted) (out₁ : List ℕ) (is : low ≡ true) (y : PartSteady p tp out out₁ at) (parted : PartedBy p n tp out at out₁) where
    abbrev r : Receiver → ℕ → Receiver
    r b k = in_lane b k (lane_in t) (Low o) 4

    abbrev left_part : Passed
    left_part = record { left = part_left p o; track = t; held = record { ten = p.held.ten; at = p.held.at } }

    on : (b : Receiver) (k : ℕ) → Lends b 4 tp m → Kempt b.limit t → (x : Bool) → p.within ≡ x → OnBy left_part (start_stage x o) p.place b k (r b k) n tp m out at m out₁
    on b k d z x e =
        let h = parted b k (lane_in t) o m d z.tidy small in
        let there : in_lane b k (lane_in t) (start_stage x o) p.place ≡ in_lane b k (lane_in t) (start_stage p.within o) p.place =
        ap (λ (g : Bool). in_lane b k (lane_in t) (start_stage g o) p.place) (sym e) in
        record {
          lines = h.lines;
          hears = subst⁻¹ (λ (g : Receiver). Hears tp n (r b k) m h.lines g m) there h.hears;
          held = h.held;
          able = subst⁻¹ Able there h.able;
        }

    part_is : (b : Receiver) (k : ℕ) → Lends b 4 tp m → Kempt b.limit t → (x w : Bool) → p.within ≡ x → eqb p.place 4 ≡ w
        → LeftBy (cond x (cond w All (From (Low o) p.place)) (From (Due o) p.place)) left_part t b k (r b k) n tp m out at m out₁
    part_is b k d z true true ex ew = let none = y.none (eqb-true p.place 4 ew) in (refl, none.0, none.1, refl)
    part_is b k d z true false ex ew = (on b k d z true ex, y.more (past_four p.place y.from (eqb-false p.place 4 ew)))
    part_is b k d z false w ex ew = (on b k d z false ex, y.behind ex)

    -- what follows a place in the low-latency part, or behind it; or all of it
    pub payload_part : (q : Passed) (left : Left) → left ≡ part_left p o → q ≡ record { left = left; track = t; held = record { ten = p.held.ten; at = p.held.at } }
        → record { steady : Steady q at; leaves_by : LeavesBy q t s (start_stage low o) 4 n tp m out at m out₁ }
    payload_part q left el eq =
        let e : q ≡ left_part = eq ∙ ap (λ (x : Left). record { left = x; track = t; held = record { ten = p.held.ten; at = p.held.at } }) el in record {
          steady = subst⁻¹ (λ (z : Passed). Steady z at) e (record { ten = y.ten; at = y.at; sort = sort });
          leaves_by = λ b k d own z.
              subst⁻¹ (λ (x : Passed). LeftAs x t b k (in_lane b k (lane_in t) (start_stage low o) 4) n tp m out at m out₁) e
              (subst⁻¹ (λ (g : Bool). LeftAs left_part t b k (in_lane b k (lane_in t) (start_stage g o) 4) n tp m out at m out₁) is
              (record { left = part_is b k d z p.within (eqb p.place 4) refl refl; kempt = z }));
        }

    -- the ordinary bytes behind it
    pub payload_behind : (q : Passed) (left : Left) (m' out' : List ℕ) → p.within ≡ false → left ≡ part_left p o
        → LeadsBy q t s left o p.place n tp m out₁ p.held.at m' out' → LeavesBy q t s (start_stage low o) 4 n tp m out at m' out'
    payload_behind q left m' out' within el led b k d own z =
        let h = parted b k (lane_in t) o m d z.tidy small in
        let lent : Lends b p.place tp m = record { size = d.size; whole = d.whole; full = d.full; within = y.within } in
        let there : in_lane b k (lane_in t) (start_stage p.within o) p.place ≡ in_lane b k (lane_in t) (Due o) p.place =
        ap (λ (g : Bool). in_lane b k (lane_in t) (start_stage g o) p.place) within in
        let due : left ≡ From (Due o) p.place = el ∙ ap (λ (g : Bool). cond g (cond (eqb p.place 4) All (From (Low o) p.place)) (From (Due o) p.place)) within in
        subst⁻¹ (λ (g : Bool). LeftAs q t b k (in_lane b k (lane_in t) (start_stage g o) 4) n tp m out at m' out') is
        (left_behind q t o p.place b k (r b k) (in_lane b k (lane_in t) (Due o) p.place) n tp m out at out₁ p.held.at h.lines m' out'
        (subst (λ (g : Receiver). Hears tp n (r b k) m h.lines g m) there h.hears)
        refl
        h.held
        (subst Able there h.able)
        (y.behind within)
        z
        (subst (λ (g : Left). LedTo false q t g b k (in_lane b k (lane_in t) (Due o) p.place) n tp m m out₁ p.held.at m' out') due (led b k lent own)))

  -- the ordinary bytes, with no low-latency part
  pub payload_plain : (q : Passed) (m' out' : List ℕ) → low ≡ false → LeadsBy q t s All o 4 n tp m out at m' out' → LeavesBy q t s (start_stage low o) 4 n tp m out at m' out'
  payload_plain q m' out' is led b k d own z =
      subst⁻¹ (λ (g : Bool). LeftAs q t b k (in_lane b k (lane_in t) (start_stage g o) 4) n tp m out at m' out') is
      (left_plain q t b k (in_lane b k (lane_in t) (Due o) 4) n tp m out at m' out' z (led b k d own))

pub steady_from : (q : Passed) (at held : ℕ) → at ≤ held → Steady q held → Steady q at
steady_from q at held h s = record { ten = s.ten; at = omega (arith, h, s.at); sort = s.sort }
