-- In tracks, what is met leads on by calls: the lines put are those of the calls, up to what of a TP is left. Assumes nothing.
use Prim.Native.Nat.{ℕ, suc, zero, ◌+◌, ◌-◌, ◌≤◌, ◌<◌}
use mathlib.Core.Path.{◌≡◌, refl, ap, sym, subst, subst⁻¹, ◌∙◌}
use mathlib.Core.Bool.{Bool, true, false, cond}
use mathlib.Core.Logic.{◌⊎◌, inl, inr, ⊎_elim}
use mathlib.Core.List.{List, [], ◌++◌, append_assoc, append-nil}
use native.Mathlib.Omega.{arith}
use lib.Dec.{eqb, leb}
use lib.ListN.{length, take, drop}
use borrow.Author.Tests.{eqb-false, eqb-true, leb-false, leb-true, ne_eqb}
use Rattle.queue.specs.Ring.{copied}
use Rattle.block.specs.Block.{Block, put}
use Rattle.listing.specs.Hearing.{Hears, nothing, then, Ends, last}
use Rattle.listing.specs.Lines.{line_of}
use Rattle.listing.specs.Tens.{Kept}
use Rattle.listing.specs.declared.Ten.{Ten}
use Rattle.listing.proofs.Laws.{grows, line_held}
use Rattle.receiver.specs.Call.{Gave, Gives, call_of, count_in, lasts}
use Rattle.receiver.specs.Lanes.{AheadAs, Lends, MetAs, OutAs, Tidy, call_by, ends_in, in_lane, step_to}
use Rattle.receiver.specs.Place.{own_of, place_at}
use Rattle.receiver.specs.Tracks.{BehindAs, Seen, SetsOut, WholeAt, begins_in, lane_in, part_of, tail_in, turned_of}
use Rattle.receiver.specs.declared.About.{About}
use Rattle.receiver.specs.declared.Find.{Find}
use Rattle.receiver.specs.declared.Find.TheVariants as F
use Rattle.receiver.specs.declared.Place.{Place}
use Rattle.receiver.specs.declared.Receiver.{Receiver}
use Rattle.receiver.specs.declared.Stage.{Stage}
use Rattle.receiver.specs.declared.Stage.TheVariants.{Fresh, Due, Plain}
use Rattle.receiver.specs.declared.Stamp.{Stamp}
use Rattle.receiver.specs.declared.Step.{Step}
use Rattle.receiver.specs.declared.lane.Lane.{Lane}
use Rattle.receiver.specs.declared.lane.Lane.TheVariants as L
use Rattle.receiver.specs.declared.lane.Met.{Met}
use Rattle.receiver.specs.declared.lane.Met.TheVariants as M
use Rattle.receiver.specs.declared.track.Onto.{Onto}
use Rattle.receiver.specs.declared.track.Sight.{Sight}
use Rattle.receiver.specs.declared.track.Track.{Track}
use Rattle.receiver.proofs.LaneFirst.{own_later}
use Rattle.receiver.proofs.Laning.{lane_able}
use Rattle.list_loop.specs.Lanes.{BegunAs, DoneBy, Holds, LeadsBy, LedTo, RunsBy, Steady, ended, onward, stays}
use Rattle.list_loop.specs.declared.lanes.Left.{Left}
use Rattle.list_loop.specs.declared.lanes.Left.TheVariants.{Done, From}
use Rattle.list_loop.specs.declared.lanes.Passed.{Passed}

-- a test says one of two
pub not_both : (x : Bool) → x ≡ true → x ≡ false → ⊥
not_both true e f = let z : ◌≡◌ {A = ℕ} 0 1 = ap (λ (x : Bool). cond x 0 1) f in omega (arith, z)
not_both false e f = let z : ◌≡◌ {A = ℕ} 1 0 = ap (λ (x : Bool). cond x 0 1) e in omega (arith, z)

no_other : (n : ℕ) → n ≤ 3 → (n ≡ 0 → ⊥) → (n ≡ 1 → ⊥) → (n ≡ 2 → ⊥) → (n ≡ 3 → ⊥) → ⊥
no_other zero h a b c d = a refl
no_other (suc zero) h a b c d = b refl
no_other (suc (suc zero)) h a b c d = c refl
no_other (suc (suc (suc zero))) h a b c d = d refl
no_other (suc (suc (suc (suc n)))) h a b c d = omega (arith, h)

-- ---- a line

pub line_put : (n : ℕ) (f : Find) (out : List ℕ) (at : ℕ) (out' : List ℕ) (at' : ℕ) → lasts f ≡ true → at < 61440 → 61520 ≤ length out
    → ◌≡◌ {A = Block} (record { bytes = out'; at = at' }) (put out at (line_of n f)) → (take at' out' ≡ take at out ++ line_of n f) × (at < at')
line_put n f out at out' at' lasting few size is =
    let room : at + 80 ≤ length out = omega arith in
    (line_held n f out out' at at' room is, grows n f out out' at at' room is lasting)

-- ---- calls from a receiver r and a room m₀ on, behind the first `from` bytes of an output block

module _ (tp : List ℕ) (n : ℕ) (r : Receiver) (m₀ out₀ : List ℕ) (from : ℕ) where
  -- to this receiver
  pub record Reached (r' : Receiver) (m out : List ℕ) (at : ℕ) : Type 0 where
    pub lines : List ℕ
    pub hears : Hears tp n r m₀ lines r' m
    pub held : Holds out₀ from lines out at

  -- to one whose next call is g
  pub record Paused (g : Gave) (m out : List ℕ) (at : ℕ) : Type 0 where
    pub left : Receiver
    pub reached : Reached left m out at
    pub next : call_of left tp m ≡ g

  -- to one whose next call gives q, the line of which is to be put
  pub record Given (q : Step) (m out : List ℕ) (at : ℕ) : Type 0 where
    pub left : Receiver
    pub before : List ℕ
    pub reached : Reached left before out at
    pub gives : Gives (call_of left tp before) q tp m

module _ {tp : List ℕ} {n : ℕ} {r : Receiver} {m₀ out₀ : List ℕ} {from : ℕ} where
  pub reached_none : Reached tp n r m₀ out₀ from r m₀ out₀ from
  reached_none = record { lines = []; hears = nothing; held = sym (append-nil (take from out₀)) }

  pub given_from : {g : Gave} {m out : List ℕ} {at : ℕ} {q : Step} {m' : List ℕ} → Paused tp n r m₀ out₀ from g m out at → Gives g q tp m'
      → Given tp n r m₀ out₀ from q m' out at
  given_from {m = m} {q = q} {m' = m'} p g =
      record { left = p.left; before = m; reached = p.reached; gives = subst⁻¹ (λ (x : Gave). Gives x q tp m') p.next g }

  module _ {q : Step} {m out : List ℕ} {at : ℕ} (g : Given tp n r m₀ out₀ from q m out at) where
    held_more : (out' : List ℕ) (at' : ℕ) → take at' out' ≡ take at out ++ line_of n q.find → Holds out₀ from (g.reached.lines ++ line_of n q.find) out' at'
    held_more out' at' e =
        e
        ∙ ap (λ (z : List ℕ). z ++ line_of n q.find) g.reached.held
        ∙ append_assoc (take from out₀) g.reached.lines (line_of n q.find)

    pub reached_then : (out' : List ℕ) (at' : ℕ) → lasts q.find ≡ true → take at' out' ≡ take at out ++ line_of n q.find
        → Reached tp n r m₀ out₀ from q.receiver m out' at'
    reached_then out' at' on e = record { lines = g.reached.lines ++ line_of n q.find; hears = then g.reached.hears g.gives on; held = held_more out' at' e }

  pub paused_in : (b : Receiver) (k : ℕ) (l : Lane) (s : Stage) (i : ℕ) {m out : List ℕ} {at : ℕ} → count_in s k ≡ k → Reached tp n r m₀ out₀ from (in_lane b k l s i) m out at
      → Paused tp n r m₀ out₀ from (call_by (own_of k) (in_lane b k l s i) tp m) m out at
  paused_in b k l s i {m} e h = record { left = in_lane b k l s i; reached = h; next = own_later b k l s i tp m e }

  -- none, which has no line
  pub done_with : (b : Receiver) (k : ℕ) (l : Lane) (t : Stamp) (m out : List ℕ) (at : ℕ) (q : Passed) → Given tp n r m₀ out₀ from (ends_in (in_lane b k l Fresh 0) t) m out at
      → lane_in q.track ≡ l → q.held.at ≡ at → DoneBy q b k r n tp m₀ out₀ from m out
  done_with b k l t m out at q g is same =
      record {
        lines = g.reached.lines ++ [];
        ends = subst⁻¹ (λ (x : Lane). Ends tp n r m₀ (g.reached.lines ++ []) (in_lane b k x Fresh 0) m) is (last g.reached.hears g.gives refl);
        held = ap (λ (i : ℕ). take i out) same ∙ g.reached.held ∙ ap (λ (z : List ℕ). take from out₀ ++ z) (sym (append-nil g.reached.lines));
      }

-- ---- from EP to EP

-- before a place where an EP begins: a packet is due, whose line is to be put; or none
abbrev pub Now : Bool → ℕ → ℕ → ℕ → ℕ → Receiver → ℕ → Receiver → List ℕ → List ℕ → List ℕ → ℕ → List ℕ → List ℕ → ℕ → Type 0
Now true place c len n b k r tp m₀ out₀ from m out at =
    (a : About) × Given tp n r m₀ out₀ from (step_to (in_lane b k L.Idle Plain place) (F.Ordinary c len) a) m out at
Now false place c len n b k r tp m₀ out₀ from m out at = Paused tp n r m₀ out₀ from (call_by (own_of k) (in_lane b k L.Idle Plain place) tp m) m out at

-- the same with its line
abbrev pub Then : Bool → ℕ → ℕ → Receiver → ℕ → Receiver → List ℕ → List ℕ → List ℕ → ℕ → List ℕ → List ℕ → ℕ → Type 0
Then true place n b k r tp m₀ out₀ from m out at = Reached tp n r m₀ out₀ from (in_lane b k L.Idle Plain place) m out at
Then false place n b k r tp m₀ out₀ from m out at = Paused tp n r m₀ out₀ from (call_by (own_of k) (in_lane b k L.Idle Plain place) tp m) m out at

then_paused : (due : Bool) (place n : ℕ) (b : Receiver) (k : ℕ) (r : Receiver) (tp m₀ out₀ : List ℕ) (from : ℕ) (m out : List ℕ) (at : ℕ)
    → Then due place n b k r tp m₀ out₀ from m out at → Paused tp n r m₀ out₀ from (call_by (own_of k) (in_lane b k L.Idle Plain place) tp m) m out at
then_paused true place n b k r tp m₀ out₀ from m out at h = paused_in b k L.Idle Plain place refl h
then_paused false place n b k r tp m₀ out₀ from m out at h = h

-- a lane that is one
abbrev Some : Lane → Type 0
Some L.Other = 1 ≤ 0
Some L.Lost = 0 ≤ 0
Some L.Idle = 0 ≤ 0
Some (L.Cut p n w) = 0 ≤ 0
Some (L.Busy p left len c e) = 0 ≤ 0

sort_few : (t : Track) → Some (lane_in t) → t.sort ≤ 3
sort_few t h = go (leb t.sort 3) refl
  where
    go : (x : Bool) → leb t.sort 3 ≡ x → t.sort ≤ 3
    go true e = leb-true t.sort 3 e
    go false e =
        let big = leb-false t.sort 3 e in
        let e₀ = ne_eqb t.sort 0 (λ z. omega (arith, z, big)) in
        let e₁ = ne_eqb t.sort 1 (λ z. omega (arith, z, big)) in
        let e₂ = ne_eqb t.sort 2 (λ z. omega (arith, z, big)) in
        let e₃ = ne_eqb t.sort 3 (λ z. omega (arith, z, big)) in
        let is : lane_in t ≡ L.Other = rw (e₀, e₁, e₂, e₃) refl in
        absurd (omega (arith, subst Some is h))

tail_some : (x : Bool) (p : Place) (n w : ℕ) → Some (cond x L.Idle (L.Cut p n w))
tail_some true p n w = omega arith
tail_some false p n w = omega arith

-- neither a whole EP nor left to a call
pub sight_sort : (a : Sight) → a.sort ≤ 3 → (a.sort ≡ 3 → ⊥) → (a.sort ≡ 0 → ⊥) → (a.sort ≡ 1) ⊎ (a.sort ≡ 2)
sight_sort a few whole off = go (eqb a.sort 1) (eqb a.sort 2) refl refl
  where
    go : (x y : Bool) → eqb a.sort 1 ≡ x → eqb a.sort 2 ≡ y → (a.sort ≡ 1) ⊎ (a.sort ≡ 2)
    go true y e f = inl (eqb-true a.sort 1 e)
    go false true e f = inr (eqb-true a.sort 2 f)
    go false false e f = absurd (no_other a.sort few off (eqb-false a.sort 1 e) (eqb-false a.sort 2 f) whole)

-- what `behind` asks of it
pub sight_asks : (a : Sight) (place : ℕ) (tp : List ℕ) (most : ℕ) → Seen a place tp most → (a.sort ≡ 1) ⊎ (a.sort ≡ 2)
    → (a.flips < 256)
    × (((a.sort ≡ 1) × (a.from ≤ length tp) × (length tp - a.from < 6))
    ⊎ ((a.sort ≡ 2) × (a.from + 6 ≤ length tp) × (length tp - (a.from + 6) < a.size) × (a.size ≤ most)))
sight_asks a place tp most seen sort =
    ⊎_elim
    (λ z. let y = seen.tail z in (y.flips, inl (z, y.within, y.few)))
    (λ z. let y = seen.begins z in (y.flips, inr (z, y.within, y.cut, y.fits)))
    sort

module _ (s : Stamp) (n : ℕ) (tp : List ℕ) (due₀ : Bool) (place₀ c₀ len₀ : ℕ) (room₀ out₀ : List ℕ) (from : ℕ) where
  -- before the line
  pub record Head (due : Bool) (place c len : ℕ) (room out : List ℕ) (at : ℕ) (kept : Ten) : Type 0 where
    pub ten : Kept kept
    pub more : from ≤ at
    pub few : at < 61440
    pub long : length out ≡ length out₀
    pub full : length room ≡ length room₀
    pub within : place ≤ length tp
    pub one : due ≡ true → c ≤ 6
    pub same : due ≡ false → (due₀ ≡ false) × (room ≡ room₀) × (out ≡ out₀) × (at ≡ from)
    pub ran : (b : Receiver) (k : ℕ) (r : Receiver) (m₀ : List ℕ) → Lends b place₀ tp room₀ → s ≡ own_of k → BegunAs due₀ place₀ c₀ len₀ b k r tp m₀ room₀
        → Now due place c len n b k r tp m₀ out₀ from room out at

  -- behind it
  pub record Behind (due : Bool) (place : ℕ) (room out : List ℕ) (at : ℕ) (kept : Ten) : Type 0 where
    pub ten : Kept kept
    pub more : from ≤ at
    pub long : length out ≡ length out₀
    pub full : length room ≡ length room₀
    pub within : place ≤ length tp
    pub some : due ≡ true → from < at
    pub same : due ≡ false → (due₀ ≡ false) × (room ≡ room₀) × (out ≡ out₀) × (at ≡ from)
    pub ran : (b : Receiver) (k : ℕ) (r : Receiver) (m₀ : List ℕ) → Lends b place₀ tp room₀ → s ≡ own_of k → BegunAs due₀ place₀ c₀ len₀ b k r tp m₀ room₀
        → Then due place n b k r tp m₀ out₀ from room out at

  -- what is left then
  abbrev pub Led : Passed → Track → Left → List ℕ → List ℕ → Type 0
  Led q t left m' out' =
      (b : Receiver) (k : ℕ) (r : Receiver) (m₀ : List ℕ) → Lends b place₀ tp room₀ → s ≡ own_of k → BegunAs due₀ place₀ c₀ len₀ b k r tp m₀ room₀
      → LedTo due₀ q t left b k r n tp m₀ room₀ out₀ from m' out'

  begun_now : (due : Bool) (place c len : ℕ) (b : Receiver) (k : ℕ) (r : Receiver) (m₀ : List ℕ) → BegunAs due place c len b k r tp m₀ room₀
      → Now due place c len n b k r tp m₀ out₀ from room₀ out₀ from
  begun_now true place c len b k r m₀ g = (g.0, record { left = r; before = m₀; reached = reached_none; gives = g.1 })
  begun_now false place c len b k r m₀ g = record {
    left = r;
    reached = subst⁻¹ (λ (x : List ℕ). Reached tp n r m₀ out₀ from r x out₀ from) g.0 reached_none;
    next = ap (λ (x : List ℕ). call_of r tp x) g.0 ∙ g.1 ∙ ap (λ (x : List ℕ). call_by (own_of k) (in_lane b k L.Idle Plain place) tp x) (sym g.0);
  }

  pub head_first : (kept : Ten) → Kept kept → from < 61440 → place₀ ≤ length tp → (due₀ ≡ true → c₀ ≤ 6) → Head due₀ place₀ c₀ len₀ room₀ out₀ from kept
  head_first kept k few within one = record {
    ten = k;
    more = omega arith;
    few = few;
    long = refl;
    full = refl;
    within = within;
    one = one;
    same = λ e. (e, refl, refl, refl);
    ran = λ b k r m₀ d e g. begun_now due₀ place₀ c₀ len₀ b k r m₀ g;
  }

  module _ (due : Bool) (place c len : ℕ) (room out : List ℕ) (at : ℕ) (kept : Ten) (h : Head due place c len room out at kept) where
    -- a line put; or none, since none is due
    pub line_behind : (out' : List ℕ) (at' : ℕ) (kept' : Ten) → due ≡ true → 61520 ≤ length out₀ → length out' ≡ length out → Kept kept'
        → ◌≡◌ {A = Block} (record { bytes = out'; at = at' }) (put out at (line_of n (F.Ordinary c len))) → Behind due place room out' at' kept'
    line_behind out' at' kept' is size long k e =
        let line = line_put n (F.Ordinary c len) out at out' at' refl h.few (omega (arith, size, h.long)) e in
        record {
          ten = k;
          more = omega (arith, h.more, line.1);
          long = long ∙ h.long;
          full = h.full;
          within = h.within;
          some = λ z. omega (arith, h.more, line.1);
          same = λ z. absurd (not_both due is z);
          ran =
              λ b k r m₀ d o g.
              subst⁻¹ (λ (x : Bool). Then x place n b k r tp m₀ out₀ from room out' at') is
              (reached_then (subst (λ (x : Bool). Now x place c len n b k r tp m₀ out₀ from room out at) is (h.ran b k r m₀ d o g)).1 out' at' refl line.0);
        }

    pub none_behind : due ≡ false → Behind due place room out at kept
    none_behind is = record {
      ten = h.ten;
      more = h.more;
      long = h.long;
      full = h.full;
      within = h.within;
      some = λ z. absurd (not_both due z is);
      same = h.same;
      ran =
          λ b k r m₀ d o g.
          subst⁻¹ (λ (x : Bool). Then x place n b k r tp m₀ out₀ from room out at) is
          (subst (λ (x : Bool). Now x place c len n b k r tp m₀ out₀ from room out at) is (h.ran b k r m₀ d o g));
    }

  pub behind_as : (due : Bool) (place : ℕ) (room out : List ℕ) (at : ℕ) (kept : Ten) (out' : List ℕ) (at' : ℕ) (kept' : Ten) → out ≡ out' → at ≡ at' → kept ≡ kept'
      → Behind due place room out' at' kept' → Behind due place room out at kept
  behind_as due place room out at kept out' at' kept' eo ea ek h =
      subst⁻¹ (λ (x : List ℕ). Behind due place room x at kept) eo
      (subst⁻¹ (λ (x : ℕ). Behind due place room out' x kept) ea (subst⁻¹ (λ (x : Ten). Behind due place room out' at' x) ek h))

  module _ (due : Bool) (place : ℕ) (room out : List ℕ) (at : ℕ) (kept : Ten) (h : Behind due place room out at kept) where
    lent : (b : Receiver) → Lends b place₀ tp room₀ → Lends b place tp room
    lent b d = record { size = d.size; whole = d.whole; full = h.full ∙ d.full; within = h.within }

    -- what the call there comes to
    met_then : (q : Met) (m' : List ℕ) → AheadAs q place s tp room m' → (b : Receiver) (k : ℕ) → Lends b place₀ tp room₀ → s ≡ own_of k
        → MetAs q b k (own_of k) (call_by (own_of k) (in_lane b k L.Idle Plain place) tp room) tp room m'
    met_then q m' a b k d o =
        subst (λ (t : Stamp). MetAs q b k t (call_by t (in_lane b k L.Idle Plain place) tp room) tp room m') o (a b k (lent b d))

    paused : (b : Receiver) (k : ℕ) (r : Receiver) (m₀ : List ℕ) → Lends b place₀ tp room₀ → s ≡ own_of k → BegunAs due₀ place₀ c₀ len₀ b k r tp m₀ room₀
        → Paused tp n r m₀ out₀ from (call_by (own_of k) (in_lane b k L.Idle Plain place) tp room) room out at
    paused b k r m₀ d o g = then_paused due place n b k r tp m₀ out₀ from room out at (h.ran b k r m₀ d o g)

    -- a packet
    pub whole_head : (c e : ℕ) (p : Place) (len end : ℕ) (m' : List ℕ) → at < 61440 → AheadAs (M.Gives c e p len end) place s tp room m' → c ≤ 6 → end ≤ length tp
        → length m' ≡ length room → Head true end c len m' out at kept
    whole_head c e p len end m' few a one within same = record {
      ten = h.ten;
      more = h.more;
      few = few;
      long = h.long;
      full = same ∙ h.full;
      within = within;
      one = λ z. one;
      same = λ z. absurd (not_both true refl z);
      ran = λ b k r m₀ d o g. (record { repaired = e; at = p }, given_from (paused b k r m₀ d o g) (met_then (M.Gives c e p len end) m' a b k d o).0);
    }

    -- the TP's end
    pub ends_led : (l : Lane) (m' m'' : List ℕ) (v : Track) (q : Passed) (t : Track) (left : Left) → AheadAs (M.Ends l) place s tp room m' → Some l → lane_in v ≡ l
        → v.flips < 256 → m'' ≡ m' → q ≡ record { left = Done; track = v; held = record { ten = kept; at = at } } → record { steady : Steady q from; runs_by : Led q t left m'' out }
    ends_led l m' m'' v q t left a some is flips em e =
        let z : Passed = record { left = Done; track = v; held = record { ten = kept; at = at } } in record {
          steady = subst⁻¹ (λ (x : Passed). Steady x from) e
              (record { ten = h.ten; at = h.more; sort = sort_few v (subst⁻¹ Some is some) });
          runs_by = λ b k r m₀ d o g.
              subst⁻¹ (λ (x : Passed). LedTo due₀ x t left b k r n tp m₀ room₀ out₀ from m'' out) e
              (subst⁻¹ (λ (x : List ℕ). LedTo due₀ z t left b k r n tp m₀ room₀ out₀ from x out) em
              (ended refl
              (done_with b k l (own_of k) m' out at z (given_from (paused b k r m₀ d o g) (met_then (M.Ends l) m' a b k d o).0) is refl)
              (record { tidy = subst⁻¹ (Tidy b.limit) is (met_then (M.Ends l) m' a b k d o).1; flips = flips })));
        }

    -- between two EPs, behind a line
    pub plain_led : (u v : Track) (q : Passed) (t : Track) (left : Left) → due ≡ true → v ≡ turned_of u 1 → u.flips < 256
        → q ≡ record { left = From Plain place; track = v; held = record { ten = kept; at = at } } → record { steady : Steady q from; runs_by : Led q t left room out }
    plain_led u v q t left is ev flips eq =
        let z : Passed = record { left = From Plain place; track = turned_of u 1; held = record { ten = kept; at = at } } in
        let e : q ≡ z = eq ∙ ap (λ (x : Track). record { left = From Plain place; track = x; held = record { ten = kept; at = at } }) ev in record {
          steady = subst⁻¹ (λ (x : Passed). Steady x from) e (record { ten = h.ten; at = h.more; sort = omega arith });
          runs_by = λ b k r m₀ d o g.
              let y = subst (λ (x : Bool). Then x place n b k r tp m₀ out₀ from room out at) is (h.ran b k r m₀ d o g) in
              subst⁻¹ (λ (x : Passed). LedTo due₀ x t left b k r n tp m₀ room₀ out₀ from room out) e
              (onward place refl
              (record { lines = y.lines; hears = y.hears; held = y.held; able = lane_able b k L.Idle Plain place d.size (omega arith) (omega (arith, h.within, d.whole)) (omega arith) })
              (h.some is)
              (record { tidy = omega arith; flips = flips }));
        }

    -- nowhere
    pub stays_led : (q : Passed) (t : Track) (left : Left) → due ≡ false → t.sort ≤ 3
        → q ≡ record { left = left; track = t; held = record { ten = kept; at = at } } → record { steady : Steady q from; runs_by : Led q t left room out }
    stays_led q t left is sort e =
        let same = h.same is in record {
          steady = subst⁻¹ (λ (x : Passed). Steady x from) e (record { ten = h.ten; at = h.more; sort = sort });
          runs_by = λ b k r m₀ d o g.
              subst⁻¹ (λ (x : Passed). LedTo due₀ x t left b k r n tp m₀ room₀ out₀ from room out) e (stays same.0 refl refl same.3 same.1 same.2);
        }

    -- the TP's end, or what it cuts
    pub sight_led : (a : Sight) (m'' : List ℕ) (v : Track) (q : Passed) (t : Track) (left : Left) → Seen a place tp (length room) → (a.sort ≡ 1) ⊎ (a.sort ≡ 2)
        → BehindAs v a s tp room m'' → q ≡ record { left = Done; track = v; held = record { ten = kept; at = at } } → record { steady : Steady q from; runs_by : Led q t left m'' out }
    sight_led a m'' v q t left seen sort y e =
        ⊎_elim
        (λ z. ends_led (tail_in a.from s tp) room m'' v q t left ((seen.tail z).met s room) (tail_some (eqb (length tp - a.from) 0) (place_at s a.from) (length tp - a.from) _) (y.tail z).0 y.flips (y.tail z).1 e)
        (λ z. ends_led (begins_in a s tp) (copied room 0 (take (part_of a tp) (drop (a.from + 6) tp))) m'' v q t left ((seen.begins z).met s room refl) (omega arith) (y.begins z).0 y.flips (y.begins z).1 e)
        sort

    -- a whole EP, whose data are copied
    pub sight_head : (a : Sight) (i j : ℕ) (m' : List ℕ) → at < 61440 → WholeAt a place tp (length room) → m' ≡ copied room 0 (take j (drop i tp)) → i ≡ a.from + 6
        → j ≡ a.size → length m' ≡ length room → Head true (a.from + 6 + a.size) a.content a.size m' out at kept
    sight_head a i j m' few w e ei ej same =
        let z = M.Gives a.content a.flips (place_at s a.from) a.size (a.from + 6 + a.size) in
        let is : m' ≡ copied room 0 (take a.size (drop (a.from + 6) tp)) = e ∙ ap (λ (x : ℕ). copied room 0 (take j (drop x tp))) ei ∙ ap (λ (x : ℕ). copied room 0 (take x (drop (a.from + 6) tp))) ej in
        whole_head a.content a.flips (place_at s a.from) a.size (a.from + 6 + a.size) m' few (subst⁻¹ (λ (x : List ℕ). AheadAs z place s tp room x) is (w.met s room refl)) w.content w.within same

-- ---- behind the low-latency part

module _ (s : Stamp) (n : ℕ) (tp : List ℕ) (t : Track) (offset here : ℕ) (m out : List ℕ) (at : ℕ) (kept : Ten) (k : Kept kept) where
  pub off_led : (q : Passed) (left : Left) (m' : List ℕ) → m' ≡ m → t.sort ≤ 3
      → q ≡ record { left = left; track = t; held = record { ten = kept; at = at } } → record { steady : Steady q at; leads_by : LeadsBy q t s left offset here n tp m out at m' out }
  off_led q left m' em sort e = record {
    steady = subst⁻¹ (λ (x : Passed). Steady x at) e (record { ten = k; at = omega arith; sort = sort });
    leads_by = λ b k d o.
        subst⁻¹ (λ (x : Passed). LedTo false x t left b k (in_lane b k (lane_in t) (Due offset) here) n tp m m out at m' out) e
        (stays refl refl refl refl em refl);
  }

  module _ (w : Onto) (m₁ : List ℕ) (y : SetsOut w t offset here tp m m₁) (four : 4 ≤ here) (small : offset < 2048) where
    -- what the call there comes to
    met_out : (z : Met) → OutAs z (lane_in t) offset here tp m m₁ → (b : Receiver) (k : ℕ) → Lends b here tp m
        → MetAs z b k (own_of k) (call_by (own_of k) (in_lane b k (lane_in t) (Due offset) here) tp m) tp m m₁
    met_out z a b k d = a b k (own_of k) d four small

    pub over_led : (q : Passed) (left : Left) → w.sort ≡ 1 → q ≡ record { left = Done; track = w.track; held = record { ten = kept; at = at } }
        → record { steady : Steady q at; leads_by : LeadsBy q t s left offset here n tp m out at m₁ out }
    over_led q left is e =
        let a = y.over is in
        let z : Passed = record { left = Done; track = w.track; held = record { ten = kept; at = at } } in record {
          steady = subst⁻¹ (λ (x : Passed). Steady x at) e (record { ten = k; at = omega arith; sort = a.0 });
          leads_by = λ b k d o.
              let r = in_lane b k (lane_in t) (Due offset) here in
              let met = met_out (M.Ends (lane_in w.track)) a.1 b k d in
              subst⁻¹ (λ (x : Passed). LedTo false x t left b k r n tp m m out at m₁ out) e
              (ended refl
              (done_with b k (lane_in w.track) (own_of k) m₁ out at z (given_from (paused_in b k (lane_in t) (Due offset) here refl reached_none) met.0) refl refl)
              (record { tidy = met.1; flips = y.flips }));
        }

    -- a packet, or the call between two EPs
    begun_as : (b : Receiver) (k : ℕ) → Lends b here tp m → (w.sort ≡ 2) ⊎ (w.sort ≡ 3)
        → BegunAs (eqb w.sort 3) w.place w.content w.len b k (in_lane b k (lane_in t) (Due offset) here) tp m m₁
    begun_as b k d sort =
        let r = in_lane b k (lane_in t) (Due offset) here in
        let own = own_later b k (lane_in t) (Due offset) here tp m refl in
        ⊎_elim
        (λ z.
        let met = met_out (M.Reads w.place) (y.at z).2 b k d in
        subst⁻¹ (λ (x : Bool). BegunAs x w.place w.content w.len b k r tp m m₁) (ap (λ (x : ℕ). eqb x 3) z) (met.0, own ∙ sym met.2))
        (λ z.
        let a = (y.packet z).2 in
        let met = met_out (M.Gives w.content a.0 a.1.0 w.len w.place) a.1.1 b k d in
        subst⁻¹ (λ (x : Bool). BegunAs x w.place w.content w.len b k r tp m m₁) (ap (λ (x : ℕ). eqb x 3) z)
        (record { repaired = a.0; at = a.1.0 }, subst⁻¹ (λ (x : Gave). Gives x (step_to (in_lane b k L.Idle Plain w.place) (F.Ordinary w.content w.len) (record { repaired = a.0; at = a.1.0 })) tp m₁) own met.0))
        sort

    stays_same : (q : Passed) (left : Left) (m' out' : List ℕ) (b : Receiver) (k : ℕ) → Lends b here tp m → (w.sort ≡ 2) ⊎ (w.sort ≡ 3)
        → LedTo (eqb w.sort 3) q w.track left b k (in_lane b k (lane_in t) (Due offset) here) n tp m m₁ out at m' out'
        → LedTo false q t left b k (in_lane b k (lane_in t) (Due offset) here) n tp m m out at m' out'
    stays_same q left m' out' b k d sort (ended e x z) = ended e x z
    stays_same q left m' out' b k d sort (onward i e x more z) = onward i e x more z
    stays_same q left m' out' b k d sort (stays none el et ea em eu) =
        ⊎_elim
        (λ z. stays refl el (et ∙ (y.at z).0) ea (em ∙ (met_out (M.Reads w.place) (y.at z).2 b k d).0) eu)
        (λ z. absurd (not_both (eqb w.sort 3) (ap (λ (x : ℕ). eqb x 3) z) none))
        sort

    pub on_led : (q : Passed) (left : Left) (m' out' : List ℕ) → length m₁ ≡ length m → w.place ≤ length tp → (w.sort ≡ 2) ⊎ (w.sort ≡ 3)
        → RunsBy q w s left n tp m₁ out at m' out' → LeadsBy q t s left offset here n tp m out at m' out'
    on_led q left m' out' same within sort ran b k d o =
        stays_same q left m' out' b k d sort
        (ran b k (in_lane b k (lane_in t) (Due offset) here) m (record { size = d.size; whole = d.whole; full = same ∙ d.full; within = within }) o (begun_as b k d sort))

-- what `run_on` asks of it
pub onto_asks : (w : Onto) (t : Track) (offset here : ℕ) (tp m m₁ : List ℕ) → SetsOut w t offset here tp m m₁ → (w.sort ≡ 2) ⊎ (w.sort ≡ 3) → t.sort ≤ 3
    → (w.sort ≡ 3 → w.content ≤ 6) × (w.place ≤ length tp) × (eqb w.sort 3 ≡ false → w.track.sort ≤ 3)
onto_asks w t offset here tp m m₁ y sort few =
    ⊎_elim
    (λ z. (λ f. absurd (omega (arith, z, f)), (y.at z).1, λ f. subst⁻¹ (λ (x : Track). x.sort ≤ 3) (y.at z).0 few))
    (λ z. (λ f. (y.packet z).0, (y.packet z).1, λ f. absurd (not_both (eqb w.sort 3) (ap (λ (x : ℕ). eqb x 3) z) f)))
    sort

-- neither left to a call nor all taken
pub onto_sort : (w : Onto) → w.sort ≤ 3 → (w.sort ≡ 0 → ⊥) → (w.sort ≡ 1 → ⊥) → (w.sort ≡ 2) ⊎ (w.sort ≡ 3)
onto_sort w few off over = go (eqb w.sort 2) (eqb w.sort 3) refl refl
  where
    go : (x y : Bool) → eqb w.sort 2 ≡ x → eqb w.sort 3 ≡ y → (w.sort ≡ 2) ⊎ (w.sort ≡ 3)
    go true y e f = inl (eqb-true w.sort 2 e)
    go false true e f = inr (eqb-true w.sort 3 f)
    go false false e f = absurd (no_other w.sort few off over (eqb-false w.sort 2 e) (eqb-false w.sort 3 f))
