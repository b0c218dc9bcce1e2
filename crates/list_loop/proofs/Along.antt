-- From TP to TP in tracks: between two of them the receiver is its track's, and the lines of the records before are held. Assumes nothing.
use Prim.Native.Nat.{ℕ, ◌+◌, ◌≤◌}
use mathlib.Core.Path.{◌≡◌, refl, ap, sym, subst, subst⁻¹, ◌∙◌}
use mathlib.Core.Bool.{Bool, true, false, cond}
use mathlib.Core.Logic.{inl, inr}
use mathlib.Core.List.{List}
use native.Mathlib.Omega.{arith}
use lib.Dec.{eqb}
use lib.ListN.{length}
use borrow.Author.Tests.{eqb-false}
use Rattle.house.specs.Series.{unread_in}
use Rattle.house.specs.Slices.{at_hand, data_in}
use Rattle.std.specs.Prelude.{Ok, Some}
use Rattle.house.specs.declared.Place.TheVariants.{Listing}
use Rattle.house.specs.declared.Record.{Record}
use Rattle.house.specs.declared.Record.TheVariants.{Packet}
use Rattle.listing.specs.Tens.{Kept}
use Rattle.listing.specs.declared.Ten.{Ten}
use Rattle.receiver.specs.Lanes.{LanedAs, StandsIn, in_lane}
use Rattle.receiver.specs.Place.{count_of, own_of}
use Rattle.receiver.specs.State.{Able}
use Rattle.receiver.specs.Tracks.{Kempt, Placed, TracksAs, lane_in, place_in}
use Rattle.receiver.specs.declared.Receiver.{Receiver}
use Rattle.receiver.specs.declared.Stage.{Stage}
use Rattle.receiver.specs.declared.Stage.TheVariants.{Fresh}
use Rattle.receiver.specs.declared.Stamp.{Stamp}
use Rattle.receiver.specs.declared.lane.Lane.{Lane}
use Rattle.receiver.specs.declared.lane.Lane.TheVariants as L
use Rattle.receiver.specs.declared.track.Track.{Track}
use Rattle.receiver.proofs.Laning.{lane_able}
use Rattle.receiver.proofs.Owning.{placed_lane}
use Rattle.list_loop.specs.Lanes.{LeftAs, LeftBy, PassesBy, Steady}
use Rattle.list_loop.specs.Running.{Ahead, Listed}
use Rattle.list_loop.specs.declared.Run.{Run}
use Rattle.list_loop.specs.declared.lanes.Left.{Left}
use Rattle.list_loop.specs.declared.lanes.Left.TheVariants.{All, Done, From}
use Rattle.list_loop.specs.declared.lanes.Passed.{Passed}
use Rattle.list_loop.proofs.Lists.{does_found, listed_as, listed_none, listed_then}

-- ---- a receiver's track is that receiver

stands_in : (l : Lane) (r : Receiver) → LanedAs l r → (l ≡ L.Other → ⊥) → StandsIn l r
stands_in L.Other r a n = absurd (n refl)
stands_in L.Lost r a n = a
stands_in L.Idle r a n = a
stands_in (L.Cut p i w) r a n = a
stands_in (L.Busy p i w c e) r a n = a

some_lane : (t : Track) → t.sort ≤ 3 → lane_in t ≡ L.Other → ⊥
some_lane t few = by (eqb t.sort 0) (eqb t.sort 1) (eqb t.sort 2) (eqb t.sort 3) refl refl refl refl
  where
    by : (a b c d : Bool) → eqb t.sort 0 ≡ a → eqb t.sort 1 ≡ b → eqb t.sort 2 ≡ c → eqb t.sort 3 ≡ d
        → cond a L.Lost (cond b L.Idle (cond c (L.Cut (place_in t) t.have t.word) (cond d (L.Busy (place_in t) t.left t.len t.content t.flips) L.Other))) ≡ L.Other → ⊥
    by true b c d ea eb ec ed e = let z : ◌≡◌ {A = ℕ} 0 1 = cc in omega (arith, z)
    by false true c d ea eb ec ed e = let z : ◌≡◌ {A = ℕ} 0 1 = cc in omega (arith, z)
    by false false true d ea eb ec ed e = let z : ◌≡◌ {A = ℕ} 0 1 = cc in omega (arith, z)
    by false false false true ea eb ec ed e = let z : ◌≡◌ {A = ℕ} 0 1 = cc in omega (arith, z)
    by false false false false ea eb ec ed e =
        omega (arith, few, eqb-false t.sort 0 ea, eqb-false t.sort 1 eb, eqb-false t.sort 2 ec, eqb-false t.sort 3 ed)

-- ---- before a TP

-- in a track of the first receiver's settings
abbrev pub run_in : Run → ℕ → Track → ℕ → ℕ → ℕ → Run
run_in first k t done at from = record { receiver = in_lane first.receiver k (lane_in t) Fresh 0; done = done; ten = first.ten; at = at; from = from }

pub record Along (till : ℕ) (block : List ℕ) (first : Run) (m₀ out₀ : List ℕ) (k : ℕ) (t : Track) (done : ℕ) (ten : Ten) (at from : ℕ) (m out : List ℕ) : Type 0 where
  pub sort : t.sort ≤ 3
  pub kempt : Kempt first.receiver.limit t
  pub kept : Kept ten
  pub past : first.from ≤ from
  pub end : from ≤ till
  pub count : done + first.from ≤ first.done + from
  pub full : length m ≡ first.receiver.limit
  pub room : length m ≡ length m₀
  pub long : length out ≡ length out₀
  pub listed : Listed till block first m₀ out₀ (run_in first k t done at from) m out

-- the loop begins
pub along_first : (till : ℕ) (block : List ℕ) (first : Run) (m out : List ℕ) (k : ℕ) (t : Track) → TracksAs t first.receiver → (t.sort ≡ 4 → ⊥) → k ≡ first.receiver.count
    → Kept first.ten → first.from ≤ till → length m ≡ first.receiver.limit
    → Along till block first m out k t first.done first.ten first.at first.from m out
along_first till block first m out k t a none is kept end full =
    let few : t.sort ≤ 3 = omega (arith, a.sort, none) in
    let s = stands_in (lane_in t) first.receiver a.lane (some_lane t few) in
    record {
      sort = few;
      kempt = record { tidy = s.1; flips = a.flips };
      kept = kept;
      past = omega arith;
      end = end;
      count = omega arith;
      full = full;
      room = refl;
      long = refl;
      listed =
          listed_as till block first m out first m out (listed_none till block first m out) (in_lane first.receiver k (lane_in t) Fresh 0) first.ten
          (ap (λ (i : ℕ). in_lane first.receiver i (lane_in t) Fresh 0) is ∙ sym s.0);
    }

module _ (till : ℕ) (block : List ℕ) (first : Run) (m₀ out₀ : List ℕ) (k : ℕ) (t : Track) (done : ℕ) (ten : Ten) (at from : ℕ) (m out : List ℕ)
    (so : Along till block first m₀ out₀ k t done ten at from m out) where
  abbrev b : Receiver
  b = first.receiver

  pub along_same : (t' : Track) (ten' : Ten) (at' : ℕ) (m' out' : List ℕ) → m' ≡ m → out' ≡ out → t' ≡ t → ten' ≡ ten → at' ≡ at
      → Along till block first m₀ out₀ k t' done ten' at' from m' out'
  along_same t' ten' at' m' out' em eo et en ea =
      subst⁻¹ (λ (x : List ℕ). Along till block first m₀ out₀ k t' done ten' at' from x out') em
      (subst⁻¹ (λ (x : List ℕ). Along till block first m₀ out₀ k t' done ten' at' from m x) eo
      (subst⁻¹ (λ (x : Track). Along till block first m₀ out₀ k x done ten' at' from m out) et
      (subst⁻¹ (λ (x : Ten). Along till block first m₀ out₀ k t done x at' from m out) en
      (subst⁻¹ (λ (i : ℕ). Along till block first m₀ out₀ k t done ten i from m out) ea so))))

  -- as it goes on by calls
  module _ (able : Able b) (x : Receiver) (e : x ≡ in_lane b k (lane_in t) Fresh 0) where
    pub along_ahead : Ahead first till (record { receiver = x; done = done; ten = ten; at = at; from = from })
    along_ahead =
        record {
          able = subst⁻¹ Able e (lane_able b k (lane_in t) Fresh 0 able.size so.kempt.tidy (omega arith) (omega arith));
          placed = subst⁻¹ Placed e (placed_lane b k (lane_in t) Fresh 0);
          ten = so.kept;
          from = so.past;
          end = so.end;
          count = so.count;
        }

    pub along_listed : Listed till block first m₀ out₀ (record { receiver = x; done = done; ten = ten; at = at; from = from }) m out
    along_listed = listed_as till block first m₀ out₀ (run_in first k t done at from) m out so.listed x ten e

  -- ---- one TP more

  module _ (q : Passed) (s : Stamp) (x m' out' : List ℕ) (k' : ℕ) (steady : Steady q at) (p : PassesBy q t b s (done + 1) x m out at m' out') (stamp : s ≡ own_of k') (counted : k' ≡ count_of k) where
    left_by_lem : LeftAs q t b (count_of k) (in_lane b k (lane_in t) Fresh 0) (done + 1) x m out at m' out'
    left_by_lem = p k (stamp ∙ ap own_of counted) so.kempt so.full

    left_is : (l : Left) → q.left ≡ l → LeftBy l q t b (count_of k) (in_lane b k (lane_in t) Fresh 0) (done + 1) x m out at m' out'
    left_is l e = subst (λ (y : Left). LeftBy y q t b (count_of k) (in_lane b k (lane_in t) Fresh 0) (done + 1) x m out at m' out') e left_by_lem.left

    pub along_kempt : Kempt b.limit q.track
    along_kempt = left_by_lem.kempt

    -- not begun
    pub along_all : q.left ≡ All → Along till block first m₀ out₀ k q.track done q.held.ten q.held.at from m' out'
    along_all e =
        let h = left_is All e in
        let g = along_same q.track ten q.held.at m' out' h.0 h.1 h.3 refl h.2 in
        record {
          sort = g.sort;
          kempt = g.kempt;
          kept = steady.ten;
          past = g.past;
          end = g.end;
          count = g.count;
          full = g.full;
          room = g.room;
          long = g.long;
          listed = g.listed;
        }

    module _ (said : Record) (size : ℕ) (whole : at_hand Listing (unread_in block from till) ≡ Ok (Some said)) (is : said ≡ Packet size) (tp : x ≡ data_in said (unread_in block from till)) where
      -- it ended
      pub along_done : q.left ≡ Done → from + 8 + length x ≤ till → length m' ≡ length m → length out' ≡ length out
          → Along till block first m₀ out₀ k' q.track (done + 1) q.held.ten q.held.at (from + 8 + length x) m' out'
      along_done e within room long =
          let d = left_is Done e in
          let r = run_in first (count_of k) q.track (done + 1) q.held.at (from + 8 + length x) in
          let l = listed_then till block first m₀ out₀ (run_in first k t done at from) m out so.listed r m' out' said x whole tp
          (does_found said size x (run_in first k t done at from) m out r m' out' is (record { lines = d.lines; held = d.held; heard = inr (d.ends, (refl, refl)) })) in
          record {
            sort = steady.sort;
            kempt = along_kempt;
            kept = steady.ten;
            past = omega (arith, so.past);
            end = within;
            count = omega (arith, so.count);
            full = room ∙ so.full;
            room = room ∙ so.room;
            long = long ∙ so.long;
            listed = subst⁻¹ (λ (i : ℕ). Listed till block first m₀ out₀ (run_in first i q.track (done + 1) q.held.at (from + 8 + length x)) m' out') counted l;
          }

      -- it has more to give
      module _ (g : Stage) (i : ℕ) (e : q.left ≡ From g i) (z : Receiver) (back : z ≡ in_lane b k' (lane_in q.track) g i) where
        back_is : z ≡ in_lane b (count_of k) (lane_in q.track) g i
        back_is = back ∙ ap (λ (j : ℕ). in_lane b j (lane_in q.track) g i) counted

        pub pause_ahead : Ahead first till (record { receiver = z; done = done; ten = q.held.ten; at = q.held.at; from = from })
        pause_ahead =
            record {
              able = subst⁻¹ Able back_is (left_is (From g i) e).0.able;
              placed = subst⁻¹ Placed back (placed_lane b k' (lane_in q.track) g i);
              ten = steady.ten;
              from = so.past;
              end = so.end;
              count = so.count;
            }

        pub pause_listed : Listed till block first m₀ out₀ (record { receiver = z; done = done; ten = q.held.ten; at = q.held.at; from = from }) m' out'
        pause_listed =
            let d = (left_is (From g i) e).0 in
            let r : Run = record { receiver = in_lane b (count_of k) (lane_in q.track) g i; done = done; ten = q.held.ten; at = q.held.at; from = from } in
            listed_as till block first m₀ out₀ r m' out'
            (listed_then till block first m₀ out₀ (run_in first k t done at from) m out so.listed r m' out' said x whole tp
            (does_found said size x (run_in first k t done at from) m out r m' out' is (record { lines = d.lines; held = d.held; heard = inl (d.hears, (refl, refl)) })))
            z q.held.ten back_is
