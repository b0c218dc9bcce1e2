-- A call in a series of intact fragments: EPs that join what is kept leave the call that is asked for the same, or end it. Assumes nothing.
use mathlib.Core.Path.{◌≡◌, refl, sym, subst, ap, ◌∙◌}
use mathlib.Core.Bool.{Bool, true, false, cond}
use mathlib.Core.Logic.{inl, inr, ◌⊎◌}
use mathlib.Core.List.{List, []}
use Prim.Native.Nat.{ℕ, ◌+◌, ◌-◌, ◌≤◌, ◌<◌, min}
use native.Mathlib.Decide.{dec_le}
use native.Mathlib.Omega.{arith}
use lib.Dec.{leb}
use lib.ListN.{drop, drop_of_length-le, get_or, length, take}
use borrow.Author.Tests.{eq-eqb, le-leb, ne_eqb}
use Rattle.std.specs.Prelude.{None, Some, Option}
use Rattle.queue.specs.Ring.{copied}
use Rattle.wire.specs.Reading.{sort_of}
use Rattle.wire.specs.declared.Header.{Header}
use Rattle.wire.specs.declared.Sort.{Sort}
use Rattle.wire.specs.declared.Sort.TheVariants as S
use Rattle.receiver.specs.declared.Find.TheVariants as F
use Rattle.receiver.specs.declared.Place.{Place}
use Rattle.receiver.specs.declared.Receiver.{Receiver}
use Rattle.receiver.specs.declared.Stage.{Stage}
use Rattle.receiver.specs.declared.Stage.TheVariants.{Fresh, Plain}
use Rattle.receiver.specs.declared.Stamp.{Stamp}
use Rattle.receiver.specs.declared.entry.Begun.TheVariants as B
use Rattle.receiver.specs.declared.kind.Kind.{Kind}
use Rattle.receiver.specs.declared.kind.Kind.TheVariants.{Complete, First, Last, Middle, Reserved}
use Rattle.receiver.specs.declared.series.Chain.{Chain}
use Rattle.receiver.specs.declared.series.Course.{Course}
use Rattle.receiver.specs.declared.series.Course.TheVariants as C
use Rattle.receiver.specs.declared.stages.Course.TheVariants.{Reads}
use Rattle.receiver.specs.declared.swift.Swift.{Swift}
use Rattle.receiver.specs.declared.walk.Answer.{Answer}
use Rattle.receiver.specs.declared.walk.Gain.TheVariants.{Nothing, Packet}
use Rattle.receiver.specs.declared.walk.Kept.{Kept}
use Rattle.receiver.specs.declared.walk.Phase.{Phase}
use Rattle.receiver.specs.declared.walk.Phase.TheVariants.{Body, Head}
use Rattle.receiver.specs.declared.walk.Walk.{Walk}
use Rattle.receiver.specs.Call.{Gives, call_as, call_of, count_in, counted_of, ordinary_by, ordinary_call, stage_call, stamps_of}
use Rattle.receiver.specs.InSeries.{Chained, ChainAs, CourseAs, FirstAt, Follows, LaterAt, Leaves, LentBy, Runs, RunsAs, SeriesAs, answer_of, cut_at, left_of, said_by}
use Rattle.receiver.specs.InStages.{Leads}
use Rattle.receiver.specs.InStride.{Joins, Skips, between}
use Rattle.receiver.specs.InSwift as I
use Rattle.receiver.specs.InSwift.{Busy, Done, Lent, SwiftAs, between_at, made_of}
use Rattle.receiver.specs.InWalk.{Carries, Ends, On, shown}
use Rattle.receiver.specs.Join.{Finding, low, notice, ordinary}
use Rattle.receiver.specs.Kind.{kind_by, kind_of, piece_of}
use Rattle.receiver.specs.Low.{total_of, wire}
use Rattle.receiver.specs.Pieces.{none_of, tell_of}
use Rattle.receiver.specs.Place.{own_of, place_at, start_of}
use Rattle.receiver.specs.Pull.{Pulled}
use Rattle.receiver.specs.State.{Roomy, Sound, pull_of, kept_by}
use Rattle.receiver.specs.Turns.{body_turn, finish_of, fits_of, goes, opened_of, walk_at}
use Rattle.receiver.specs.Words.{Bytes, Fit, Opens, fitb, head_words, kept_in, phase_in, receiver_in, stage_in, words_of}
use Rattle.receiver.proofs.Advancing.{body_cut, body_read}
use Rattle.receiver.proofs.Answering.{reads_of}
use Rattle.receiver.proofs.Gather.{put_is}
use Rattle.receiver.proofs.Heading as H
use Rattle.receiver.proofs.Parting.{behind_in}
use Rattle.receiver.proofs.Pinned.{unlooked}
use Rattle.receiver.proofs.Standing.{middle_opened, taken_cut, taken_put}
use Rattle.receiver.proofs.Striding.{began_free, ep_carries}
use Rattle.receiver.proofs.Swiftly.{carries, kept_fits, leads, reads_gives}
use Rattle.receiver.proofs.TakingUp.{plain_begins, plain_leads}
use Rattle.receiver.proofs.Worded.{back_receiver, fits, passes}

-- ---- which kind a header is of, and what it does to what is kept

pub first_kind : (h : Header) → 1 ≤ h.content → h.content ≤ 6 → h.fragment ≡ 1 → kind_of h ≡ First
unfolding kind_of sort_of piece_of
first_kind h l u e = rw (ne_eqb h.content 0 (λ (z : h.content ≡ 0). omega (arith, z, l)), le-leb h.content 6 u, e) refl

piece_last : (n : ℕ) (a b : Kind) → 3 ≤ n → piece_of n a b ≡ Last
unfolding piece_of
piece_last n a b l =
    rw (ne_eqb n 0 (λ (z : n ≡ 0). omega (arith, z, l)), ne_eqb n 1 (λ (z : n ≡ 1). omega (arith, z, l)), ne_eqb n 2 (λ (z : n ≡ 2). omega (arith, z, l))) refl

pub last_kind : (h : Header) → 1 ≤ h.content → 3 ≤ h.fragment → kind_of h ≡ Last
unfolding kind_of sort_of
last_kind h l u = rw (ne_eqb h.content 0 (λ (z : h.content ≡ 0). omega (arith, z, l))) (by (leb h.content 6))
  where
    by : (b : Bool) → kind_by (cond b S.Known S.Reserved) h.fragment ≡ Last
    by true = piece_last h.fragment Complete First u
    by false = piece_last h.fragment Reserved Reserved u

-- an EP that is first or middle ends with nothing handed out
holds_on : (h : Header) → 1 ≤ h.fragment → h.fragment ≤ 2 → (at : ℕ) (g : Place) (k : Option Kept) → finish_of (kind_of h) at g k ≡ goes at (Head 0 0) g k
unfolding kind_of piece_of
holds_on h l u at g k = by (sort_of h.content) (dec_le h.fragment 1)
  where
    by : (s : Sort) → Dec (h.fragment ≤ 1) → finish_of (kind_by s h.fragment) at g k ≡ goes at (Head 0 0) g k
    by S.Fill d = refl
    by S.Known (yes a) = let e : h.fragment ≡ 1 = omega (arith, a, l) in rw e refl
    by S.Known (no a) = let e : h.fragment ≡ 2 = omega (arith, a, u) in rw e refl
    by S.Reserved (yes a) = let e : h.fragment ≡ 1 = omega (arith, a, l) in rw e refl
    by S.Reserved (no a) = let e : h.fragment ≡ 2 = omega (arith, a, u) in rw e refl

module _ (at : ℕ) (h : Header) (b : Place) (cap : ℕ) where
  first_opened : kind_of h ≡ First → h.size ≤ cap → opened_of at h b None cap ≡ goes at (Body h h.size) b (kept_by h.content h.flips b 0)
  unfolding opened_of fits_of
  first_opened e l = let u : h.size ≤ cap - 0 = omega arith in rw (e, le-leb h.size (cap - 0) u) refl

  module _ (c e : ℕ) (p : Place) (n : ℕ) (same : h.content ≡ c) (intact : h.flips ≡ 0) (most : e ≤ 4294967295) (l : h.size ≤ cap - n) where
    last_opened : kind_of h ≡ Last → opened_of at h b (kept_by c e p n) cap ≡ goes at (Body h h.size) b (kept_by c e p n)
    unfolding opened_of fits_of
    last_opened k =
        let total : total_of e h.flips ≡ e = omega (arith, intact) in
        rw (k, eq-eqb c h.content (sym same), le-leb h.size (cap - n) l, total) refl

    later_opened : {A : Type 0} → (kind_of h ≡ Last) ⊎ ((kind_of h ≡ Middle) × A) → opened_of at h b (kept_by c e p n) cap ≡ goes at (Body h h.size) b (kept_by c e p n)
    later_opened (inl k) = last_opened k
    later_opened (inr k) = middle_opened at h b cap c e p n k.0 same intact most l

-- what stands there, by the answer
module _ (tp : List ℕ) (at : ℕ) (r : Option Header) (h : Header) where
  pub first_of : (most : ℕ) → FirstAt tp at most r → r ≡ Some h → FirstAt tp at most (Some h)
  first_of most f e = subst (FirstAt tp at most) e f

  pub later_of : (c most : ℕ) → LaterAt tp at c most r → r ≡ Some h → LaterAt tp at c most (Some h)
  later_of c most f e = subst (LaterAt tp at c most) e f

-- ---- between two EPs of a series

module _ (t : Stamp) (tp m : List ℕ) where
  -- the TP's end
  end_between : (g p : Place) (k : Option Kept) → Roomy (length m) k 0 → Ends (length m) t (between (length tp) g k) tp m (answer_of (between (length tp) p k) Nothing) m
  unfolding pull_of shown
  end_between g p k r =
      let z : drop (length tp) tp ≡ [] = drop_of_length-le tp {i = length tp} (omega arith) in
      record { same = rw z refl; sound = record { at = omega arith; phase = (omega arith, omega arith, r) }; gained = omega arith }

-- from x with the room's bytes m₀ to y with those of m
follow_ends : (t : Stamp) (x y : Walk) (tp m₀ m m' : List ℕ) (a : Answer) → pull_of (length m₀) t y tp m ≡ pull_of (length m₀) t x tp m₀ → Ends (length m₀) t y tp m a m' → Ends (length m₀) t x tp m₀ a m'
follow_ends t x y tp m₀ m m' a s e = record { same = e.same ∙ s; sound = e.sound; gained = e.gained }

module _ (tp : List ℕ) (bytes : H.Bytes tp) (start c first : ℕ) (m₀ m : List ℕ) (same : length m ≡ length m₀) (at len : ℕ) (j : Joins (length m₀) tp c start first m₀ at len m) where
  pub run_stops : RunsAs (C.Stops at len) tp start c first m₀ m
  run_stops t e p u =
      let l = j.roomy in
      record { same = j.same t p e p u; sound = record { at = j.within; phase = (omega arith, omega arith, omega arith) } }

  pub run_ends : at ≡ length tp → RunsAs (C.Ends len) tp start c first m₀ m
  run_ends q t e p u =
      let l = j.roomy in
      let s = rw q at (j.same t p e p u) in
      let k : len + 0 ≤ length m = omega arith in
      follow_ends t (between start p (kept_by c e p first)) (between (length tp) p (kept_by c e p len)) tp m₀ m m _ s (rw same at (end_between t tp m p p (kept_by c e p len) k))

  -- the EP behind middles, whose data are put into the room
  module _ (h : Header) (s : LaterAt tp at c (length m - len) (Some h)) (n : ℕ) (q : n ≡ min h.size (length tp - (at + 6))) (m' : List ℕ)
      (put : m' ≡ copied m len (take (at + 6 + n - (at + 6)) (drop (at + 6) tp))) where
    joined : (t : Stamp) (e : ℕ) (p : Place) → e ≤ 4294967295
        → Carries (length m₀) t (between at p (kept_by c e p len)) tp m (body_turn tp (at + 6) h h.size (place_at t at) (kept_by c e p len)) m'
    joined t e p u =
        let l = j.roomy in
        let six = s.0.six in
        let fits = s.2 in
        let f : h.size ≤ length m₀ - len = omega arith in
        let z = put_is tp (at + 6) n c e p len (kept_by c e p len) m m' refl (omega arith) (omega arith) put in
        rw (z, q) (ep_carries (length m₀) t tp m same bytes at p (kept_by c e p len) h s.0 (omega arith) (kept_by c e p len) (later_opened (at + 6) h (place_at t at) (length m₀) c e p len s.1 s.3 u f s.4))

    pub run_fits : len + n ≤ length m₀
    run_fits =
        let l = j.roomy in
        let fits = s.2 in
        omega arith

    pub run_cut : n < h.size → RunsAs (C.Cut h at (h.size - n) (len + n)) tp start c first m₀ m'
    unfolding Carries
    run_cut l t e p u =
        let six = s.0.six in
        let w : length tp - (at + 6) ≡ n = omega arith in
        let v : at + 6 + n ≡ length tp = omega arith in
        let b = body_cut tp (at + 6) h.size h (place_at t at) (kept_by c e p len) (omega arith) in
        let d : Ends (length m₀) t (between at p (kept_by c e p len)) tp m (cut_at t tp h at (h.size - n) c e p (len + n)) m' = rw (sym b, w, v) at (joined t e p u) in
        follow_ends t (between start p (kept_by c e p first)) (between at p (kept_by c e p len)) tp m₀ m m' _ (j.same t p e p u) d

    pub run_whole : h.size ≤ n → RunsAs (C.Whole (len + n) (at + 6 + n)) tp start c first m₀ m'
    unfolding Carries pull_of shown
    run_whole l t e p u =
        let six = s.0.six in
        let w : h.size ≡ n = omega arith in
        let b = body_read tp (at + 6) h.size h (place_at t at) (kept_by c e p len) (omega arith) in
        let k = last s.4 in
        let d : Ends (length m₀) t (between at p (kept_by c e p len)) tp m (answer_of (between (at + 6 + n) (place_at t at) None) (Packet c e p (len + n))) m' = rw (sym b, k, w) at (joined t e p u) in
        record { same = d.same ∙ j.same t p e p u; sound = record { at = d.sound.at; phase = (omega arith, omega arith, omega arith) }; gained = d.gained }
      where
        last : (kind_of h ≡ Last) ⊎ ((kind_of h ≡ Middle) × (length tp - (at + 6) < h.size)) → kind_of h ≡ Last
        last (inl k) = k
        last (inr k) = absurd (omega (arith, k.1, q, l))

-- of what a series comes to
pub runs_whole : (q : Course) (tp : List ℕ) (at c len : ℕ) (h : Header) (from left : ℕ) (m₀ m : List ℕ) → left ≤ 0 → RunsAs q tp at c len m₀ m → Runs q tp at c len h from left m₀ m
runs_whole q tp at c len h from left m₀ m l r = record { whole = λ e. r; cut = λ more. absurd (omega (arith, l, more)) }

pub runs_cut : (tp : List ℕ) (at c len : ℕ) (h : Header) (from left : ℕ) (m : List ℕ) → 0 < left → Runs (C.Cut h from left len) tp at c len h from left m m
runs_cut tp at c len h from left m l = record { whole = λ e. absurd (omega (arith, l, e)); cut = λ more. (refl, refl) }

-- ---- where a series is come to

module _ (r : Receiver) (tp : List ℕ) (l : Lent r tp) (m₀ m : List ℕ) (full : length m₀ ≡ r.limit) (same : length m ≡ length m₀) (bytes : H.Bytes tp) where
  -- its first EP, from between two EPs with nothing kept
  module _ (start : ℕ) (g : Place) (e : r.stage ≡ Plain) (x : r.walk ≡ between start g None) (count : ℕ) (k : count ≡ r.count) (from : ℕ) (s : Skips tp start from) (h : Header)
      (f : FirstAt tp from (length m₀) (Some h)) (n : ℕ) (q : n ≡ min h.size (length tp - (from + 6))) (put : m ≡ copied m₀ 0 (take (from + 6 + n - (from + 6)) (drop (from + 6) tp))) where
    abbrev T : Stamp
    T = own_of count

    abbrev P : Place
    P = place_at T from

    taken : Carries (length m₀) T (between from g None) tp m₀ (body_turn tp (from + 6) h h.size P (kept_by h.content h.flips P 0)) m
    taken =
        let six = f.0.stands.six in
        let z = taken_put tp (from + 6) n h P q m₀ m (omega arith) f.2 put in
        rw z (ep_carries (length m₀) T tp m₀ refl bytes from g None h f.0.stands (omega arith) (kept_by h.content h.flips P 0) (first_opened (from + 6) h P (length m₀) f.0.kind f.2))

    opened_whole : h.size - n ≡ 0 → pull_of (length m₀) T (between (from + 6 + n) P (kept_by h.content h.flips P n)) tp m ≡ pull_of (length m₀) T (between start g None) tp m₀
    unfolding Carries
    opened_whole z =
        let w : h.size ≡ n = omega (arith, z, q) in
        let v : 0 + n ≡ n = omega arith in
        let b = body_read tp (from + 6) h.size h P (kept_by h.content h.flips P 0) (omega arith) in
        let o : On (length m₀) T (between from g None) tp m₀ (between (from + 6 + n) P (kept_by h.content h.flips P n)) m = rw (sym b, f.0.kind, w, v) at taken in
        o.same ∙ s.same (length m₀) T g m₀ refl

    opened_cut : 0 < h.size - n → Ends (length m₀) T (between start g None) tp m₀ (cut_at T tp h from (h.size - n) h.content h.flips P n) m
    unfolding Carries
    opened_cut z =
        let six = f.0.stands.six in
        let v : from + 6 + n ≡ length tp = omega (arith, six, z, q) in
        let b = taken_cut tp (from + 6) n h P q (omega (arith, z)) in
        let d : Ends (length m₀) T (between from g None) tp m₀ (cut_at T tp h from (h.size - n) h.content h.flips P n) m = rw (sym b, v) at taken in
        follow_ends T (between start g None) (between from g None) tp m₀ m₀ m _ (s.same (length m₀) T g m₀ refl) d

    pub opened : (p : Place) → p ≡ P → (at left : ℕ) → at ≡ from + 6 + n → left ≡ h.size - n → Chained r tp m₀ m at h.content h.flips p n count h from left
    opened p z at left a d =
        let six = f.0.stands.six in
        let fits = f.2 in
        let b = plain_begins r (stamps_of r) tp l.able e in
        let y = plain_leads (stage_call r.stage r (counted_of r) (stamps_of r) tp) (counted_of r) (stamps_of r).now tp B.Plain b refl in
        rw (z, a, d) (record {
          start = between start g None;
          leads = subst (λ (w : Walk). Leads (stage_call r.stage r (counted_of r) (stamps_of r) tp) (counted_of r) (stamps_of r).now tp (Reads w)) x y;
          counted = k ∙ ap (λ (s : Stage). count_in s r.count) (sym e);
          within = omega arith;
          roomy = omega arith;
          known = f.1;
          most = omega (arith, f.3);
          whole = opened_whole;
          cut = opened_cut;
        })

  -- its next EP, before a TP in data that end in it
  pub goes_on : (h : Header) (left c e : ℕ) (p : Place) (len n count : ℕ) → Busy r h left c e p len → I.Behind r.stream tp n → n ≡ left → count ≡ count_in Fresh r.count
      → m ≡ copied m₀ len (take (4 + n - 4) (drop 4 tp)) → 1 ≤ h.fragment → h.fragment ≤ 2 → 1 ≤ c → e ≤ 4294967295 → Chained r tp m₀ m (4 + n) c e p (len + n) count h 0 0
  unfolding Carries
  goes_on h left c e p len n count b d q k put lo hi known most =
      let size = l.able.size in
      let is_whole = l.whole in
      let in_tp_lem = behind_in d.offset 4 (length tp) n (omega arith) d.place in
      let least : min left (length tp - 4) ≡ n = omega arith in
      let counted : count ≡ (counted_of r).count = k ∙ ap (λ (s : Stage). count_in s r.count) (sym b.stage) in
      let t = (stamps_of r).now in
      let x = walk_at 4 (Body h left) r.walk.began (kept_by c e p len) in
      let fit = kept_fits r tp l m₀ m tp full same h left c e p len n count b bytes d least k put in
      let u = carries r tp l m₀ m tp full same h left c e p len n count b bytes d least k put in
      let y = body_read tp 4 left h r.walk.began (kept_by c e p len) (omega arith) in
      let z = holds_on h lo hi (4 + left) r.walk.began (kept_by c e p (len + left)) in
      let o : On (length m₀) t x tp m₀ (between (4 + left) r.walk.began (kept_by c e p (len + left))) m = rw (sym y, z) at u in
      rw (counted, q) (record {
        start = x;
        leads = leads r tp l m₀ m tp full same h left c e p len n count b bytes d least k put;
        counted = refl;
        within = omega arith;
        roomy = omega arith;
        known = known;
        most = most;
        whole = λ v. began_free (length m₀) t tp (4 + left) p r.walk.began (kept_by c e p (len + left)) m ∙ o.same;
        cut = λ v. absurd (omega (arith, v));
      })

-- by the words
module _ (ws : List ℕ) (f : fitb ws ≡ true) (b : get_or ws 7 0 ≡ 1) (z : get_or ws 8 0 ≡ 0) (k : get_or ws 16 0 ≡ 0) where
  pub words_plain : get_or ws 5 0 ≡ 3 → (receiver_in ws).stage ≡ Plain
  unfolding receiver_in stage_in
  words_plain a = rw a

  pub words_between : (receiver_in ws).walk ≡ between (get_or ws 4 0) (receiver_in ws).walk.began None
  unfolding receiver_in phase_in kept_in
  words_between =
      let p : (receiver_in ws).walk.phase ≡ Head 0 (get_or ws 9 0) = rw (b, z) in
      let y = rw p at (fits ws f).able.walk.phase in
      let n : get_or ws 9 0 ≡ 0 = omega (arith, y.1) in
      let q : (receiver_in ws).walk.kept ≡ None = rw k in
      ap (λ (x : Phase). walk_at (get_or ws 4 0) x (receiver_in ws).walk.began (receiver_in ws).walk.kept) (p ∙ ap (Head 0) n) ∙ ap (walk_at (get_or ws 4 0) (Head 0 0) (receiver_in ws).walk.began) q

pub words_count : (ws : List ℕ) → get_or ws 3 0 ≡ (receiver_in ws).count
unfolding receiver_in
words_count ws = refl

-- ---- behind what a series comes to

-- a receiver's stage and walk do not show
settings_alike : (r : Receiver) (k : ℕ) (s s' : Stage) (v v' : Walk) (t : Stamp) (o : Option (Finding wire)) (p : Pulled wire) → ordinary_by o (made_of r k s v) t p ≡ ordinary_by o (made_of r k s' v') t p
settings_alike r k s s' v v' t None p = refl
settings_alike r k s s' v v' t (Some (notice n g)) p = refl
settings_alike r k s s' v v' t (Some (low n d)) p = refl
settings_alike r k s s' v v' t (Some (ordinary n d)) p = refl

module _ (r : Receiver) (tp : List ℕ) (l : Lent r tp) (m₀ m w : List ℕ) (full : length m₀ ≡ r.limit) (same : length m ≡ length m₀) (opens : Opens r) (start : Walk) (count : ℕ)
    (counted : count ≡ (counted_of r).count) (on : Leads (stage_call r.stage r (counted_of r) (stamps_of r) tp) (counted_of r) (stamps_of r).now tp (Reads start)) where
  -- the same call from there, by the receiver
  from_there : (v : Walk) → pull_of (length m₀) (own_of count) v tp m ≡ pull_of (length m₀) (own_of count) start tp m₀ → call_of (made_of r count Plain v) tp m ≡ call_of r tp m₀
  unfolding call_of call_as
  from_there v e =
      let t = own_of count in
      let lim : length m ≡ r.limit = same ∙ full in
      let a : call_as (made_of r count Plain v) (stamps_of (made_of r count Plain v)) tp m ≡ ordinary_call (made_of r count Plain v) t (pull_of (length m) t v tp m) = rw (eq-eqb (length m) r.limit lim, eq-eqb (length tp) r.size l.whole) refl in
      let p = pull_of (length m₀) t start tp m₀ in
      let b : ordinary_call (made_of r count Plain v) t (pull_of (length m) t v tp m) ≡ ordinary_call (made_of r count Plain v) t p = ap (λ (n : ℕ). ordinary_call (made_of r count Plain v) t (pull_of n t v tp m)) same ∙ ap (ordinary_call (made_of r count Plain v) t) e in
      let d : ordinary_call (made_of r count Plain v) t p ≡ ordinary_call (made_of r count r.stage r.walk) t p = settings_alike r count Plain r.stage v r.walk t p.find p in
      let h : ordinary_call (made_of r count r.stage r.walk) t p ≡ stage_call r.stage r (counted_of r) (stamps_of r) tp m₀ = subst (λ (n : ℕ). ordinary_call (made_of r n r.stage r.walk) (own_of n) (pull_of (length m₀) (own_of n) start tp m₀) ≡ stage_call r.stage r (counted_of r) (stamps_of r) tp m₀) (sym counted) ((reads_of (stage_call r.stage r (counted_of r) (stamps_of r) tp) (counted_of r) (stamps_of r).now tp (Reads start) start on refl).same m₀ full) in
      let i : stage_call r.stage r (counted_of r) (stamps_of r) tp m₀ ≡ call_as r (stamps_of r) tp m₀ = rw (eq-eqb (length m₀) r.limit full, eq-eqb (length tp) r.size l.whole) refl in
      a ∙ b ∙ d ∙ h ∙ i

  -- and by its words
  left_there : (v : Walk) → Follows (own_of count) start tp m₀ v m → w ≡ words_of (made_of r count Plain v) → Bytes (made_of r count Plain v)
      → (fitb w ≡ true) × (length m ≡ length m₀) × (call_of (receiver_in w) tp m ≡ call_of r tp m₀)
  unfolding call_of
  left_there v f e b =
      let q = made_of r count Plain v in
      let s : Sound r.limit r.size v = rw (full, l.whole) at f.sound in
      let fit : Fit q = record { able = record { size = l.able.size; walk = s; stage = omega arith }; opens = record { size = opens.size; stream = opens.stream; limit = opens.limit }; bytes = b } in
      (ap fitb e ∙ passes q fit, same, ap (λ (x : List ℕ). call_of (receiver_in x) tp m) e ∙ ap (λ (x : Receiver). call_of x tp m) (back_receiver q fit) ∙ unlooked q (stamps_of q) tp m ∙ from_there v f.same)

  answered : (a : Answer) → Ends (length m₀) (stamps_of r).now start tp m₀ a m → Gives (call_of r tp m₀) (tell_of a.gain (counted_of r) (stamps_of r).now a.walk) tp m
  answered a e = reads_gives r tp l m₀ m w full same start a on e

  -- none
  none_done : (a : Answer) → a.gain ≡ Nothing → Ends (length m₀) (own_of count) start tp m₀ a m → (v : Walk) → v ≡ walk_at 0 a.walk.phase a.walk.began a.walk.kept
      → w ≡ words_of (made_of r count Fresh v) → Bytes (made_of r count Fresh v) → Done r tp m₀ F.Nothing (none_of (start_of (own_of count))) w m
  none_done a g e v q s b =
      let u : Ends (length m₀) (stamps_of r).now start tp m₀ a m = rw counted at e in
      let d = rw g at (answered a u) in
      rw counted (record {
        step = tell_of Nothing (counted_of r) (stamps_of r).now a.walk;
        gives = d;
        bytes = rw (q, counted) at b;
        state = rw (q, counted) at s;
        find = refl;
        about = refl;
      })

  module _ (c e : ℕ) (p : Place) where
    -- a packet
    packet_done : (len end : ℕ) → Ends (length m₀) (own_of count) start tp m₀ (answer_of (between end p None) (Packet c e p len)) m → w ≡ words_of (made_of r count Plain (between_at end))
        → Done r tp m₀ (F.Ordinary c len) (record { repaired = e; at = p }) w m
    unfolding words_of head_words
    packet_done len end x s =
        let u : Ends (length m₀) (stamps_of r).now start tp m₀ (answer_of (between end p None) (Packet c e p len)) m = rw counted at x in
        record {
          step = tell_of (Packet c e p len) (counted_of r) (stamps_of r).now (between end p None);
          gives = answered (answer_of (between end p None) (Packet c e p len)) u;
          bytes = record { phase = omega arith; kept = omega arith };
          state = rw counted at s;
          find = refl;
          about = refl;
        }

    by_course : (o : Course) → CourseAs o (own_of count) start tp m₀ m c e p → w ≡ words_of (left_of o r count c e p) → Bytes (left_of o r count c e p) → SeriesAs (said_by o count c e p) r tp m₀ w m
    by_course (C.Stops at len) x v b = left_there (between at p (kept_by c e p len)) x v b
    by_course (C.Ends len) x v b = none_done (answer_of (between (length tp) p (kept_by c e p len)) Nothing) refl x (between 0 p (kept_by c e p len)) refl v b
    by_course (C.Cut h from left len) x v b =
        none_done (cut_at (own_of count) tp h from left c e p len) refl x (walk_at 0 (Body h left) (place_at (own_of count) from) (kept_by c e p len)) refl v b
    by_course (C.Whole len end) x v b = packet_done len end x v

    pub behind_course : (q : Option Swift) (o : Course) → CourseAs o (own_of count) start tp m₀ m c e p → Leaves q o r count c e p w → SeriesAs q r tp m₀ w m
    behind_course q o x y = subst (λ (s : Option Swift). SeriesAs s r tp m₀ w m) (sym y.said) (by_course o x y.words y.bytes)

-- what a call comes to from y, it comes to from x
course_from : (t : Stamp) (x y : Walk) (tp m₀ m₁ m : List ℕ) (c e : ℕ) (p : Place) → length m₁ ≡ length m₀ → pull_of (length m₀) t y tp m₁ ≡ pull_of (length m₀) t x tp m₀ → (o : Course)
    → CourseAs o t y tp m₁ m c e p → CourseAs o t x tp m₀ m c e p
course_from t x y tp m₀ m₁ m c e p same s (C.Stops at len) d = record { same = (rw same at d.same) ∙ s; sound = rw same at d.sound }
course_from t x y tp m₀ m₁ m c e p same s (C.Ends len) d = follow_ends t x y tp m₀ m₁ m (answer_of (between (length tp) p (kept_by c e p len)) Nothing) s (rw same at d)
course_from t x y tp m₀ m₁ m c e p same s (C.Cut h from left len) d = follow_ends t x y tp m₀ m₁ m (cut_at t tp h from left c e p len) s (rw same at d)
course_from t x y tp m₀ m₁ m c e p same s (C.Whole len end) d = follow_ends t x y tp m₀ m₁ m (answer_of (between end p None) (Packet c e p len)) s (rw same at d)

-- ---- the call on words

pub words_by : (ws tp m : List ℕ) → fitb ws ≡ true → length tp ≡ get_or ws 0 0 → length m ≡ get_or ws 2 0 → LentBy ws tp m
unfolding receiver_in
words_by ws tp m f a b = (record { able = (fits ws f).able; whole = a }, b)

-- by the answers
pub chain_as : (x : Option Chain) (r : Receiver) (tp m₀ m : List ℕ) (q : Chain) → ChainAs x r tp m₀ m → x ≡ Some q → ChainAs (Some q) r tp m₀ m
chain_as x r tp m₀ m q d e = subst (λ (y : Option Chain). ChainAs y r tp m₀ m) e d

pub leaves_by : (q : Option Swift) (o x : Course) (r : Receiver) (count c e : ℕ) (p : Place) (w : List ℕ) → o ≡ x → Leaves q x r count c e p w → Leaves q o r count c e p w
leaves_by q o x r count c e p w i y = subst (λ (z : Course). Leaves q z r count c e p w) (sym i) y

pub busy_by : (r q : Receiver) → q ≡ r → (h : Header) (left c e : ℕ) (p : Place) (len : ℕ) → q.stage ≡ Fresh → q.walk.phase ≡ Body h left → q.walk.kept ≡ kept_by c e p len → Busy r h left c e p len
busy_by r q i h left c e p len s f k = subst (λ (x : Receiver). Busy x h left c e p len) i (record { stage = s; phase = f; kept = k })

pub within_tp : (r : Receiver) (tp : List ℕ) (stream n : ℕ) → Lent r tp → I.Behind stream tp n → 4 + n ≤ length tp
within_tp r tp stream n l d = let size = l.able.size in let whole = l.whole in behind_in d.offset 4 (length tp) n (omega arith) d.place

module _ (ws tp m₀ : List ℕ) (f : fitb ws ≡ true) where
  pub serially : (m₁ m w : List ℕ) → LentBy ws tp m₀ → length m₁ ≡ length m₀ → length m ≡ length m₀ → (at c e : ℕ) (p : Place) (len count : ℕ) (h : Header) (from left : ℕ)
      → Chained (receiver_in ws) tp m₀ m₁ at c e p len count h from left → (o : Course) → Runs o tp at c len h from left m₁ m → (r : Receiver) → r ≡ receiver_in ws → (q : Option Swift)
      → Leaves q o r count c e p w → SeriesAs q (receiver_in ws) tp m₀ w m
  serially m₁ m w l same₁ same at c e p len count h from left d o x r i q y =
      behind_course (receiver_in ws) tp l.0 m₀ m w l.1 same (fits ws f).opens d.start count d.counted d.leads c e p q o (go (dec_le left 0)) (subst (λ (z : Receiver). Leaves q o z count c e p w) i y)
    where
      go : Dec (left ≤ 0) → CourseAs o (own_of count) d.start tp m₀ m c e p
      go (yes a) =
          let z : left ≡ 0 = omega (arith, a) in
          course_from (own_of count) d.start (between at p (kept_by c e p len)) tp m₀ m₁ m c e p same₁ (d.whole z) o (x.whole z (own_of count) e p d.most)
      go (no a) =
          let z : 0 < left = omega (arith, a) in
          let u = x.cut z in
          subst (λ (z : Course). CourseAs z (own_of count) d.start tp m₀ m c e p) (sym u.0) (subst (λ (n : List ℕ). Ends (length m₀) (own_of count) d.start tp m₀ (cut_at (own_of count) tp h from left c e p len) n) (sym u.1) (d.cut z))

  -- ---- at once, or in a series
  module _ (x : Option Swift) (u m₁ : List ℕ) (s : SwiftAs x (receiver_in ws) ws tp m₀ u m₁) where
    pub at_once : (q : Swift) → x ≡ Some q → SeriesAs (Some q) (receiver_in ws) tp m₀ u m₁
    at_once q e = subst (λ (z : Option Swift). SwiftAs z (receiver_in ws) ws tp m₀ u m₁) e s

    untouched : x ≡ None → (u ≡ ws) × (m₁ ≡ m₀)
    untouched e = subst (λ (z : Option Swift). SwiftAs z (receiver_in ws) ws tp m₀ u m₁) e s

    pub still_fit : x ≡ None → fitb u ≡ true
    still_fit e = ap fitb (untouched e).0 ∙ f

    pub in_series : x ≡ None → (q : Option Swift) (v m : List ℕ) → SeriesAs q (receiver_in u) tp m₁ v m → SeriesAs q (receiver_in ws) tp m₀ v m
    in_series e q v m d =
        let y = untouched e in
        subst (λ (n : List ℕ). SeriesAs q (receiver_in ws) tp n v m) y.1 (subst (λ (z : List ℕ). SeriesAs q (receiver_in z) tp m₁ v m) y.0 d)
