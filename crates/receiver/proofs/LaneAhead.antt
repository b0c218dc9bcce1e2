-- What a call among ordinary bytes comes to, in lanes: the TP's end in a lane, a packet, or a loss of step; and what stands between two EPs.
-- Assumes nothing.
use mathlib.Core.Path.{◌≡◌, refl, sym, subst, ap, ◌∙◌}
use mathlib.Core.Bool.{Bool, cond, false, true}
use mathlib.Core.List.{List}
use Prim.Native.Nat.{ℕ, ◌+◌, ◌-◌, ◌≤◌, ◌<◌, min}
use native.Mathlib.Omega.{arith}
use lib.ListN.{drop, length, take}
use lib.Dec.{eqb, leb}
use borrow.Author.Tests.{eq-eqb, le-ltb, leb-true, lt-ltb}
use Rattle.std.specs.Prelude.{None, Option, Some}
use Rattle.digits.specs.Digits.{number}
use Rattle.queue.specs.Ring.{copied}
use Rattle.wire.specs.Reading.{header_in, intact_in}
use Rattle.wire.specs.declared.Header.{Header}
use Rattle.receiver.specs.declared.Find.TheVariants as F
use Rattle.receiver.specs.declared.Place.{Place}
use Rattle.receiver.specs.declared.Receiver.{Receiver}
use Rattle.receiver.specs.declared.Stage.{Stage}
use Rattle.receiver.specs.declared.Stage.TheVariants.{Fresh, Plain}
use Rattle.receiver.specs.declared.Stamp.{Stamp}
use Rattle.receiver.specs.declared.lane.Lane.TheVariants as L
use Rattle.receiver.specs.declared.lane.Met.{Met}
use Rattle.receiver.specs.declared.lane.Met.TheVariants as M
use Rattle.receiver.specs.declared.walk.Answer.{Answer}
use Rattle.receiver.specs.declared.walk.Gain.{Gain}
use Rattle.receiver.specs.declared.walk.Gain.TheVariants.{Nothing, Notice, Packet}
use Rattle.receiver.specs.declared.walk.Phase.{Phase}
use Rattle.receiver.specs.declared.walk.Phase.TheVariants.{Body, Head, Lost}
use Rattle.receiver.specs.declared.walk.Turn.{Turn}
use Rattle.receiver.specs.declared.walk.Walk.{Walk}
use Rattle.receiver.specs.Call.{Gave, Gives, call_as, ordinary_call, stepped}
use Rattle.receiver.specs.InLanes.{EntersAs, FitsIf, plain_call}
use Rattle.receiver.specs.InStride.{Skips, Strides, between}
use Rattle.receiver.specs.InSwift.{made_of}
use Rattle.receiver.specs.InWalk.{Carries, Ends, On, room_of}
use Rattle.receiver.specs.Lanes.{AheadAs, Drops, Lends, LossAt, MetAs, complete_of, ends_in, in_lane, step_to}
use Rattle.receiver.specs.Pieces.{none_of, step_of, tell_of}
use Rattle.receiver.specs.Place.{place_at}
use Rattle.receiver.specs.State.{Sound, pull_of, kept_by}
use Rattle.receiver.specs.Turns.{advance_of, body_turn, header_turn, opened_of, walk_at, whole_of}
use Rattle.wire.proofs.Answers.{intact-is}
use Rattle.receiver.proofs.Bodies.{advance_carries, lost_turned, room_length}
use Rattle.receiver.proofs.Calling.{pull_of_none, tell_gives}
use Rattle.receiver.proofs.Gather.{beyond_read, whole_read}
use Rattle.receiver.proofs.Heading.{Bytes}
use Rattle.receiver.proofs.Standing.{complete_kind, complete_opened, taken_cut, taken_put, taken_whole}
use Rattle.receiver.proofs.Striding.{free_on, reach_carries, then_carries}

-- ---- what a call comes to that reads on with w from the room's bytes m to those of m': v and s are the walk and the stage that it was made in

abbrev pub answer_at : ℕ → Phase → Place → Gain → Answer
answer_at at p g x = record { walk = walk_at at p g None; gain = x }

module _ (b : Receiver) (k : ℕ) (t : Stamp) (at : ℕ) (tp m m' : List ℕ) (l : Lends b at tp m) (same : length m' ≡ length m) (s : Stage) (v w : Walk) (g : Gave)
    (e : ordinary_call (made_of b k s v) t (pull_of (length m) t w tp m) ≡ g) where
  pub call_tells : (a : Answer) → Ends (length m) t w tp m a m' → Gives g (tell_of a.gain (made_of b k s v) t a.walk) tp m'
  call_tells a d =
      subst (λ (z : Gave). Gives z (tell_of a.gain (made_of b k s v) t a.walk) tp m') e
      (tell_gives (made_of b k s v) t tp m' m l.size l.whole l.full a (pull_of (length m) t w tp m) d.same d.sound d.gained (pull_of_none (length m) t w tp m) same)

  -- nobody looks at where the last EP began
  pub ends_lost : (j : ℕ) (p : Place) → Ends (length m) t w tp m (answer_at j Lost p Nothing) m' → MetAs (M.Ends L.Lost) b k t g tp m m'
  unfolding stepped
  ends_lost j p d =
      let q = call_tells (answer_at j Lost p Nothing) d in
      (record { same = q.same; able = record { size = l.size; walk = record { at = omega arith; phase = omega arith }; stage = omega arith } }, omega arith)

  pub ends_idle : (j : ℕ) (p : Place) → Ends (length m) t w tp m (answer_at j (Head 0 0) p Nothing) m' → MetAs (M.Ends L.Idle) b k t g tp m m'
  unfolding stepped
  ends_idle j p d =
      let q = call_tells (answer_at j (Head 0 0) p Nothing) d in
      (record { same = q.same; able = record { size = l.size; walk = record { at = omega arith; phase = (omega arith, omega arith, omega arith) }; stage = (omega arith, omega arith) } }, omega arith)

  pub ends_cut : (j : ℕ) (p : Place) (n x : ℕ) → 1 ≤ n → Ends (length m) t w tp m (answer_at j (Head n x) p Nothing) m' → MetAs (M.Ends (L.Cut p n x)) b k t g tp m m'
  ends_cut j p n x one d =
      let f = d.sound.phase in
      (call_tells (answer_at j (Head n x) p Nothing) d, (one, f.0, f.1))

  pub ends_busy : (j : ℕ) (p : Place) (h : Header) (left len c f : ℕ) → h ≡ complete_of c (len + left) f → 0 < left → 1 ≤ c → c ≤ 6
      → Ends (length m) t w tp m (record { walk = walk_at j (Body h left) p (kept_by c f p len); gain = Nothing }) m' → MetAs (M.Ends (L.Busy p left len c f)) b k t g tp m m'
  ends_busy j p h left len c f q more low high d =
      let u : Ends (length m) t w tp m (record { walk = walk_at j (Body (complete_of c (len + left) f) left) p (kept_by c f p len); gain = Nothing }) m' =
      subst (λ (y : Header). Ends (length m) t w tp m (record { walk = walk_at j (Body y left) p (kept_by c f p len); gain = Nothing }) m') q d in
      let z = d.sound.phase in
      let full = l.full in
      (call_tells (record { walk = walk_at j (Body (complete_of c (len + left) f) left) p (kept_by c f p len); gain = Nothing }) u, (more, omega arith, low, high))

  pub gives_packet : (j : ℕ) (p : Place) (c f : ℕ) (o : Place) (n : ℕ) → Ends (length m) t w tp m (answer_at j (Head 0 0) p (Packet c f o n)) m'
      → MetAs (M.Gives c f o n j) b k t g tp m m'
  unfolding stepped
  gives_packet j p c f o n d =
      let q = call_tells (answer_at j (Head 0 0) p (Packet c f o n)) d in
      let in_tp_lem = d.sound.at in
      let whole = l.whole in
      (record { same = q.same; able = record { size = l.size; walk = record { at = omega arith; phase = (omega arith, omega arith, omega arith) }; stage = omega arith } }, in_tp_lem)

-- among ordinary bytes
pub plain_is : (b : Receiver) (k : ℕ) (t : Stamp) (at : ℕ) (tp m : List ℕ) → Lends b at tp m → (w : Walk)
    → ordinary_call (made_of b k Plain w) t (pull_of (length m) t w tp m) ≡ plain_call b k t w tp m
unfolding call_as
plain_is b k t at tp m l w = rw (eq-eqb (length m) b.limit l.full, eq-eqb (length tp) b.size l.whole) refl

-- out of step nothing more is read
pub lost_call : (b : Receiver) (k : ℕ) (t : Stamp) (at : ℕ) (tp m : List ℕ) → Lends b at tp m → (j : ℕ) (p : Place) → j ≤ length tp
    → Gives (plain_call b k t (walk_at j Lost p None) tp m) (ends_in (in_lane b k L.Lost Fresh 0) t) tp m
unfolding Carries
lost_call b k t at tp m l j p q =
    let w = walk_at j Lost p None in
    let sound : Sound (length m) (length tp) w = record { at = q; phase = omega arith } in
    let d : Ends (length m) t w tp m (answer_at (length tp) Lost p Nothing) m = lost_turned (length m) t tp m w sound refl in
    (ends_lost b k t at tp m m l refl Plain w w (plain_call b k t w tp m) (plain_is b k t at tp m l w) (length tp) p d).0

-- 12 puts out of step behind the header at i, and then none
pub drops : (b : Receiver) (k : ℕ) (t : Stamp) (at : ℕ) (tp m : List ℕ) → Lends b at tp m → (s : Stage) (v w : Walk) (g : Gave)
    → ordinary_call (made_of b k s v) t (pull_of (length m) t w tp m) ≡ g → (i : ℕ) → Ends (length m) t w tp m (answer_at (i + 6) Lost (place_at t i) (Notice 12)) m
    → MetAs (M.Drops 12) b k t g tp m m
unfolding stepped
drops b k t at tp m l s v w g e i d =
    let q = call_tells b k t at tp m m l refl s v w g e (answer_at (i + 6) Lost (place_at t i) (Notice 12)) d in
    let lost = in_lane b k L.Lost Plain (i + 6) in (
      refl,
      record {
        step = step_to lost (F.Notice 12) (none_of (place_at t i));
        gives = record { same = q.same; able = record { size = l.size; walk = record { at = q.able.walk.at; phase = omega arith }; stage = omega arith } };
        find = refl;
        large = omega arith;
        place = i;
        met = omega arith;
        about = refl;
        receiver = refl;
        ends = lost_call b k t at tp m l (i + 6) b.walk.began d.sound.at;
      },
      refl,
    )

-- the others drop the rest of the TP
abbrev pub DropsRest : ℕ → ℕ → Type 0
DropsRest n i = (9 < n) × (eqb n 12 ≡ false) × LossAt n i

pub drops_at : (b : Receiver) (k : ℕ) (t : Stamp) (at : ℕ) (tp m : List ℕ) → Lends b at tp m → (s : Stage) (v : Walk) (g : Gave) (n i : ℕ) → DropsRest n i
    → Gives g (step_of (made_of b k s v) Plain (length tp) Lost None (F.Notice n) (place_at t i)) tp m → (d : Drops b k t n g tp m) × (d.place ≡ i)
unfolding stepped
drops_at b k t at tp m l s v g n i f q =
    let lost = in_lane b k L.Lost Plain (length tp) in (
      record {
        step = step_to lost (F.Notice n) (none_of (place_at t i));
        gives = record { same = q.same; able = record { size = l.size; walk = record { at = q.able.walk.at; phase = omega arith }; stage = omega arith } };
        find = refl;
        large = f.0;
        place = i;
        met = f.2;
        about = refl;
        receiver = ap (λ (x : Bool). in_lane b k L.Lost Plain (cond x (i + 6) (length tp))) (sym f.1);
        ends = lost_call b k t at tp m l (length tp) b.walk.began (omega arith);
      },
      refl,
    )

pub drops_rest : (b : Receiver) (k : ℕ) (t : Stamp) (at : ℕ) (tp m : List ℕ) → Lends b at tp m → (s : Stage) (v : Walk) (g : Gave) (n i : ℕ) → DropsRest n i
    → Gives g (step_of (made_of b k s v) Plain (length tp) Lost None (F.Notice n) (place_at t i)) tp m → Drops b k t n g tp m
drops_rest b k t at tp m l s v g n i f q = (drops_at b k t at tp m l s v g n i f q).0

-- ---- headers

pub fits_if : (h : Header) (most : ℕ) → h.fragment ≡ 0 → 1 ≤ h.content → h.content ≤ 6 → FitsIf (leb h.size most) h most
fits_if h most e low high = go (leb h.size most) refl
  where
    go : (x : Bool) → leb h.size most ≡ x → FitsIf x h most
    go true f = (complete_kind h low high e, leb-true h.size most f, e, low, high)
    go false f = omega arith

pub fits_of_lem : (x : Bool) (h : Header) (most : ℕ) → FitsIf x h most → x ≡ true → FitsIf true h most
fits_of_lem x h most f e = subst (λ (y : Bool). FitsIf y h most) e f

pub complete_is : (h : Header) (size : ℕ) → h.fragment ≡ 0 → h.size ≡ size → h ≡ complete_of h.content size h.flips
complete_is h size e f = with_size h.fragment e ∙ ap (λ (z : ℕ). complete_of h.content z h.flips) f
  where
    with_size : (x : ℕ) → x ≡ 0 → record { content = h.content; fragment = x; size = h.size; flips = h.flips } ≡ complete_of h.content h.size h.flips
    with_size x e = ap (λ (y : ℕ). record { content = h.content; fragment = y; size = h.size; flips = h.flips }) e

-- two intact words say what they hold
pub intact_header : (r : Option Header) (h : Header) (w x : ℕ) → r ≡ intact_in w → r ≡ Some h → w ≡ x → Some h ≡ header_in x
intact_header r h w x a b e = sym (intact-is w h (sym a ∙ b)) ∙ ap (λ (y : ℕ). header_in y) e

-- ---- behind the header of a complete EP

module _ (h : Header) (g : Place) (i n : ℕ) (tp m m' : List ℕ) (bytes : Bytes tp) (within : i ≤ length tp) (fits : FitsIf true h (length m)) (q : n ≡ min h.size (length tp - i))
    (put : m' ≡ copied m 0 (take (i + n - i) (drop i tp))) where
  abbrev opened : Walk
  opened = walk_at i (Body h h.size) g (kept_by h.content h.flips g 0)

  -- the header's turn leads there, and a turn of the data ends it
  opens : (t : Stamp) (w : Walk) → Carries (length m) t w tp m (opened_of i h g None (length m)) m → On (length m) t w tp m opened m
  unfolding Carries
  opens t w c = rw (complete_opened i h g (length m) fits.0 fits.1) at c

  taken : (t : Stamp) (w : Walk) (r : Turn) → r ≡ body_turn tp i h h.size g (kept_by h.content h.flips g 0)
      → Carries (length m) t w tp m (opened_of i h g None (length m)) m → Carries (length m) t w tp m r m' × (length m' ≡ length m)
  unfolding advance_of room_of
  taken t w r e c =
      let o = opens t w c in
      let p = taken_put tp i n h g q m m' within fits.1 put in
      let d = then_carries (length m) t tp w opened _ m m _ o (advance_carries (length m) t tp m refl bytes opened o.sound) in
      (rw (e, p) d, rw p (room_length (length m) opened tp m refl o.sound))

  pub enters_cut : n < h.size → EntersAs (M.Ends (L.Busy g (h.size - n) n h.content h.flips)) h g i tp m m'
  unfolding Carries
  enters_cut less b k t w l c =
      let d = taken t w _ (taken_cut tp i n h g q less) c in
      ends_busy b k t i tp m m' l d.1 Plain w w (plain_call b k t w tp m) (plain_is b k t i tp m l w) (i + n) g h (h.size - n) n h.content h.flips (complete_is h (n + (h.size - n)) fits.2 (omega arith)) (omega arith) fits.3 fits.4 d.0

  pub enters_whole : h.size ≤ n → EntersAs (M.Gives h.content h.flips g h.size (i + n)) h g i tp m m'
  unfolding Carries
  enters_whole all b k t w l c =
      let d = taken t w _ (taken_whole tp i n h g q fits.0 all) c in
      gives_packet b k t i tp m m' l d.1 Plain w w (plain_call b k t w tp m) (plain_is b k t i tp m l w) (i + n) g h.content h.flips g h.size d.0

-- ---- between two EPs, behind fill

module _ (start from : ℕ) (t : Stamp) (tp m : List ℕ) (bytes : Bytes tp) (s : Skips tp start from) where
  headed : (g : Place) → Carries (length m) t (between start g None) tp m (header_turn tp from 0 0 (place_at t from) None (length m)) m
  unfolding Strides advance_of room_of
  headed g =
      let o = free_on (length m) t tp start from g m refl s in
      reach_carries (length m) t tp (between start g None) (between from g None) _ m m m o (advance_carries (length m) t tp m refl bytes (between from g None) o.sound)

  pub cut_ends : (g : Place) (rest : ℕ) → rest ≡ length tp - from → rest < 6
      → Ends (length m) t (between start g None) tp m (answer_at (from + rest) (Head (0 + rest) (number 0 (take rest (drop from tp)))) (place_at t from) Nothing) m
  unfolding Carries header_turn
  cut_ends g rest q few = rw (← q, lt-ltb rest 6 few) at (headed g)

  pub ahead_idle : length tp - from ≡ 0 → AheadAs (M.Ends L.Idle) start t tp m m
  ahead_idle z b k l =
      let w = between start b.walk.began None in
      ends_idle b k t start tp m m l refl Plain w w (plain_call b k t w tp m) (plain_is b k t start tp m l w) (from + 0) (place_at t from) (cut_ends b.walk.began 0 (sym z) (omega arith))

  pub ahead_cut : (rest : ℕ) → rest ≡ length tp - from → 1 ≤ rest → rest < 6 → (p : Place) → p ≡ place_at t from → (x : ℕ) → x ≡ number 0 (take rest (drop from tp))
      → AheadAs (M.Ends (L.Cut p rest x)) start t tp m m
  ahead_cut rest q one few p e x f b k l =
      let w = between start b.walk.began None in
      let z : 0 + rest ≡ rest = omega arith in
      rw (e, f) (ends_cut b k t start tp m m l refl Plain w w (plain_call b k t w tp m) (plain_is b k t start tp m l w) (from + rest) (place_at t from) rest (number 0 (take rest (drop from tp))) one (rw z at (cut_ends b.walk.began rest q few)))

  whole_carries : (g : Place) → 6 ≤ length tp - from
      → Carries (length m) t (between start g None) tp m (whole_of (from + 6) (header_in (number 0 (take 6 (drop from tp)))) (place_at t from) None (length m)) m
  unfolding header_turn
  whole_carries g six = rw (le-ltb (length tp - from) 6 six) at (headed g)

  module _ (six : 6 ≤ length tp - from) (r : Option Header) (e : r ≡ header_in (number 0 (take 6 (drop from tp)))) where
    pub ahead_beyond : r ≡ None → AheadAs (M.Drops 12) start t tp m m
    unfolding Carries
    ahead_beyond f b k l =
        let w = between start b.walk.began None in
        let c = rw (← beyond_read (from + 6) (place_at t from) None (length m) (header_in (number 0 (take 6 (drop from tp)))) (sym e ∙ f)) at (whole_carries b.walk.began six) in
        drops b k t start tp m l Plain w w (plain_call b k t w tp m) (plain_is b k t start tp m l w) from c

    pub ahead_whole : (h : Header) → r ≡ Some h → (p : Place) → p ≡ place_at t from → (q : Met) (m' : List ℕ) → EntersAs q h p (from + 6) tp m m' → AheadAs q start t tp m m'
    ahead_whole h f p z q m' d b k l =
        let w = between start b.walk.began None in
        let c = rw (← whole_read (from + 6) (place_at t from) None (length m) h (header_in (number 0 (take 6 (drop from tp)))) (sym e ∙ f)) at (whole_carries b.walk.began six) in
        let l' : Lends b (from + 6) tp m = record { size = l.size; whole = l.whole; full = l.full; within = omega arith } in
        d b k t w l' (rw z c)
