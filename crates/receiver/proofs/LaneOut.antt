-- A lane before ordinary bytes: where the forecast agrees, the call that sets about them is one among ordinary bytes, and what that
-- comes to. Assumes nothing.
use mathlib.Core.Path.{◌≡◌, refl, sym, subst, ap, ◌∙◌}
use mathlib.Core.Bool.{Bool, true, false, cond}
use mathlib.Core.List.{List}
use Prim.Native.Nat.{ℕ, ◌+◌, ◌-◌, ◌≤◌, ◌<◌, min}
use native.Mathlib.Omega.{arith}
use lib.Dec.{eqb, leb, ltb}
use lib.ListN.{drop, length, length-drop, take}
use borrow.Author.Tests.{eq-eqb, le-ltb, lt-ltb, ne_eqb}
use Rattle.std.specs.Prelude.{Err, Ok, Result, None, Option, Some}
use Rattle.digits.specs.Digits.{number}
use Rattle.queue.specs.Ring.{copied}
use Rattle.wire.specs.Reading.{header_in}
use Rattle.wire.specs.declared.Header.{Header}
use Rattle.receiver.specs.declared.Find.TheVariants as F
use Rattle.receiver.specs.declared.Place.{Place}
use Rattle.receiver.specs.declared.Receiver.{Receiver}
use Rattle.receiver.specs.declared.Stage.{Stage}
use Rattle.receiver.specs.declared.Stage.TheVariants.{Due, Plain}
use Rattle.receiver.specs.declared.Stamp.{Stamp}
use Rattle.receiver.specs.declared.lane.Lane.{Lane}
use Rattle.receiver.specs.declared.lane.Lane.TheVariants as L
use Rattle.receiver.specs.declared.lane.Met.{Met}
use Rattle.receiver.specs.declared.lane.Met.TheVariants as M
use Rattle.receiver.specs.declared.outset.Fore.TheVariants.{At, Off}
use Rattle.receiver.specs.declared.stages.Course.TheVariants as C
use Rattle.receiver.specs.declared.walk.Answer.{Answer}
use Rattle.receiver.specs.declared.walk.Gain.TheVariants.{Nothing, Packet}
use Rattle.receiver.specs.declared.walk.Phase.{Phase}
use Rattle.receiver.specs.declared.walk.Phase.TheVariants.{Body, Head, Lost}
use Rattle.receiver.specs.declared.walk.Turn.{Turn}
use Rattle.receiver.specs.declared.walk.Turn.TheVariants.{Stop}
use Rattle.receiver.specs.declared.walk.Walk.{Walk}
use Rattle.receiver.specs.Call.{Gave, always, call_as, ordinary_by, ordinary_call}
use Rattle.receiver.specs.InOutset.{ahead_of}
use Rattle.receiver.specs.InLanes.{EntersAs, SetAs, plain_call}
use Rattle.receiver.specs.InStages.{Leads, Lent}
use Rattle.receiver.specs.InStride.{between}
use Rattle.receiver.specs.InSwift.{made_of}
use Rattle.receiver.specs.InWalk.{Carries, Ends, On, room_of}
use Rattle.receiver.specs.Join.{Finding, low, notice, ordinary}
use Rattle.receiver.specs.Lanes.{Drops, Lends, MetAs, OutAs, Tidy, call_by, complete_of, in_lane, walk_in}
use Rattle.receiver.specs.Low.{wire}
use Rattle.receiver.specs.Outset.{fore_of, place_of, set_out_of, upon_of}
use Rattle.receiver.specs.Pieces.{step_of}
use Rattle.receiver.specs.Place.{start_of}
use Rattle.receiver.specs.Pull.{Pulled}
use Rattle.receiver.specs.State.{Sound, pull_of, kept_by}
use Rattle.receiver.specs.Turns.{advance_of, body_turn, header_turn, opened_of, stops, walk_at}
use Rattle.receiver.proofs.Advancing.{body_cut, body_read}
use Rattle.receiver.proofs.Answering.{call_gives}
use Rattle.receiver.proofs.Bodies.{advance_carries, lost_turned}
use Rattle.receiver.proofs.Foretelling.{ahead_fore, body_fore, good_fore}
use Rattle.receiver.proofs.Gather.{put_is, whole_read}
use Rattle.receiver.proofs.Heading.{Bytes}
use Rattle.receiver.proofs.LaneAhead.{DropsRest, answer_at, drops_rest, ends_busy, ends_cut, ends_lost, gives_packet, plain_is}
use Rattle.receiver.proofs.Parting.{behind_in, due_behind, due_outside, set_reads}
use Rattle.receiver.proofs.SettingOut.{set_agree, set_by}
use Rattle.receiver.proofs.Standing.{complete_kind, fill_kind, fill_opened}
use Rattle.receiver.proofs.Striding.{began_free, then_on}

-- ---- setting about ordinary bytes

-- a call among them looks at the settings only
pub settings_only : (b : Receiver) (k : ℕ) (s s' : Stage) (w w' : Walk) (t : Stamp) (p : Pulled wire) → ordinary_call (made_of b k s w) t p ≡ ordinary_call (made_of b k s' w') t p
settings_only b k s s' w w' t p = by p.find
  where
    by : (f : Option (Finding wire)) → ordinary_by f (made_of b k s w) t p ≡ ordinary_by f (made_of b k s' w') t p
    by None = refl
    by (Some (notice i g)) = refl
    by (Some (low x d)) = refl
    by (Some (ordinary x d)) = refl

-- 10, 21: the rest of the TP is dropped
outside_drops : (o at len n : ℕ) → place_of o at len ≡ Err n → DropsRest n 4
unfolding place_of
outside_drops o at len n e = by (eqb o 2047) (leb len (o + 4)) (ltb (o + 4) at) e
  where
    by : (x y z : Bool) → cond {A = Result ℕ ℕ} x (Ok (len - at)) (cond y (Err 10) (cond z (Err 21) (Ok (o + 4 - at)))) ≡ Err n → DropsRest n 4
    by true y z e = let q : ◌≡◌ {A = ℕ} 0 1 = cc in absurd (omega arith)
    by false true z e = let q : 10 ≡ n = cc in subst (λ (i : ℕ). DropsRest i 4) q (omega arith, refl, refl)
    by false false true e = let q : 21 ≡ n = cc in subst (λ (i : ℕ). DropsRest i 4) q (omega arith, refl, refl)
    by false false false e = let q : ◌≡◌ {A = ℕ} 0 1 = cc in absurd (omega arith)

outside_plain : (o at len n : ℕ) → place_of o at len ≡ Err n → eqb n 11 ≡ false
unfolding place_of
outside_plain o at len n e = by (eqb o 2047) (leb len (o + 4)) (ltb (o + 4) at) e
  where
    by : (x y z : Bool) → cond {A = Result ℕ ℕ} x (Ok (len - at)) (cond y (Err 10) (cond z (Err 21) (Ok (o + 4 - at)))) ≡ Err n → eqb n 11 ≡ false
    by true y z e = let q : ◌≡◌ {A = ℕ} 0 1 = cc in absurd (omega arith)
    by false true z e = let q : 10 ≡ n = cc in subst (λ (i : ℕ). eqb i 11 ≡ false) q refl
    by false false true e = let q : 21 ≡ n = cc in subst (λ (i : ℕ). eqb i 11 ≡ false) q refl
    by false false false e = let q : ◌≡◌ {A = ℕ} 0 1 = cc in absurd (omega arith)

module _ (b : Receiver) (k : ℕ) (t : Stamp) (o n : ℕ) (tp m : List ℕ) (w : Walk) (d : Lends b w.at tp m) (l : Lent (made_of b k (Due o) w) w.at tp) where
  abbrev c : Receiver
  c = made_of b k (Due o) w

  out_drops : place_of o w.at (length tp) ≡ Err n → Drops b k t n (call_by t c tp m) tp m
  out_drops e =
      let q = step_of c Plain (length tp) Lost None (F.Notice n) (start_of t) in
      drops_rest b k t w.at tp m d (Due o) w (call_by t c tp m) n 4 (outside_drops o w.at (length tp) n e)
      (call_gives c (always t) tp m (C.Gives q) q d.full d.whole (due_outside c t o w.at tp l n e) refl)

  -- reading goes on with x
  abbrev ReadsOn : Walk → Type 0
  ReadsOn x = ordinary_call c t (pull_of (length m) t x tp m) ≡ call_by t c tp m

  out_reads : (x : Walk) → place_of o w.at (length tp) ≡ Ok n → Ok x ≡ set_out_of w n tp → ReadsOn x
  unfolding Leads call_as
  out_reads x e s =
      let within = behind_in o w.at (length tp) n d.within e in
      let u = due_behind c t o w.at tp l (C.Reads x) n e (set_reads c t w.at n tp (Ok x) l x within s refl) in
      rw (eq-eqb (length m) b.limit d.full, eq-eqb (length tp) b.size d.whole) (u.same m d.full)

  out_agree : place_of o w.at (length tp) ≡ Ok n → fore_of w.phase (drop w.at tp) ≡ At n → ReadsOn w
  out_agree e f = out_reads w e (set_agree w n tp n f refl)

  -- as a call there would
  out_plain : (x : Walk) → ReadsOn x → plain_call b k t x tp m ≡ call_by t c tp m
  out_plain x e = sym (plain_is b k t w.at tp m d x) ∙ settings_only b k Plain (Due o) x w t (pull_of (length m) t x tp m) ∙ e

-- ---- a lane is as calls leave it

lane_lent : (b : Receiver) (k o at : ℕ) (l : Lane) (tp m : List ℕ) → Lends b at tp m → 4 ≤ at → Tidy (length m) l → Lent (in_lane b k l (Due o) at) at tp
lane_lent b k o at L.Other tp m d p y = absurd (omega arith)
lane_lent b k o at L.Lost tp m d p y =
    record { size = d.size; whole = d.whole; payload = p; walk = record { at = omega (arith, d.whole, d.within); phase = omega arith }; settled = omega arith }
lane_lent b k o at L.Idle tp m d p y =
    record {
      size = d.size;
      whole = d.whole;
      payload = p;
      walk = record { at = omega (arith, d.whole, d.within); phase = (omega arith, omega arith, omega arith) };
      settled = (omega arith, omega arith);
    }
lane_lent b k o at (L.Cut g n w) tp m d p y =
    record {
      size = d.size;
      whole = d.whole;
      payload = p;
      walk = record { at = omega (arith, d.whole, d.within); phase = (y.1, y.2, omega arith) };
      settled = (y.1, y.2);
    }
lane_lent b k o at (L.Busy g left len c e) tp m d p y =
    record {
      size = d.size;
      whole = d.whole;
      payload = p;
      walk = record { at = omega (arith, d.whole, d.within); phase = omega (arith, d.full, y.1) };
      settled = y.0;
    }

-- ---- past the payload, or before the low-latency part's end

pub out_outside : (l : Lane) (o at n : ℕ) (tp m : List ℕ) → Tidy (length m) l → Err n ≡ place_of o at (length tp) → OutAs (M.Drops n) l o at tp m m
out_outside l o at n tp m y e = λ b k t d p small. (refl, by l y b k t d (lane_lent b k o at l tp m d p y), outside_plain o at (length tp) n (sym e))
  where
    by : (l : Lane) → Tidy (length m) l → (b : Receiver) (k : ℕ) (t : Stamp) → Lends b at tp m → Lent (in_lane b k l (Due o) at) at tp
        → Drops b k t n (call_by t (in_lane b k l (Due o) at) tp m) tp m
    by L.Other y b k t d v = absurd (omega arith)
    by L.Lost y b k t d v = out_drops b k t o n tp m (walk_in b.walk.began L.Lost at) d v (sym e)
    by L.Idle y b k t d v = out_drops b k t o n tp m (walk_in b.walk.began L.Idle at) d v (sym e)
    by (L.Cut g i w) y b k t d v = out_drops b k t o n tp m (walk_in b.walk.began (L.Cut g i w) at) d v (sym e)
    by (L.Busy g left len c x) y b k t d v = out_drops b k t o n tp m (walk_in b.walk.began (L.Busy g left len c x) at) d v (sym e)

-- ---- behind it, in a lane

pub tidy_as : (cap : ℕ) (l l' : Lane) → l ≡ l' → Tidy cap l → Tidy cap l'
tidy_as cap l l' e y = subst (Tidy cap) e y

module _ (n at : ℕ) (tp m : List ℕ) where
  pub lane_as : (q : Met) (l l' : Lane) (m' : List ℕ) → l ≡ l' → SetAs q l' n at tp m m' → SetAs q l n at tp m m'
  lane_as q l l' m' e s = subst (λ (x : Lane). SetAs q x n at tp m m') (sym e) s

  -- out of step there is no forecast
  module _ (b : Receiver) (k : ℕ) (t : Stamp) (o : ℕ) (d : Lends b at tp m) (p : 4 ≤ at) (e : place_of o at (length tp) ≡ Ok n) where
    abbrev lost : Walk
    lost = walk_in b.walk.began L.Lost at

    lent : Lent (in_lane b k L.Lost (Due o) at) at tp
    lent = lane_lent b k o at L.Lost tp m d p (omega arith)

    lost_on : (q : Phase) → upon_of (at + n) (length tp) ≡ q → ReadsOn b k t o n tp m lost d lent (walk_at (at + n) q b.walk.began None)
    unfolding fore_of
    lost_on q u =
        let s = set_by lost n tp Off refl in
        let x = subst (λ (y : Phase). Ok (walk_at (at + n) y b.walk.began None) ≡ set_out_of lost n tp) u s in
        out_reads b k t o n tp m lost d lent (walk_at (at + n) q b.walk.began None) e x

  pub lost_reads : at + n < length tp → SetAs (M.Reads (at + n)) L.Lost n at tp m m
  unfolding upon_of
  lost_reads l = λ b k t o d p small e.
      let u : upon_of (at + n) (length tp) ≡ Head 0 0 = rw (lt-ltb (at + n) (length tp) l) in
      (refl, omega (arith, l), out_plain b k t o n tp m (lost b k t o d p e) d (lent b k t o d p e) _ (lost_on b k t o d p e (Head 0 0) u))

  pub lost_stays : at + n ≤ length tp → length tp ≤ at + n → SetAs (M.Ends L.Lost) L.Lost n at tp m m
  unfolding upon_of Carries
  lost_stays i l = λ b k t o d p small e.
      let u : upon_of (at + n) (length tp) ≡ Lost = rw (le-ltb (at + n) (length tp) l) in
      let x = walk_at (at + n) Lost b.walk.began None in
      let h : Ends (length m) t x tp m (answer_at (length tp) Lost b.walk.began Nothing) m = lost_turned (length m) t tp m x (record { at = i; phase = omega arith }) refl in
      ends_lost b k t at tp m m d refl (Due o) (lost b k t o d p e) x _ (lost_on b k t o d p e Lost u) (length tp) b.walk.began h

  pub idle_reads : n ≡ 0 → SetAs (M.Reads at) L.Idle n at tp m m
  unfolding ahead_of
  idle_reads z = λ b k t o d p small e.
      let f : fore_of (Head 0 0) (drop at tp) ≡ At 0 = sym (ahead_fore tp at 0 0 d.within (omega arith) (omega arith)) in
      let w = walk_in b.walk.began L.Idle at in
      let v = lane_lent b k o at L.Idle tp m d p (omega arith) in
      (refl, d.within, out_plain b k t o n tp m w d v w (out_agree b k t o n tp m w d v e (f ∙ ap At (sym z))))

-- ---- in data that are kept

module _ (g : Place) (left len c e n at : ℕ) (tp m m' : List ℕ) (y : Tidy (length m) (L.Busy g left len c e)) (bytes : Bytes tp) (within : at + n ≤ length tp)
    (least : min left (length tp - at) ≡ n) (put : m' ≡ copied m len (take (at + n - at) (drop at tp))) (same : length m' ≡ length m) where
  abbrev h : Header
  h = complete_of c (len + left) e

  abbrev w : Walk
  w = walk_at at (Body h left) g (kept_by c e g len)

  busy_on : (b : Receiver) (k : ℕ) (t : Stamp) (o : ℕ) → Lends b at tp m → 4 ≤ at → place_of o at (length tp) ≡ Ok n
      → ordinary_call (made_of b k (Due o) w) t (pull_of (length m) t w tp m) ≡ call_by t (made_of b k (Due o) w) tp m
  busy_on b k t o d p q =
      let f = body_fore h left (length tp - at) (drop at tp) (length-drop at tp) in
      out_agree b k t o n tp m w d (lane_lent b k o at (L.Busy g left len c e) tp m d p y) q (sym f ∙ ap At least)

  carries : (t : Stamp) → Carries (length m) t w tp m (body_turn tp at h left g (kept_by c e g len)) m'
  unfolding advance_of room_of
  carries t =
      let p = put_is tp at n c e g len (kept_by c e g len) m m' refl within (omega (arith, least, y.1)) put in
      rw (p, sym least) (advance_carries (length m) t tp m refl bytes w (record { at = omega (arith, within); phase = y.1 }))

  stops_at : (t : Stamp) (a : Answer) → Stop a ≡ body_turn tp at h left g (kept_by c e g len) → Ends (length m) t w tp m a m'
  unfolding Carries
  stops_at t a q = subst (λ (r : Turn). Carries (length m) t w tp m r m') (sym q) (carries t)

  pub busy_ends : length tp - at < left → SetAs (M.Ends (L.Busy g (left - n) (len + n) c e)) (L.Busy g left len c e) n at tp m m'
  busy_ends f = λ b k t o d p small q.
      let z : len + left ≡ len + n + (left - n) = omega (arith, least) in
      ends_busy b k t at tp m m' d same (Due o) w w _ (busy_on b k t o d p q) (at + n) g h (left - n) (len + n) c e
      (ap (λ (i : ℕ). complete_of c i e) z) (omega (arith, least, f)) y.2 y.3 (stops_at t _ cut)
    where
      cut : stops (at + n) (Body h (left - n)) g (kept_by c e g (len + n)) Nothing ≡ body_turn tp at h left g (kept_by c e g len)
      cut =
          let z : length tp - at ≡ n = omega (arith, least, f) in
          subst (λ (i : ℕ). stops (at + i) (Body h (left - i)) g (kept_by c e g (len + i)) Nothing ≡ body_turn tp at h left g (kept_by c e g len)) z (body_cut tp at left h g (kept_by c e g len) f)

  pub busy_gives : left ≤ length tp - at → SetAs (M.Gives c e g (len + n) (at + n)) (L.Busy g left len c e) n at tp m m'
  busy_gives f = λ b k t o d p small q.
      gives_packet b k t at tp m m' d same (Due o) w w _ (busy_on b k t o d p q) (at + n) g c e g (len + n) (stops_at t _ read)
    where
      read : stops (at + n) (Head 0 0) g None (Packet c e g (len + n)) ≡ body_turn tp at h left g (kept_by c e g len)
      read =
          let z : left ≡ n = omega (arith, least, f) in
          let k = complete_kind h y.2 y.3 refl in
          let x : stops (at + left) (Head 0 0) g None (Packet c e g (len + left)) ≡ body_turn tp at h left g (kept_by c e g len) = rw k at (body_read tp at left h g (kept_by c e g len) f) in
          subst (λ (i : ℕ). stops (at + i) (Head 0 0) g None (Packet c e g (len + i)) ≡ body_turn tp at h left g (kept_by c e g len)) z x

-- ---- in a header

pub read_of_lem : (have word at : ℕ) (tp : List ℕ) (w : ℕ) (r : Option Header) (h : Header) → w ≡ number word (take (6 - have) (drop at tp)) → r ≡ header_in w → r ≡ Some h
    → header_in (number word (take (6 - have) (drop at tp))) ≡ Some h
read_of_lem have word at tp w r h e f g = ap (λ (y : ℕ). header_in y) (sym e) ∙ sym f ∙ g

pub least_of : (a i j n : ℕ) → i ≡ j → a + i ≡ n → a + j ≡ n
least_of a i j n e f = ap (◌+◌ a) (sym e) ∙ f

module _ (g : Place) (have word n at : ℕ) (tp m : List ℕ) (y : Tidy (length m) (L.Cut g have word)) (bytes : Bytes tp) (within : at ≤ length tp) where
  abbrev cut : Walk
  cut = walk_at at (Head have word) g None

  begun : eqb have 0 ≡ false
  begun = ne_eqb have 0 (λ (e : have ≡ 0). omega (arith, e, y.0))

  lent_cut : (b : Receiver) (k o : ℕ) → Lends b at tp m → 4 ≤ at → Lent (made_of b k (Due o) cut) at tp
  lent_cut b k o d p = lane_lent b k o at (L.Cut g have word) tp m d p y

  cut_on : (b : Receiver) (k : ℕ) (t : Stamp) (o : ℕ) → Lends b at tp m → 4 ≤ at → place_of o at (length tp) ≡ Ok n → At n ≡ ahead_of tp at have word
      → ordinary_call (made_of b k (Due o) cut) t (pull_of (length m) t cut tp m) ≡ call_by t (made_of b k (Due o) cut) tp m
  cut_on b k t o d p q f =
      let u = ahead_fore tp at have word within y.1 y.2 in
      out_agree b k t o n tp m cut d (lent_cut b k o d p) q (sym (f ∙ u))

  cut_carries : (t : Stamp) → Carries (length m) t cut tp m (header_turn tp at have word g None (length m)) m
  unfolding advance_of room_of
  cut_carries t =
      let s : Sound (length m) (length tp) cut = record { at = within; phase = (y.1, y.2, omega arith) } in
      rw begun at (advance_carries (length m) t tp m refl bytes cut s)

  -- which the TP's end cuts again
  pub cut_ends : (x : ℕ) → length tp - at < 6 - have → n ≡ length tp - at → x ≡ number word (take (length tp - at) (drop at tp))
      → SetAs (M.Ends (L.Cut g (have + (length tp - at)) x)) (L.Cut g have word) n at tp m m
  unfolding Carries header_turn ahead_of
  cut_ends x f z q = λ b k t o d p small e.
      let r = length tp - at in
      let short = lt-ltb r (6 - have) f in
      let u : Ends (length m) t cut tp m (answer_at (at + r) (Head (have + r) (number word (take r (drop at tp)))) g Nothing) m = rw short at (cut_carries t) in
      let fore : At n ≡ ahead_of tp at have word = rw (begun, short) (ap At z) in
      rw q (ends_cut b k t at tp m m d refl (Due o) cut cut _ (cut_on b k t o d p e fore) (at + r) g (have + r) _ (omega (arith, y.0)) u)

  -- which is whole
  module _ (h : Header) (long : 6 - have ≤ length tp - at) (read : header_in (number word (take (6 - have) (drop at tp))) ≡ Some h)
      (least : 6 - have + min h.size (length tp - at - (6 - have)) ≡ n) where
    abbrev there : ℕ
    there = at + (6 - have)

    whole_fore : At n ≡ ahead_of tp at have word
    unfolding ahead_of
    whole_fore =
        let u = good_fore (6 - have) (length tp - at) h (header_in (number word (take (6 - have) (drop at tp)))) read in
        rw (begun, le-ltb (length tp - at) (6 - have) long) (ap At (sym least) ∙ u)

    cut_opened : (t : Stamp) → Carries (length m) t cut tp m (opened_of there h g None (length m)) m
    unfolding header_turn
    cut_opened t =
        let c = rw (le-ltb (length tp - at) (6 - have) long) at (cut_carries t) in
        subst (λ (r : Turn). Carries (length m) t cut tp m r m) (sym (whole_read there g None (length m) h (header_in (number word (take (6 - have) (drop at tp)))) read)) c

    -- that of a complete EP
    pub cut_enters : (q : Met) (m' : List ℕ) → EntersAs q h g there tp m m' → SetAs q (L.Cut g have word) n at tp m m'
    cut_enters q m' en = λ b k t o d p small e.
        let i : Lends b there tp m = record { size = d.size; whole = d.whole; full = d.full; within = omega (arith, within, long) } in
        let same = out_plain b k t o n tp m cut d (lent_cut b k o d p) cut (cut_on b k t o d p e whole_fore) in
        subst (λ (y : Gave). MetAs q b k t y tp m m') same (en b k t cut i (cut_opened t))

    -- that of fill
    fill_on : (t : Stamp) → h.content ≡ 0 → h.size ≤ length tp - at - (6 - have) → On (length m) t cut tp m (between (there + h.size) g None) m
    unfolding Carries advance_of room_of
    fill_on t z f =
        let x = walk_at there (Body h h.size) g None in
        let v : On (length m) t cut tp m x m = subst (λ (r : Turn). Carries (length m) t cut tp m r m) (fill_opened there h g (length m) (fill_kind h z)) (cut_opened t) in
        let s = advance_carries (length m) t tp m refl bytes x v.sound in
        let l = rw (fill_kind h z) at (body_read tp there h.size h g None (omega (arith, f))) in
        let u : On (length m) t x tp m (between (there + h.size) g None) m = subst (λ (r : Turn). Carries (length m) t x tp m r m) (sym l) s in
        then_on (length m) t tp cut x (between (there + h.size) g None) m m m v u

    pub cut_fill_lem : h.content ≡ 0 → h.size ≤ length tp - at - (6 - have) → SetAs (M.Reads (there + h.size)) (L.Cut g have word) n at tp m m
    cut_fill_lem z f = λ b k t o d p small e.
        let u = fill_on t z f in
        let x = between (there + h.size) b.walk.began None in
        let free = began_free (length m) t tp (there + h.size) b.walk.began g None m in
        let on = ap (ordinary_call (made_of b k (Due o) cut) t) (free ∙ u.same) ∙ cut_on b k t o d p e whole_fore in
        (refl, u.sound.at, out_plain b k t o n tp m cut d (lent_cut b k o d p) x on)
