-- Reading an EP's data and a header on, in runs, and the loop over turns. Assumes nothing.
use mathlib.Core.Path.{ap, refl, sym, ◌∙◌, ◌≡◌}
use mathlib.Core.Bool.{Bool, cond, false, true}
use mathlib.Core.List.{List, [], append-nil, ◌++◌, ◌∷◌}
use Prim.Native.Nat.{suc, zero, ℕ, ◌+◌, ◌-◌, ◌<◌, ◌^◌, ◌≤◌, min}
use native.Mathlib.Omega.{arith}
use lib.Dec.{ltb}
use lib.ListN.{drop, length, length-drop, take, take-append-drop}
use lib.Seq.{drop-drop, get_or-drop, length-paste, length-take-le, sets-eq, take_all, take-paste}
use borrow.Author.Tests.{ltb-false, ltb-true}
use Rattle.std.specs.Prelude.{None, Option, Some}
use Rattle.digits.specs.Digits.{digits, number}
use Rattle.wire.specs.Reading.{header_in, header_of}
use Rattle.wire.specs.declared.Header.{Header}
use Rattle.receiver.specs.declared.walk.Answer.{Answer}
use Rattle.receiver.specs.declared.walk.Gain.TheVariants.{Nothing}
use Rattle.receiver.specs.declared.walk.Kept.{Kept}
use Rattle.receiver.specs.declared.walk.Phase.{Phase}
use Rattle.receiver.specs.declared.walk.Phase.TheVariants.{Body, Head, Judged, Lost}
use Rattle.receiver.specs.declared.walk.Turn.{Turn}
use Rattle.receiver.specs.declared.walk.Turn.TheVariants.{More, Stop}
use Rattle.receiver.specs.declared.walk.Walk.{Walk}
use Rattle.receiver.specs.Frame.{ending, whole, within}
use Rattle.receiver.specs.Join.{Held, held}
use Rattle.receiver.specs.Kind.{kind_of}
use Rattle.receiver.specs.declared.Place.{Place}
use Rattle.receiver.specs.declared.Stamp.{Stamp}
use Rattle.receiver.specs.Place.{place_at, placed}
use Rattle.receiver.specs.Low.{Ep, ep_at, ep_if, tag_of, wire}
use Rattle.receiver.specs.Pull.{dry, meet, pull}
use Rattle.receiver.specs.State.{Fine, Roomy, Sound, headed, held_of, pull_of}
use Rattle.receiver.specs.Turns.{advance_by, advance_of, begun_at, body_turn, finish_of, grown_by, header_turn, stops, walk_at, whole_of}
use Rattle.receiver.specs.InWalk.{Ends, On, Carries, pasted, room_by, room_of, shown}
use Rattle.receiver.proofs.Heading.{Bytes, begun_first, digits_number, first, heads, heads_whole, length_digits, number_append, number_digits, number_small, on_with}
use Rattle.receiver.proofs.Placing.{length_placed, placed_append, plain, plain_placed}
use Rattle.receiver.proofs.Run.{grows, grows_free, grows_held, lost_run, puts, puts_free, puts_held, run}
use Rattle.receiver.proofs.Turning.{admit_turned, finish_by, whole_turned}

-- n bytes into the room
pub kept_held : (cap n : ℕ) (k : Option Kept) (m x : List ℕ) → length m ≡ cap → Roomy cap k n → n ≤ length x
    → held_of (grown_by n k) (pasted k m x n) ≡ grows wire cap (held_of k m) (take n x)
kept_held cap n None m x f r l = sym (grows_free wire cap (take n x))
kept_held cap n (Some k) m x f r l = ap (held (tag_of k.content k.repaired k.began)) (take-paste m k.len x n (omega arith) l) ∙ sym (grows_held wire cap (tag_of k.content k.repaired k.began) (take k.len m) (take n x))

kept_room : (cap n : ℕ) (k : Option Kept) (m x : List ℕ) → length m ≡ cap → Roomy cap k n → n ≤ length x
    → pasted k m x n ≡ puts wire cap (held_of k m) (take n x) m
kept_room cap n None m x f r l = sym (puts_free wire cap (take n x) m)
kept_room cap n (Some k) m x f r l =
    let t = length-take-le n x l in
    let e = sets-eq (take n x) m k.len (omega arith) in
    sym (puts_held wire cap (tag_of k.content k.repaired k.began) k.len (take k.len m) (take n x) m (sym (length-take-le k.len m (omega arith))) ∙ rw t at e)

grown_room : (cap n z : ℕ) (k : Option Kept) → Roomy cap k (n + z) → Roomy cap (grown_by n k) z
grown_room cap n z None r = r
grown_room cap n z (Some k) r = omega arith

pub decoded : (n w : ℕ) (ds : List ℕ) → w < 256 ^ n → header_of (digits n w ++ ds) ≡ header_in (number w ds)
unfolding header_of
decoded n w ds h = ap header_in (number_append 0 (digits n w) ds ∙ ap (λ (x : ℕ). number x ds) (number_digits n w h))

pub fewer : (cap n z : ℕ) (k : Option Kept) → Roomy cap k z → n ≤ z → Roomy cap k n
fewer cap n z None r l = r
fewer cap n z (Some k) r l = omega arith

pasted_length : (cap n : ℕ) (k : Option Kept) (m x : List ℕ) → length m ≡ cap → Roomy cap k n → n ≤ length x → length (pasted k m x n) ≡ cap
pasted_length cap n None m x f r l = f
pasted_length cap n (Some k) m x f r l = length-paste m k.len x n (omega arith) l ∙ f

pub room_length : (cap : ℕ) (w : Walk) (tp m : List ℕ) → length m ≡ cap → Sound cap (length tp) w → length (room_of w tp m) ≡ cap
unfolding room_of
room_length cap w tp m f s = by w.phase s.phase
  where
    by : (p : Phase) → Fine cap p w.kept → length (room_by p w.at w.kept tp m) ≡ cap
    by Lost q = f
    by (Head n x) q = f
    by (Judged h) q = f
    by (Body h left) q =
        pasted_length cap (min left (length tp - w.at)) w.kept m (drop w.at tp) f (fewer cap (min left (length tp - w.at)) left w.kept q (omega arith)) (omega (arith, length-drop w.at tp))

module _ (cap : ℕ) where
  -- in an EP's data at the end of the bytes
  data_ends : (k j : ℕ) (h : Ep) (s : Held wire) (m : List ℕ) → 0 < k
      → pull wire cap (within wire h k) j (meet wire cap s m (ending wire h k)) []
      ≡ record { find = None; at = j; frame = within wire h k; todo = ending wire h k; held = s; room = m }
  data_ends zero j h s m p = absurd (omega arith)
  data_ends (suc k) j h s m p = refl

  module _ (t : Stamp) (tp m : List ℕ) (full : length m ≡ cap) (at left : ℕ) (h : Header) (g : Place) (k : Option Kept) (s : Sound cap (length tp) (walk_at at (Body h left) g k)) where
    body_short : length tp - at < left
        → Carries cap t (walk_at at (Body h left) g k) tp m (stops (at + (length tp - at)) (Body h (left - (length tp - at))) g (grown_by (length tp - at) k) Nothing) (pasted k m (drop at tp) (length tp - at))
    unfolding Carries pull_of shown
    body_short l =
        let r = length tp - at in
        let p = s.at in
        let v : length (drop at tp) ≡ r = length-drop at tp in
        let q : Roomy cap k left = s.phase in
        let q' : Roomy cap k r = fewer cap r left k q (omega arith) in
        let all : take r (drop at tp) ≡ drop at tp = take_all r (drop at tp) (omega arith) in
        let a = kept_held cap r k m (drop at tp) full q' (omega arith) in
        let b = kept_room cap r k m (drop at tp) full q' (omega arith) in
        let ps = placed t at (drop at tp) in
        let u : length ps ≡ r = length_placed t at (drop at tp) ∙ v in
        let x = run wire cap (ep_at g h) (left - r) (at + r) left at (held_of k m) m ps [] (omega arith) (omega arith) in
        let y = data_ends (left - r) (at + r) (ep_at g h) (grows wire cap (held_of k m) (plain wire ps)) (puts wire cap (held_of k m) (plain wire ps) m) (omega arith) in
        let z : pull wire cap (within wire (ep_at g h) left) at (meet wire cap (held_of k m) m (ending wire (ep_at g h) left)) ps
        ≡ record { find = None; at = at + r; frame = within wire (ep_at g h) (left - r); todo = ending wire (ep_at g h) (left - r); held = grows wire cap (held_of k m) (drop at tp); room = puts wire cap (held_of k m) (drop at tp) m } =
        rw (append-nil ps, plain_placed t at (drop at tp)) at (x ∙ y) in
        record {
          same = rw (a, b, all) (sym z);
          sound = record { at = omega arith; phase = grown_room cap r (left - r) k (fewer cap (r + (left - r)) left k q (omega arith)) };
          gained = omega arith;
        }

    body_long : left ≤ length tp - at
        → Carries cap t (walk_at at (Body h left) g k) tp m (finish_of (kind_of h) (at + left) g (grown_by left k)) (pasted k m (drop at tp) left)
    unfolding pull_of
    body_long l =
        let m' = pasted k m (drop at tp) left in
        let k' = grown_by left k in
        let p = s.at in
        let v : length (drop at tp) ≡ length tp - at = length-drop at tp in
        let q : Roomy cap k left = s.phase in
        let ds : List ℕ = take left (drop at tp) in
        let long : length ds ≡ left = length-take-le left (drop at tp) (omega arith) in
        let a = kept_held cap left k m (drop at tp) full q (omega arith) in
        let b = kept_room cap left k m (drop at tp) full q (omega arith) in
        let full' : length m' ≡ cap = pasted_length cap left k m (drop at tp) full q (omega arith) in
        let ps = placed t at ds in
        let u : length ps ≡ left = length_placed t at ds ∙ long in
        let x = run wire cap (ep_at g h) 0 (at + left) left at (held_of k m) m ps (placed t (at + left) (drop left (drop at tp))) (omega arith) (omega arith) in
        let z : placed t at ds ++ placed t (at + left) (drop left (drop at tp)) ≡ placed t at (drop at tp) =
        sym (placed_append t at (at + left) ds (drop left (drop at tp)) (omega arith)) ∙ ap (placed t at) (take-append-drop left (drop at tp)) in
        let y = drop-drop left at tp in
        let e = rw (z, plain_placed t at ds, ← a, ← b, y) at x in
        let q₀ : Roomy cap k (left + 0) = fewer cap (left + 0) left k q (omega arith) in
        let r : Roomy cap k' 0 = grown_room cap left 0 k q₀ in
        finish_by cap t tp m' full' (kind_of h) (walk_at at (Body h left) g k) m (at + left) g k' (omega arith) r (omega arith) (sym e)

  -- out of step nothing is looked at
  pub lost_turned : (t : Stamp) (tp m : List ℕ) (w : Walk) → Sound cap (length tp) w → w.phase ≡ Lost → Carries cap t w tp m (stops (length tp) Lost w.began w.kept Nothing) m
  unfolding Carries pull_of shown
  lost_turned t tp m w s q =
      let p = s.at in
      let v : walk_at w.at Lost w.began w.kept ≡ w = ap (λ (p : Phase). walk_at w.at p w.began w.kept) (sym q) in
      let s' = rw (← v) at s in
      rw (← v) (record {
        same = sym (lost_run wire cap (placed t w.at (drop w.at tp)) w.at (length tp) (held_of w.kept m) m (omega (arith, length-drop w.at tp, length_placed t w.at (drop w.at tp))));
        sound = record { at = omega arith; phase = s'.phase };
        gained = omega arith;
      })

  module _ (t : Stamp) (tp m : List ℕ) (full : length m ≡ cap) (bytes : Bytes tp) where
    header_by : (b : Bool) (at n w : ℕ) (g : Place) (k : Option Kept) → at ≤ length tp → Fine cap (Head n w) k → ltb (length tp - at) (6 - n) ≡ b
        → Carries cap t (walk_at at (Head n w) g k) tp m
        (cond b (stops (at + (length tp - at)) (Head (n + (length tp - at)) (number w (take (length tp - at) (drop at tp)))) (begun_at t at n g) k Nothing)
        (whole_of (at + (6 - n)) (header_in (number w (take (6 - n) (drop at tp)))) (begun_at t at n g) k cap)) m
    unfolding Carries pull_of shown
    header_by true at n w g k l f q =
        let r = length tp - at in
        let u = ltb-true (length tp - at) (6 - n) q in
        let v : length (drop at tp) ≡ r = length-drop at tp in
        let all : take r (drop at tp) ≡ drop at tp = take_all r (drop at tp) (omega arith) in
        let y : Bytes (drop at tp) = (λ i. rw (get_or-drop at tp i 0) (bytes (at + i))) in
        let d = digits_number n (n + r) w (drop at tp) y (omega arith) in
        let small = number_small n (n + r) w (drop at tp) y (omega arith) f.1 in
        let x = heads cap t (held_of k m) m g (digits n w) (drop at tp) [] at (at + r) (omega (arith, length_digits n w)) (omega arith) in
        record {
          same = rw (all, d) (sym (rw (append-nil (drop at tp), begun_first t at n w g) at x));
          sound = record { at = omega arith; phase = rw all (omega arith, small, f.2) };
          gained = omega arith;
        }
    header_by false at n w g k l f q =
        let u = ltb-false (length tp - at) (6 - n) q in
        let v : length (drop at tp) ≡ length tp - at = length-drop at tp in
        let ds : List ℕ = take (6 - n) (drop at tp) in
        let long : length ds ≡ 6 - n = length-take-le (6 - n) (drop at tp) (omega arith) in
        let z : ds ++ drop (6 - n) (drop at tp) ≡ drop at tp = take-append-drop (6 - n) (drop at tp) in
        let y = drop-drop (6 - n) at tp in
        let x = some_heads (digits n w) ds (drop (6 - n) (drop at tp)) at (at + (6 - n)) (omega (arith, length_digits n w)) (omega arith) (omega arith) in
        let e : header_of (digits n w ++ ds) ≡ header_in (number w ds) = decoded n w ds f.1 in
        whole_turned cap t tp m full (walk_at at (Head n w) g k) (at + (6 - n)) (header_in (number w ds)) (begun_at t at n g) k (omega arith) f.2 (omega arith)
        (sym (rw (z, e, y, begun_first t at n w g) at x))
      where
        some_heads : (hs ds bs : List ℕ) (at j : ℕ) → length hs + length ds ≡ 6 → 0 < length ds → j ≡ at + length ds
            → pull wire cap (headed g hs) at (dry (held_of k m) m) (placed t at (ds ++ bs))
            ≡ on_with cap t (held_of k m) m (whole wire (first hs (place_at t at) g) (ep_if (first hs (place_at t at) g) (header_of (hs ++ ds)))) j bs
        some_heads hs [] bs at j l p e = absurd (omega arith)
        some_heads hs (d ∷ ds) bs at j l p e = heads_whole cap t (held_of k m) m g hs d ds bs at j (omega arith) (omega arith)

    header_turned : (w : Walk) (n x : ℕ) → Sound cap (length tp) w → w.phase ≡ Head n x
        → Carries cap t w tp m (header_turn tp w.at n x (begun_at t w.at n w.began) w.kept cap) m
    unfolding header_turn
    header_turned w n x s q =
        let v : walk_at w.at (Head n x) w.began w.kept ≡ w = ap (λ (p : Phase). walk_at w.at p w.began w.kept) (sym q) in
        let s' = rw (← v) at s in
        rw (← v) (header_by (ltb (length tp - w.at) (6 - n)) w.at n x w.began w.kept s'.at s'.phase refl)

    body_turned : (w : Walk) (h : Header) (left : ℕ) → Sound cap (length tp) w → w.phase ≡ Body h left
        → Carries cap t w tp m (body_turn tp w.at h left w.began w.kept) (pasted w.kept m (drop w.at tp) (min left (length tp - w.at)))
    unfolding body_turn
    body_turned w h left s q =
        let v : walk_at w.at (Body h left) w.began w.kept ≡ w = ap (λ (p : Phase). walk_at w.at p w.began w.kept) (sym q) in
        let s' = rw (← v) at s in
        rw (← v) (by (ltb (length tp - w.at) left) refl s')
      where
        by : (b : Bool) → ltb (length tp - w.at) left ≡ b → Sound cap (length tp) (walk_at w.at (Body h left) w.began w.kept)
            → Carries cap t (walk_at w.at (Body h left) w.began w.kept) tp m
            (cond b (stops (w.at + (length tp - w.at)) (Body h (left - (length tp - w.at))) w.began (grown_by (length tp - w.at) w.kept) Nothing)
            (finish_of (kind_of h) (w.at + left) w.began (grown_by left w.kept))) (pasted w.kept m (drop w.at tp) (min left (length tp - w.at)))
        by true e s =
            let l = ltb-true (length tp - w.at) left e in
            let n : min left (length tp - w.at) ≡ length tp - w.at = omega arith in
            rw n (body_short t tp m full w.at left h w.began w.kept s l)
        by false e s =
            let l = ltb-false (length tp - w.at) left e in
            let n : min left (length tp - w.at) ≡ left = omega arith in
            rw n (body_long t tp m full w.at left h w.began w.kept s l)

    -- ONE TURN, whatever room is lent: the call that is still asked for behind it is the one that was asked for
    pub advance_carries : (w : Walk) → Sound cap (length tp) w → Carries cap t w tp m (advance_of cap t w tp) (room_of w tp m)
    unfolding advance_of room_of
    advance_carries w s = by w.phase refl
      where
        by : (p : Phase) → w.phase ≡ p → Carries cap t w tp m (advance_by p t w.at w.began w.kept cap tp) (room_by p w.at w.kept tp m)
        by Lost e = lost_turned t tp m w s e
        by (Head n x) e = header_turned w n x s e
        by (Judged h) e = admit_turned cap t tp m full w h s e
        by (Body h left) e = body_turned w h left s e

-- the loop over turns: from w₀ with the room's bytes m₀ it has come to w and m, and the turn's data are put in
module _ (st : Stamp) (tp m₀ m m' : List ℕ) (w₀ w : Walk) (r : Turn) (full : length m ≡ length m₀) (bytes : Bytes tp) (s : Sound (length m₀) (length tp) w)
    (t : (r ≡ advance_of (length m) st w tp) × (m' ≡ room_of w tp m)) where
  turned : Carries (length m₀) st w tp m r m'
  turned = rw (t.0, full, t.1) (advance_carries (length m₀) st tp m full bytes w s)

  pub turn_on : (x : Walk) → r ≡ More x → On (length m₀) st w tp m x m'
  unfolding Carries
  turn_on x e = rw e at turned

  pub turn_ends : (a : Answer) → r ≡ Stop a → pull_of (length m₀) st w tp m ≡ pull_of (length m₀) st w₀ tp m₀ → Ends (length m₀) st w₀ tp m₀ a m'
  unfolding Carries
  turn_ends a e p = let q : Ends (length m₀) st w tp m a m' = rw e at turned in record { same = q.same ∙ p; sound = q.sound; gained = q.gained }
