-- AMONG ORDINARY BYTES a turn takes in the events of exactly its own bytes, but for those that it leaves to be taken in.
-- Assumes nothing.
use mathlib.Core.Path.{ap, refl, subst, sym, ◌∙◌, ◌≡◌}
use mathlib.Core.Bool.{Bool, cond, false, true}
use mathlib.Core.List.{List, [], ◌++◌, ◌∷◌}
use Prim.Native.Nat.{ℕ, ◌+◌, ◌-◌, ◌<◌, ◌≤◌, min}
use native.Mathlib.Omega.{arith}
use lib.Dec.{ltb}
use lib.ListN.{drop, length, length-drop, take}
use lib.Seq.{get_or-drop, length-take-le, take_all}
use borrow.Author.Tests.{ltb-false, ltb-true}
use Rattle.std.specs.Prelude.{Option}
use Rattle.digits.specs.Digits.{digits, number}
use Rattle.wire.specs.Reading.{header_in}
use Rattle.wire.specs.declared.Header.{Header}
use Rattle.receiver.specs.declared.Place.{Place}
use Rattle.receiver.specs.declared.Stamp.{Stamp}
use Rattle.receiver.specs.declared.walk.Gain.TheVariants.{Nothing}
use Rattle.receiver.specs.declared.walk.Kept.{Kept}
use Rattle.receiver.specs.declared.walk.Phase.{Phase}
use Rattle.receiver.specs.declared.walk.Phase.TheVariants.{Body, Head, Judged, Lost}
use Rattle.receiver.specs.declared.walk.Turn.{Turn}
use Rattle.receiver.specs.declared.walk.Walk.{Walk}
use Rattle.receiver.specs.Frame.{Out, whole}
use Rattle.receiver.specs.Kind.{kind_of}
use Rattle.receiver.specs.Low.{ep_if, wire}
use Rattle.receiver.specs.Place.{place_at, placed}
use Rattle.receiver.specs.State.{Fine, Roomy, Sound, headed, held_of}
use Rattle.receiver.specs.Turns.{admit_of, advance_by, advance_of, begun_at, body_turn, finish_of, grown_by, header_turn, stops, whole_of}
use Rattle.receiver.specs.InWalk.{pasted, room_by, room_of}
use Rattle.receiver.proofs.Advancing.{admit_at, finish_at, walk_of, whole_at_lem}
use Rattle.receiver.proofs.Bodies.{decoded, fewer, kept_held}
use Rattle.receiver.proofs.Heading.{Bytes, begun_first, digits_number, first, length_digits}
use Rattle.receiver.proofs.Placing.{length_placed, plain, plain_placed}
use Rattle.receiver.proofs.Run.{grows}
use Rattle.receiver.proofs.Seeing.{heads_saw, heads_whole_saw, lost_saw, saw, whole_at}
use Rattle.receiver.proofs.Bringing.{Brings, cut_brings, judged_brings, read_brings, whole_brings}

module _ (cap : ℕ) (s : Stamp) (tp m : List ℕ) (full : length m ≡ cap) (bytes : Bytes tp) (at : ℕ) (g : Place) (k : Option Kept) (l : at ≤ length tp) where
  abbrev rest : List ℕ
  rest = drop at tp

  -- so many of them, with their places
  abbrev first_of : ℕ → List (Place × ℕ)
  first_of n = placed s at (take n rest)

  abbrev own : Turn → List (Place × ℕ)
  own t = first_of ((walk_of t).at - at)

  many : (n : ℕ) → n ≤ length tp - at → length (first_of n) ≡ n
  many n b = length_placed s at (take n rest) ∙ length-take-le n rest (omega (arith, length-drop at tp))

  brings : (p : Phase) (t : Turn) (m' : List ℕ) (j : ℕ) → (walk_of t).at ≡ at + j → Brings cap g p k m (first_of j) t m' → Brings cap g p k m (own t) t m'
  brings p t m' j e b = let q : j ≡ (walk_of t).at - at = omega arith in subst (λ (n : ℕ). Brings cap g p k m (first_of n) t m') q b

  lost_brings : Brings cap g Lost k m (own (stops (length tp) Lost g k Nothing)) (stops (length tp) Lost g k Nothing) m
  lost_brings =
      let e = lost_saw (first_of (length tp - at)) in
      record { taken = []; frame = ap (λ (o : Out wire). o.0) e; told = ap (λ (o : Out wire). o.1) e; held = refl; finds = refl }

  module _ (n v : ℕ) (f : Fine cap (Head n v) k) where
    -- where the header began
    abbrev b : Place
    b = begun_at s at n g

    abbrev cut : Turn
    cut = stops (at + (length tp - at)) (Head (n + (length tp - at)) (number v (take (length tp - at) rest))) b k Nothing

    abbrev made : Turn
    made = whole_of (at + (6 - n)) (header_in (number v (take (6 - n) rest))) b k cap

    cut_head : length tp - at < 6 - n → Brings cap g (Head n v) k m (own cut) cut m
    cut_head u =
        let ds = take (length tp - at) rest in
        let t : ds ≡ rest = take_all (length tp - at) rest (omega (arith, length-drop at tp)) in
        let y : Bytes rest = (λ i. rw (get_or-drop at tp i 0) (bytes (at + i))) in
        let z : Bytes ds = rw t y in
        let long : length ds ≡ length tp - at = length-take-le (length tp - at) rest (omega (arith, length-drop at tp)) in
        let d = digits_number n (n + (length tp - at)) v ds z (omega arith) in
        let e = heads_saw s g (digits n v) ds at (omega (arith, length_digits n v)) in
        brings (Head n v) cut m (length tp - at) refl
        (record {
          taken = [];
          frame = ap (λ (o : Out wire). o.0) e ∙ ap (λ (p : Place). headed p (digits n v ++ ds)) (begun_first s at n v g) ∙ ap (headed b) (sym d);
          told = ap (λ (o : Out wire). o.1) e;
          held = refl;
          finds = refl;
        })

    some_heads : (hs ds : List ℕ) → length hs + length ds ≡ 6 → 0 < length ds → saw (headed g hs) (placed s at ds) ≡ whole_at (first hs (place_at s at) g) (hs ++ ds)
    some_heads hs [] l p = absurd (omega arith)
    some_heads hs (d ∷ ds) l p = heads_whole_saw s g hs d ds at l

    made_head : 6 - n ≤ length tp - at → Brings cap g (Head n v) k m (own made) made m
    made_head u =
        let ds = take (6 - n) rest in
        let long : length ds ≡ 6 - n = length-take-le (6 - n) rest (omega (arith, length-drop at tp)) in
        let e = some_heads (digits n v) ds (omega (arith, length_digits n v, f.0)) (omega (arith, f.0)) in
        let x = header_in (number v ds) in
        brings (Head n v) made m (6 - n) (whole_at_lem (at + (6 - n)) x b k cap)
        (whole_brings cap m full n v g (first_of (6 - n)) x b k (at + (6 - n)) f.2
        (e ∙ ap (λ (p : Place). whole_at p (digits n v ++ ds)) (begun_first s at n v g) ∙ ap (λ (o : Option Header). whole wire b (ep_if b o)) (decoded n v ds f.1)))

    head_brings : Brings cap g (Head n v) k m (own (header_turn tp at n v b k cap)) (header_turn tp at n v b k cap) m
    unfolding header_turn
    head_brings = by (ltb (length tp - at) (6 - n)) refl
      where
        by : (x : Bool) → ltb (length tp - at) (6 - n) ≡ x → Brings cap g (Head n v) k m (own (cond x cut made)) (cond x cut made) m
        by true q = cut_head (ltb-true (length tp - at) (6 - n) q)
        by false q = made_head (ltb-false (length tp - at) (6 - n) q)

  -- what is kept of so many bytes more
  kept_on : (n : ℕ) → n ≤ length tp - at → Roomy cap k n → held_of (grown_by n k) (pasted k m rest n) ≡ grows wire cap (held_of k m) (plain wire (first_of n))
  kept_on n b r =
      kept_held cap n k m rest full r (omega (arith, length-drop at tp)) ∙ ap (grows wire cap (held_of k m)) (sym (plain_placed s at (take n rest)))

  body_brings : (h : Header) (left : ℕ) → Fine cap (Body h left) k
      → Brings cap g (Body h left) k m (own (body_turn tp at h left g k)) (body_turn tp at h left g k) (pasted k m rest (min left (length tp - at)))
  unfolding body_turn
  body_brings h left f = by (ltb (length tp - at) left) refl
    where
      cut : Turn
      cut = stops (at + (length tp - at)) (Body h (left - (length tp - at))) g (grown_by (length tp - at) k) Nothing

      read : Turn
      read = finish_of (kind_of h) (at + left) g (grown_by left k)

      by : (x : Bool) → ltb (length tp - at) left ≡ x
          → Brings cap g (Body h left) k m (own (cond x cut read)) (cond x cut read) (pasted k m rest (min left (length tp - at)))
      by true q =
          let u = ltb-true (length tp - at) left q in
          let n : min left (length tp - at) ≡ length tp - at = omega arith in
          let y = many (length tp - at) (omega arith) in
          let e = kept_on (length tp - at) (omega arith) (fewer cap (length tp - at) left k f (omega arith)) in
          rw n (brings (Body h left) cut (pasted k m rest (length tp - at)) (length tp - at) refl
          (cut_brings cap m (pasted k m rest (length tp - at)) h g k (grown_by (length tp - at) k) (first_of (length tp - at)) e left (left - (length tp - at)) (at + (length tp - at)) (omega arith)))
      by false q =
          let u = ltb-false (length tp - at) left q in
          let n : min left (length tp - at) ≡ left = omega arith in
          let e = kept_on left u f in
          rw n (brings (Body h left) read (pasted k m rest left) left (finish_at (kind_of h) (at + left) g (grown_by left k))
          (read_brings cap m (pasted k m rest left) h g k (grown_by left k) (first_of left) e left (at + left) (sym (many left u))))

  brings_by : (p : Phase) → Fine cap p k → Brings cap g p k m (own (advance_by p s at g k cap tp)) (advance_by p s at g k cap tp) (room_by p at k tp m)
  brings_by Lost f = lost_brings
  brings_by (Head n v) f = head_brings n v f
  brings_by (Judged h) f =
      brings (Judged h) (admit_of (kind_of h) at h g k cap) m 0 (admit_at (kind_of h) at h g k cap ∙ omega arith) (judged_brings cap m full h g k at f)
  brings_by (Body h left) f = body_brings h left f

-- A TURN'S BYTES AND ITS EVENTS, in a TP of this stamp
pub advance_brings : (cap : ℕ) (s : Stamp) (w : Walk) (tp m : List ℕ) → length m ≡ cap → Bytes tp → Sound cap (length tp) w
    → Brings cap w.began w.phase w.kept m (placed s w.at (take ((walk_of (advance_of cap s w tp)).at - w.at) (drop w.at tp))) (advance_of cap s w tp) (room_of w tp m)
unfolding advance_of room_of
advance_brings cap s w tp m full bytes o = brings_by cap s tp m full bytes w.at w.began w.kept o.at w.phase o.phase
