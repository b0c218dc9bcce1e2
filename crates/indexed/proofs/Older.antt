-- THE OLDER: where a packet is held and an EP is under way, the packet began with that EP or before it. Its place is known before the EP's
-- first byte is read, or is that byte's. Assumes nothing.
use Prim.Native.Nat.{ℕ}
use mathlib.Core.Path.{◌≡◌, refl, sym, ap, ◌∙◌, subst}
use mathlib.Core.Logic.{◌⊎◌, inl, inr}
use mathlib.Core.Bool.{Bool, true, false}
use mathlib.Core.List.{List, [], ◌∷◌, ◌++◌, map, map-append, append_assoc}
use lib.Dec.{eqb}
use lib.ListN.{take, drop, take-append-drop}
use Rattle.std.specs.Prelude.{Option, None, Some}
use Rattle.receiver.specs.Frame.{Code, Frame, lost, idle, head, body, Event, lose, step, after, events}
use Rattle.receiver.specs.Forecast.{inside, phase, foretold, upon, resume, agree, judge, Way, stays, drops, gaps, goes, read, by_way}
use Rattle.receiver.specs.Join.{Held, free, holding}
use Rattle.receiver.specs.Low.{wire}
use Rattle.receiver.proofs.Facts.{Placed, wired, InFrame, InEvents, in_upon, in_inside, in_step, InHeld, in_holding}
use Rattle.indexed.specs.Index.{start_stamp, fresh, stand_at}
use Rattle.indexed.specs.Packets.{All, Rising}
use Rattle.indexed.specs.Statements.{Older}
use Rattle.indexed.proofs.Lists.{all_right, rising_right}
use Rattle.indexed.proofs.Ways.{marks, marks_of, Stand, next, run}
use Rattle.indexed.proofs.Facts.{weaker}
use Rattle.indexed.proofs.Gives.{holding_append}
use Rattle.indexed.proofs.Restart.{none_is, frame_from, in_frame}
use Rattle.indexed.proofs.Inputs.{bare}
use Rattle.indexed.proofs.Records.{ways_of, stand_run}
use Rattle.indexed.proofs.Grown.{frame_pending}
use Rattle.indexed.proofs.Rises.{BeforeAt, marks_rise}

-- R: which places stand before which
module _ (C : Code) (P : Placed C) (room : ℕ) (R : C.S → C.S → Type 0) where
  abbrev NotLater : C.S → C.S → Type 0
  NotLater p q = R p q ⊎ (p ≡ q)

  abbrev BeforeAll : List C.S → C.S → Type 0
  BeforeAll ms p = All (R p) ms

  -- and all that is known stands before what is still to be read
  pub record Ordered (ms : List C.S) (f : Frame C) (s : Held C) : Type 0 where
    pub older : (p : C.S) → frame_from C P f ≡ Some p → InHeld C (λ q. NotLater q p) P s
    pub frames : InFrame C (BeforeAll ms) f
    pub helds : InHeld C (BeforeAll ms) P s

  less : (ms ns : List C.S) (f : Frame C) (s : Held C) → Ordered (ms ++ ns) f s → Ordered ns f s
  less ms ns f s o =
      let w = weaker C P (BeforeAll (ms ++ ns)) (BeforeAll ns) (λ p a. all_right (R p) ms ns a) (record { frame = f; held = s }) (o.frames, o.helds) in
      record { older = o.older; frames = w.0; helds = w.1 }

  -- within a header or an EP no other begins
  inside_on : (f : Frame C) (b : C.B) (s : Held C) (p : C.S) → phase C f ≡ inside → InFrame C (λ q. q ≡ p) f → InHeld C (λ q. NotLater q p) P s
      → (q : C.S) → frame_from C P (step C f b).0 ≡ Some q → InHeld C (λ x. NotLater x q) P (holding C room s (step C f b).1)
  inside_on f b s p i a h q e =
      let z : q ≡ p = in_frame C P (λ x. x ≡ p) q (step C f b).0 (in_inside C (λ x. x ≡ p) P f b i a).0 e in
      let es = (in_inside C (λ x. NotLater x p) P f b i (weaker C P (λ x. x ≡ p) (λ x. NotLater x p) (λ x y. inr y) (record { frame = f; held = free }) (a, tt)).0).1 in
      subst (λ (y : C.S). InHeld C (λ x. NotLater x y) P (holding C room s (step C f b).1)) (sym z)
      (in_holding C (λ x. NotLater x p) P room (step C f b).1 s es h)

  older_step : (f : Frame C) (b : C.B) (s : Held C) (ms : List C.S) → Ordered (C.mark b ∷ ms) f s
      → (q : C.S) → frame_from C P (step C f b).0 ≡ Some q → InHeld C (λ x. NotLater x q) P (holding C room s (step C f b).1)
  older_step lost b s ms o q e = none_is e
  older_step idle b s ms o q e =
      let z : C.mark b ≡ q = cc in
      (weaker C P (BeforeAll (C.mark b ∷ ms)) (λ x. NotLater x q) (λ x a. inl (subst (R x) z a.0)) (record { frame = lost; held = s }) (tt, o.helds)).1
  older_step (head p k hs) b s ms o q e = inside_on (head p k hs) b s p refl refl (o.older p refl) q e
  older_step (body h k) b s ms o q e = inside_on (body h k) b s (C.place h) refl refl (o.older (C.place h) refl) q e

  one_byte : (f : Frame C) (b : C.B) (s : Held C) (ms : List C.S) → All (R (C.mark b)) ms → Ordered (C.mark b ∷ ms) f s
      → Ordered ms (step C f b).0 (holding C room s (step C f b).1)
  one_byte f b s ms r o =
      let w = less (C.mark b ∷ []) ms f s o in
      let x = in_step C (BeforeAll ms) P f b r w.frames in
      record { older = older_step f b s ms o; frames = x.0; helds = in_holding C (BeforeAll ms) P room (step C f b).1 s x.1 w.helds }

  bytes : (bs : List C.B) (f : Frame C) (s : Held C) (ms : List C.S) → Rising R (map C.mark bs ++ ms) → Ordered (map C.mark bs ++ ms) f s
      → Ordered ms (after C f bs) (holding C room s (events C f bs))
  bytes [] f s ms r o = o
  bytes (b ∷ bs) f s ms r o =
      let g : Frame C = (step C f b).0 in
      let u : Held C = holding C room s (step C f b).1 in
      subst (λ (x : Held C). Ordered ms (after C g bs) x) (sym (holding_append C room s (step C f b).1 (events C g bs)))
      (bytes bs g u ms r.1 (one_byte f b s (map C.mark bs ++ ms) r.0 o))

  -- ---- an input, and any number

  split : (n : ℕ) (bs : List C.B) (ms : List C.S) → map C.mark bs ++ ms ≡ map C.mark (take n bs) ++ (map C.mark (drop n bs) ++ ms)
  split n bs ms =
      ap (λ (l : List C.B). map C.mark l ++ ms) (sym (take-append-drop n bs))
      ∙ ap (λ (l : List C.S). l ++ ms) (map-append C.mark (take n bs) (drop n bs))
      ∙ append_assoc (map C.mark (take n bs)) (map C.mark (drop n bs)) ms

  none_upon : (bs : List C.B) → frame_from C P (upon C bs) ≡ None
  none_upon [] = refl
  none_upon (b ∷ bs) = refl

  resumed : (es : List (Event C)) (n : ℕ) (bs : List C.B) (s : Held C) (ms : List C.S) → InEvents C (BeforeAll (map C.mark bs ++ ms)) es
      → Rising R (map C.mark bs ++ ms) → InHeld C (BeforeAll (map C.mark bs ++ ms)) P s
      → Ordered ms (read C (resume C es n bs) bs).0 (holding C room s (read C (resume C es n bs) bs).1)
  resumed es n bs s ms a r h =
      let y : List C.B = drop n bs in
      let x : List C.S = map C.mark (take n bs) in
      let u : Held C = holding C room s es in
      let o : Ordered (map C.mark bs ++ ms) (upon C y) u =
      record {
        older = λ p e. none_is (sym (none_upon y) ∙ e);
        frames = in_upon C (BeforeAll (map C.mark bs ++ ms)) y;
        helds = in_holding C (BeforeAll (map C.mark bs ++ ms)) P room es s a h;
      } in
      subst (λ (v : Held C). Ordered ms (after C (upon C y) y) v) (sym (holding_append C room s es (events C (upon C y) y)))
      (bytes y (upon C y) u ms (rising_right R x (map C.mark y ++ ms) (subst (Rising R) (split n bs ms) r))
      (less x (map C.mark y ++ ms) (upon C y) u (subst (λ (l : List C.S). Ordered l (upon C y) u) (split n bs ms) o)))

  by_agree : (b : Bool) (p : C.S) (f : Frame C) (s : Held C) (n : ℕ) (bs : List C.B) (ms : List C.S) → Rising R (map C.mark bs ++ ms)
      → Ordered (map C.mark bs ++ ms) f s → Ordered ms (read C (agree C b p f n bs) bs).0 (holding C room s (read C (agree C b p f n bs) bs).1)
  by_agree true p f s n bs ms r o = bytes bs f s ms r o
  by_agree false p f s n bs ms r o = resumed (lose 13 p ∷ []) n bs s ms (tt, tt) r o.helds

  by_judge : (k : Option ℕ) (p : C.S) (f : Frame C) (s : Held C) (n : ℕ) (bs : List C.B) (ms : List C.S) → Rising R (map C.mark bs ++ ms)
      → Ordered (map C.mark bs ++ ms) f s → Ordered ms (read C (judge C k p f n bs) bs).0 (holding C room s (read C (judge C k p f n bs) bs).1)
  by_judge None p f s n bs ms r o = resumed (judge C None p f n bs).told n bs s ms (tt, tt) r o.helds
  by_judge (Some m) p f s n bs ms r o = by_agree (eqb m n) p f s n bs ms r o

  out_of_step : (ms : List C.S) → Ordered ms lost free
  out_of_step ms = record { older = λ p e. none_is e; frames = tt; helds = tt }

  one_input : (w : Way C) (f : Frame C) (s : Held C) (ms : List C.S) → Rising R (marks C w ++ ms) → Ordered (marks C w ++ ms) f s
      → Ordered ms (by_way C f w).0 (holding C room s (by_way C f w).1)
  one_input stays f s ms r o = o
  one_input (drops n p) f s ms r o = out_of_step ms
  one_input gaps f s ms r o = out_of_step ms
  one_input (goes p n bs) lost s ms r o = resumed [] n bs s ms tt r o.helds
  one_input (goes p n bs) idle s ms r o = by_judge (foretold C idle bs) p idle s n bs ms r o
  one_input (goes p n bs) (head i k hs) s ms r o = by_judge (foretold C (head i k hs) bs) p (head i k hs) s n bs ms r o
  one_input (goes p n bs) (body h k) s ms r o = by_judge (foretold C (body h k) bs) p (body h k) s n bs ms r o

  pub all_ordered : (ws : List (Way C)) (t : Stand C) → Rising R (marks_of C ws) → Ordered (marks_of C ws) t.frame t.held
      → Ordered [] (run C room t ws).frame (run C room t ws).held
  all_ordered [] t r o = o
  all_ordered (w ∷ ws) t r o =
      all_ordered ws (next C room t w) (rising_right R (marks C w) (marks_of C ws) r) (one_input w t.frame t.held (marks_of C ws) r o)

pub older : Older
older s xs t d p e i =
    let ws : List (Way wire) = ways_of s start_stamp xs in
    let o = all_ordered wire wired s.room BeforeAt ws (bare fresh) (marks_rise s xs) (out_of_step wire wired s.room BeforeAt (marks_of wire ws)) in
    let here : Ordered wire wired s.room BeforeAt [] (stand_at s start_stamp fresh xs).frame (stand_at s start_stamp fresh xs).held =
    subst (λ (v : Stand wire). Ordered wire wired s.room BeforeAt [] v.frame v.held) (sym (stand_run s xs start_stamp fresh)) o in
    subst (λ (u : Held wire). InHeld wire (λ q. NotLater wire wired s.room BeforeAt q p) wired u) e
    (here.older p (sym (frame_pending (stand_at s start_stamp fresh xs).frame) ∙ i))
