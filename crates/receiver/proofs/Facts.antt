-- FACTS OF PLACES: a fact of every byte's place is a fact of every place that reading and reassembly know.
-- Assumes nothing.
use Prim.Native.Nat.{ℕ, zero, suc, ◌+◌}
use mathlib.Core.Path.{◌≡◌, refl, sym, ap, subst}
use mathlib.Core.Bool.{Bool, true, false, cond}
use mathlib.Core.List.{List, [], ◌∷◌, ◌++◌}
use native.Mathlib.Omega.{arith}
use lib.Dec.{eqb, leb}
use lib.ListN.{length, drop}
use Rattle.std.specs.Prelude.{None, Option, Some}
use Rattle.wire.specs.declared.Header.{Header}
use Rattle.wire.specs.Reading.{header_of}
use Rattle.receiver.specs.declared.kind.Kind.{Kind}
use Rattle.receiver.specs.declared.kind.Kind.TheVariants.{Fill, Reserved, Complete, First, Middle, Last}
use Rattle.receiver.specs.declared.Place.{Place}
use Rattle.receiver.specs.Frame.{Code, Frame, lost, idle, head, body, Event, lose, gap, opened, entered, fed, closed, Out, within, ending, whole, step, after, events}
use Rattle.receiver.specs.Forecast.{inside, phase, foretold, upon, resume, agree, judge, Way, stays, drops, gaps, goes, read, by_way}
use Rattle.receiver.specs.Join.{Finding, notice, Held, free, held, Took, broken, goes_on, meets, grown, handed, finish, fits, further, admit, take_in, holding}
use Rattle.receiver.specs.Low.{Ep, ep_at, ep_if, Tag, wire}

-- what a code keeps to, so that packets have places: a header has its first byte's, a packet its first header's
pub record Placed (C : Code) : Type 0 where
  pub from : C.T → C.S
  pub place_is : (p : C.S) (ks : List C.K) (h : C.H) → C.decode p ks ≡ Some h → C.place h ≡ p
  pub begin_is : (h : C.H) → from (C.begin h) ≡ C.place h
  pub join_is : (t : C.T) (h : C.H) → from (C.join t h) ≡ from t

pub placed_ep : (p : Place) (o : Option Header) (h : Ep) → ep_if p o ≡ Some h → h.at ≡ p
placed_ep p None h e = cc
placed_ep p (Some x) h e = let z : ep_at p x ≡ h = cc in sym (ap (λ (q : Ep). q.at) z)

-- a packet's place is that of its first EP
abbrev pub wired : Placed wire
wired = record {
  from = λ (t : Tag). t.at;
  place_is = λ p ks h e. placed_ep p (header_of ks) h e;
  begin_is = λ h. refl;
  join_is = λ t h. refl;
}

module _ (C : Code) (Q : C.S → Type 0) where
  abbrev pub InFrame : Frame C → Type 0
  InFrame lost = Unit {0}
  InFrame idle = Unit {0}
  InFrame (head p k hs) = Q p
  InFrame (body h k) = Q (C.place h)

  abbrev pub InEvent : Event C → Type 0
  InEvent (lose n p) = Unit {0}
  InEvent gap = Unit {0}
  InEvent (opened h) = Unit {0}
  InEvent (entered h) = Q (C.place h)
  InEvent (fed b) = Unit {0}
  InEvent (closed h) = Unit {0}

  abbrev pub InEvents : List (Event C) → Type 0
  InEvents [] = Unit {0}
  InEvents (e ∷ es) = InEvent e × InEvents es

  abbrev pub InBytes : List C.B → Type 0
  InBytes [] = Unit {0}
  InBytes (b ∷ bs) = Q (C.mark b) × InBytes bs

  -- of each ordinary byte of an input
  abbrev pub InWay : Way C → Type 0
  InWay stays = Unit {0}
  InWay (drops n p) = Unit {0}
  InWay gaps = Unit {0}
  InWay (goes p n bs) = InBytes bs

  pub in_append : (xs ys : List (Event C)) → InEvents xs → InEvents ys → InEvents (xs ++ ys)
  in_append [] ys a b = b
  in_append (x ∷ xs) ys a b = (a.0, in_append xs ys a.1 b)

  in_within : (h : C.H) (k : ℕ) → Q (C.place h) → InFrame (within C h k)
  in_within h zero o = tt
  in_within h (suc k) o = o

  in_ending : (h : C.H) (k : ℕ) → InEvents (ending C h k)
  in_ending h zero = (tt, tt)
  in_ending h (suc k) = tt

  in_drop : (n : ℕ) (bs : List C.B) → InBytes bs → InBytes (drop n bs)
  in_drop zero bs q = q
  in_drop (suc n) [] q = q
  in_drop (suc n) (b ∷ bs) q = in_drop n bs q.1

  pub in_upon : (bs : List C.B) → InFrame (upon C bs)
  in_upon [] = tt
  in_upon (b ∷ bs) = tt

  -- ---- reading

  module _ (P : Placed C) where
    in_whole : (p : C.S) (ks : List C.K) (o : Option C.H) → C.decode p ks ≡ o → Q p → InFrame (whole C p o).0 × InEvents (whole C p o).1
    in_whole p ks None e q = (tt, (tt, tt))
    in_whole p ks (Some h) e q =
        let a : Q (C.place h) = subst Q (sym (P.place_is p ks h e)) q in
        (in_within h (C.size h) a, (tt, (a, in_ending h (C.size h))))

    -- a step that begins no EP
    pub in_inside : (f : Frame C) (b : C.B) → phase C f ≡ inside → InFrame f → InFrame (step C f b).0 × InEvents (step C f b).1
    in_inside lost b i a = (tt, tt)
    in_inside idle b i a = let z : ◌≡◌ {A = ℕ} 0 1 = cc in absurd (omega arith)
    in_inside (head p zero hs) b i a = in_whole p (hs ++ C.keep b ∷ []) (C.decode p (hs ++ C.keep b ∷ [])) refl a
    in_inside (head p (suc k) hs) b i a = (a, tt)
    in_inside (body h k) b i a = (in_within h k a, (tt, in_ending h k))

    pub in_step : (f : Frame C) (b : C.B) → Q (C.mark b) → InFrame f → InFrame (step C f b).0 × InEvents (step C f b).1
    in_step lost b q a = (tt, tt)
    in_step idle b q a = (q, tt)
    in_step (head p k hs) b q a = in_inside (head p k hs) b refl a
    in_step (body h k) b q a = in_inside (body h k) b refl a

    pub in_read : (bs : List C.B) (f : Frame C) → InBytes bs → InFrame f → InFrame (after C f bs) × InEvents (events C f bs)
    in_read [] f q a = (a, tt)
    in_read (b ∷ bs) f q a =
        let s = in_step f b q.0 a in
        let r = in_read bs (step C f b).0 q.1 s.0 in
        (r.0, in_append (step C f b).1 (events C (step C f b).0 bs) s.1 r.1)

    -- ---- reassembly

    abbrev pub InHeld : Held C → Type 0
    InHeld free = Unit {0}
    InHeld (held t d) = Q (P.from t)

    in_cond : (b : Bool) (t : C.T) (d : List C.K) (f : Option (Finding C)) → Q (P.from t) → InHeld (cond {A = Took C} b (held t d, None) (free, f)).0
    in_cond true t d f q = q
    in_cond false t d f q = tt

    in_broken : (h : C.H) (s : Held C) → InHeld (broken C h s).0
    in_broken h free = tt
    in_broken h (held t d) = tt

    in_goes_on : (h : C.H) (s : Held C) → InHeld s → InHeld (goes_on C h s).0
    in_goes_on h free q = tt
    in_goes_on h (held t d) q = in_cond (eqb (C.sort t) (C.content h)) t d (Some (notice 14 (C.place h))) q

    in_meets : (k : Kind) (h : C.H) (s : Held C) → InHeld s → InHeld (meets C k h s).0
    in_meets Fill h s q = in_broken h s
    in_meets Reserved h s q = in_broken h s
    in_meets Complete h s q = in_broken h s
    in_meets First h s q = in_broken h s
    in_meets Middle h s q = in_goes_on h s q
    in_meets Last h s q = in_goes_on h s q

    in_grown : (s : Held C) (b : C.K) → InHeld s → InHeld (grown C s b)
    in_grown free b q = tt
    in_grown (held t d) b q = q

    in_handed : (s : Held C) → InHeld (handed C s).0
    in_handed free = tt
    in_handed (held t d) = tt

    in_finish : (k : Kind) (s : Held C) → InHeld s → InHeld (finish C k s).0
    in_finish Fill s q = q
    in_finish Reserved s q = q
    in_finish Complete s q = in_handed s
    in_finish First s q = q
    in_finish Middle s q = q
    in_finish Last s q = in_handed s

    module _ (room : ℕ) where
      in_fits : (h : C.H) (t : C.T) (d : List C.K) → Q (P.from t) → InHeld (fits C room h t d).0
      in_fits h t d q = in_cond (leb (length d + C.size h) room) t d (Some (notice 15 (C.place h))) q

      in_further : (h : C.H) (s : Held C) → InHeld s → InHeld (further C room h s).0
      in_further h free q = tt
      in_further h (held t d) q = in_fits h (C.join t h) d (subst Q (sym (P.join_is t h)) q)

      in_admit : (k : Kind) (h : C.H) (s : Held C) → Q (C.place h) → InHeld s → InHeld (admit C room k h s).0
      in_admit Fill h s a q = tt
      in_admit Reserved h s a q = tt
      in_admit Complete h s a q = in_fits h (C.begin h) [] (subst Q (sym (P.begin_is h)) a)
      in_admit First h s a q = in_fits h (C.begin h) [] (subst Q (sym (P.begin_is h)) a)
      in_admit Middle h s a q = in_further h s q
      in_admit Last h s a q = in_further h s q

      pub in_take : (s : Held C) (e : Event C) → InEvent e → InHeld s → InHeld (take_in C room s e).0
      in_take s (lose n p) a q = tt
      in_take s gap a q = tt
      in_take s (opened h) a q = in_meets (C.kind h) h s q
      in_take s (entered h) a q = in_admit (C.kind h) h s a q
      in_take s (fed b) a q = in_grown s b q
      in_take s (closed h) a q = in_finish (C.kind h) s q

      pub in_holding : (es : List (Event C)) (s : Held C) → InEvents es → InHeld s → InHeld (holding C room s es)
      in_holding [] s a q = q
      in_holding (e ∷ es) s a q = in_holding es (take_in C room s e).0 a.1 (in_take s e a.0 q)

      -- ---- an input

      abbrev Leaves : Held C → Out C → Type 0
      Leaves s o = InFrame o.0 × InHeld (holding C room s o.1)

      in_started : (es : List (Event C)) (f : Frame C) (s : Held C) (bs : List C.B) → InEvents es → InFrame f → InHeld s → InBytes bs
          → Leaves s (after C f bs, es ++ events C f bs)
      in_started es f s bs p a q r =
          let x = in_read bs f r a in
          (x.0, in_holding (es ++ events C f bs) s (in_append es (events C f bs) p x.1) q)

      in_resumed : (es : List (Event C)) (s : Held C) (n : ℕ) (bs : List C.B) → InEvents es → InHeld s → InBytes bs
          → Leaves s (read C (resume C es n bs) bs)
      in_resumed es s n bs p q r = in_started es (upon C (drop n bs)) s (drop n bs) p (in_upon (drop n bs)) q (in_drop n bs r)

      in_agree : (b : Bool) (p : C.S) (f : Frame C) (s : Held C) (n : ℕ) (bs : List C.B) → InFrame f → InHeld s → InBytes bs
          → Leaves s (read C (agree C b p f n bs) bs)
      in_agree true p f s n bs a q r = in_started [] f s bs tt a q r
      in_agree false p f s n bs a q r = in_resumed (lose 13 p ∷ []) s n bs (tt, tt) q r

      in_judge : (o : Option ℕ) (p : C.S) (f : Frame C) (s : Held C) (n : ℕ) (bs : List C.B) → InFrame f → InHeld s → InBytes bs
          → Leaves s (read C (judge C o p f n bs) bs)
      in_judge None p f s n bs a q r = in_resumed (judge C None p f n bs).told s n bs (tt, tt) q r
      in_judge (Some m) p f s n bs a q r = in_agree (eqb m n) p f s n bs a q r

      pub in_next : (w : Way C) (f : Frame C) (s : Held C) → InWay w → InFrame f → InHeld s
          → InFrame (by_way C f w).0 × InHeld (holding C room s (by_way C f w).1)
      in_next stays f s r a q = (a, q)
      in_next (drops n p) f s r a q = (tt, tt)
      in_next gaps f s r a q = (tt, tt)
      in_next (goes p n bs) lost s r a q = in_resumed [] s n bs tt q r
      in_next (goes p n bs) idle s r a q = in_judge (foretold C idle bs) p idle s n bs a q r
      in_next (goes p n bs) (head i k hs) s r a q = in_judge (foretold C (head i k hs) bs) p (head i k hs) s n bs a q r
      in_next (goes p n bs) (body h k) s r a q = in_judge (foretold C (body h k) bs) p (body h k) s n bs a q r
