-- IN ORDER: ordinary packets begin in the order of the bytes at which they begin, each at a byte of its own. Reading and reassembly
-- know at most two places, that of what is held and that of a cut header, in this order; each of their steps gives out, or keeps, a
-- sublist of what was known and what came in. Assumes nothing.
use Prim.Native.Nat.{ℕ, zero, suc, ◌+◌}
use mathlib.Core.Path.{◌≡◌, refl, sym, ap, ◌∙◌, subst}
use mathlib.Core.Bool.{Bool, true, false, cond}
use mathlib.Core.List.{List, [], ◌∷◌, ◌++◌, map, map-append, append_assoc}
use lib.Dec.{eqb, leb}
use lib.ListN.{length, drop}
use Rattle.std.specs.Prelude.{Option, None, Some}
use Rattle.receiver.specs.declared.kind.Kind.{Kind}
use Rattle.receiver.specs.declared.kind.Kind.TheVariants.{Fill, Reserved, Complete, First, Middle, Last}
use Rattle.receiver.specs.Frame.{Code, Frame, lost, idle, head, body, Event, lose, gap, opened, entered, fed, closed, Out, within, ending, whole, step, after, events}
use Rattle.receiver.specs.Forecast.{foretold, upon, resume, agree, judge, Way, stays, drops, gaps, goes, read, by_way}
use Rattle.receiver.specs.Join as J
use Rattle.receiver.specs.Join.{Finding, notice, ordinary, Held, free, held, Took, broken, goes_on, meets, grown, finish, listed, fits, further, admit, take_in, holding, finds}
use Rattle.receiver.proofs.Facts.{Placed}
use Rattle.indexed.specs.Packets.{Packet, handed}
use Rattle.indexed.proofs.Sub.{Sub, end, skip, both, sub_refl, sub_none, sub_append, sub_trans, chain, front, none_after}
use Rattle.indexed.proofs.Ways.{marks, marks_of, Stand, fresh, next, run, gives, gives_all}
use Rattle.indexed.proofs.Gives.{handed_append}

module _ (C : Code) where
  -- ---- reading: the places of the EPs that it enters

  abbrev enter : Event C → List C.S
  enter (lose n p) = []
  enter gap = []
  enter (opened h) = []
  enter (entered h) = C.place h ∷ []
  enter (fed b) = []
  enter (closed h) = []

  abbrev enters : List (Event C) → List C.S
  enters [] = []
  enters (e ∷ es) = enter e ++ enters es

  enters_append : (xs ys : List (Event C)) → enters (xs ++ ys) ≡ enters xs ++ enters ys
  enters_append [] ys = refl
  enters_append (x ∷ xs) ys = ap (λ l. enter x ++ l) (enters_append xs ys) ∙ sym (append_assoc (enter x) (enters xs) (enters ys))

  -- the place of a cut header
  abbrev cut : Frame C → List C.S
  cut lost = []
  cut idle = []
  cut (head p k hs) = p ∷ []
  cut (body h k) = []

  ended : (h : C.H) (k : ℕ) → enters (ending C h k) ++ cut (within C h k) ≡ []
  ended h zero = refl
  ended h (suc k) = refl

  dropped_marks : (n : ℕ) (bs : List C.B) → Sub (map C.mark (drop n bs)) (map C.mark bs)
  dropped_marks zero bs = sub_refl (map C.mark bs)
  dropped_marks (suc n) [] = end
  dropped_marks (suc n) (b ∷ bs) = skip (dropped_marks n bs)

  upon_none : (bs : List C.B) → cut (upon C bs) ≡ []
  upon_none [] = refl
  upon_none (b ∷ bs) = refl

  module _ (P : Placed C) where
    one_whole : (p : C.S) (ks : List C.K) (b : C.S) (o : Option C.H) → C.decode p ks ≡ o → Sub (enters (whole C p o).1 ++ cut (whole C p o).0) (p ∷ b ∷ [])
    one_whole p ks b None e = sub_none (p ∷ b ∷ [])
    one_whole p ks b (Some h) e =
        subst (λ (l : List C.S). Sub (C.place h ∷ l) (p ∷ b ∷ [])) (sym (ended h (C.size h)))
        (subst (λ (x : C.S). Sub (x ∷ []) (p ∷ b ∷ [])) (sym (P.place_is p ks h e)) (both (skip end)))

    one_step : (f : Frame C) (b : C.B) → Sub (enters (step C f b).1 ++ cut (step C f b).0) (cut f ++ C.mark b ∷ [])
    one_step lost b = skip end
    one_step idle b = both end
    one_step (head p zero hs) b = one_whole p (hs ++ C.keep b ∷ []) (C.mark b) (C.decode p (hs ++ C.keep b ∷ [])) refl
    one_step (head p (suc k) hs) b = both (skip end)
    one_step (body h k) b = subst (λ (l : List C.S). Sub l (C.mark b ∷ [])) (sym (ended h k)) (skip end)

    by_bytes : (bs : List C.B) (f : Frame C) → Sub (enters (events C f bs) ++ cut (after C f bs)) (cut f ++ map C.mark bs)
    by_bytes [] f = none_after (cut f)
    by_bytes (b ∷ bs) f =
        let g : Frame C = (step C f b).0 in
        subst (λ (l : List C.S). Sub (l ++ cut (after C g bs)) (cut f ++ C.mark b ∷ map C.mark bs)) (sym (enters_append (step C f b).1 (events C g bs)))
        (chain (enters (step C f b).1) (enters (events C g bs)) (cut (after C g bs)) (cut g) (map C.mark bs) (cut f) (C.mark b ∷ []) (one_step f b) (by_bytes bs g))

    abbrev From : Out C → Frame C → List C.B → Type 0
    From o f bs = Sub (enters o.1 ++ cut o.0) (cut f ++ map C.mark bs)

    by_resume : (es : List (Event C)) (f : Frame C) (n : ℕ) (bs : List C.B) → enters es ≡ [] → From (read C (resume C es n bs) bs) f bs
    by_resume es f n bs e =
        let y : List C.B = drop n bs in
        subst (λ (l : List C.S). Sub (l ++ cut (after C (upon C y) y)) (cut f ++ map C.mark bs))
        (sym (enters_append es (events C (upon C y) y) ∙ ap (λ (l : List C.S). l ++ enters (events C (upon C y) y)) e))
        (sub_trans (subst (λ (l : List C.S). Sub (enters (events C (upon C y) y) ++ cut (after C (upon C y) y)) (l ++ map C.mark y)) (upon_none y) (by_bytes y (upon C y)))
        (sub_append (sub_none (cut f)) (dropped_marks n bs)))

    by_agree : (b : Bool) (p : C.S) (f : Frame C) (n : ℕ) (bs : List C.B) → From (read C (agree C b p f n bs) bs) f bs
    by_agree true p f n bs = by_bytes bs f
    by_agree false p f n bs = by_resume (lose 13 p ∷ []) f n bs refl

    by_judge : (o : Option ℕ) (p : C.S) (f : Frame C) (n : ℕ) (bs : List C.B) → From (read C (judge C o p f n bs) bs) f bs
    by_judge None p f n bs = by_resume (judge C None p f n bs).told f n bs refl
    by_judge (Some m) p f n bs = by_agree (eqb m n) p f n bs

    by_input : (f : Frame C) (w : Way C) → Sub (enters (by_way C f w).1 ++ cut (by_way C f w).0) (cut f ++ marks C w)
    by_input f stays = none_after (cut f)
    by_input f (drops n p) = sub_none (cut f ++ [])
    by_input f gaps = sub_none (cut f ++ [])
    by_input lost (goes p n bs) = by_resume [] lost n bs refl
    by_input idle (goes p n bs) = by_judge (foretold C idle bs) p idle n bs
    by_input (head i k hs) (goes p n bs) = by_judge (foretold C (head i k hs) bs) p (head i k hs) n bs
    by_input (body h k) (goes p n bs) = by_judge (foretold C (body h k) bs) p (body h k) n bs

    -- ---- reassembly: the places of the packets that it gives

    abbrev pub from : Packet C → C.S
    from q = P.from q.tag

    abbrev holds : Held C → List C.S
    holds free = []
    holds (held t d) = P.from t ∷ []

    abbrev given : Option (Finding C) → List C.S
    given o = map from (handed C (listed C o))

    abbrev TookIn : Took C → Held C → List C.S → Type 0
    TookIn o s new = Sub (given o.1 ++ holds o.0) (holds s ++ new)

    one_cond : (b : Bool) (t : C.T) (d : List C.K) (n : ℕ) (p : C.S) (ys : List C.S) → Sub (P.from t ∷ []) ys
        → Sub (given (cond {A = Took C} b (held t d, None) (free, Some (notice n p))).1 ++ holds (cond {A = Took C} b (held t d, None) (free, Some (notice n p))).0) ys
    one_cond true t d n p ys s = s
    one_cond false t d n p ys s = sub_none ys

    one_broken : (h : C.H) (s : Held C) → TookIn (broken C h s) s []
    one_broken h free = end
    one_broken h (held t d) = skip end

    one_goes_on : (h : C.H) (s : Held C) → TookIn (goes_on C h s) s []
    one_goes_on h free = end
    one_goes_on h (held t d) = one_cond (eqb (C.sort t) (C.content h)) t d 14 (C.place h) (P.from t ∷ []) (both end)

    one_meets : (k : Kind) (h : C.H) (s : Held C) → TookIn (meets C k h s) s []
    one_meets Fill h s = one_broken h s
    one_meets Reserved h s = one_broken h s
    one_meets Complete h s = one_broken h s
    one_meets First h s = one_broken h s
    one_meets Middle h s = one_goes_on h s
    one_meets Last h s = one_goes_on h s

    one_grown : (b : C.K) (s : Held C) → Sub (holds (grown C s b)) (holds s ++ [])
    one_grown b free = end
    one_grown b (held t d) = both end

    one_handed : (s : Held C) → TookIn (J.handed C s) s []
    one_handed free = end
    one_handed (held t d) = both end

    one_finish : (k : Kind) (s : Held C) → TookIn (finish C k s) s []
    one_finish Fill s = none_after (holds s)
    one_finish Reserved s = none_after (holds s)
    one_finish Complete s = one_handed s
    one_finish First s = none_after (holds s)
    one_finish Middle s = none_after (holds s)
    one_finish Last s = one_handed s

    module _ (room : ℕ) where
      one_begins : (h : C.H) (s : Held C) → TookIn (fits C room h (C.begin h) []) s (C.place h ∷ [])
      one_begins h s =
          one_cond (leb (length {A = C.K} [] + C.size h) room) (C.begin h) [] 15 (C.place h) (holds s ++ C.place h ∷ [])
          (sub_append (sub_none (holds s)) (subst (λ (p : C.S). Sub (p ∷ []) (C.place h ∷ [])) (sym (P.begin_is h)) (both end)))

      one_further : (h : C.H) (s : Held C) → TookIn (further C room h s) s (C.place h ∷ [])
      one_further h free = skip end
      one_further h (held t d) =
          one_cond (leb (length d + C.size h) room) (C.join t h) d 15 (C.place h) (P.from t ∷ C.place h ∷ [])
          (subst (λ (p : C.S). Sub (p ∷ []) (P.from t ∷ C.place h ∷ [])) (sym (P.join_is t h)) (both (skip end)))

      one_admit : (k : Kind) (h : C.H) (s : Held C) → TookIn (admit C room k h s) s (C.place h ∷ [])
      one_admit Fill h s = sub_none (holds s ++ C.place h ∷ [])
      one_admit Reserved h s = sub_none (holds s ++ C.place h ∷ [])
      one_admit Complete h s = one_begins h s
      one_admit First h s = one_begins h s
      one_admit Middle h s = one_further h s
      one_admit Last h s = one_further h s

      one_event : (e : Event C) (s : Held C) → TookIn (take_in C room s e) s (enter e)
      one_event (lose n p) s = sub_none (holds s ++ [])
      one_event gap s = sub_none (holds s ++ [])
      one_event (opened h) s = one_meets (C.kind h) h s
      one_event (entered h) s = one_admit (C.kind h) h s
      one_event (fed b) s = one_grown b s
      one_event (closed h) s = one_finish (C.kind h) s

      by_events : (es : List (Event C)) (s : Held C) → Sub (map from (handed C (finds C room s es)) ++ holds (holding C room s es)) (holds s ++ enters es)
      by_events [] s = none_after (holds s)
      by_events (e ∷ es) s =
          let u : Held C = (take_in C room s e).0 in
          let now : List (Finding C) = listed C (take_in C room s e).1 in
          let rest : List (Finding C) = finds C room u es in
          subst (λ (l : List C.S). Sub (l ++ holds (holding C room u es)) (holds s ++ (enter e ++ enters es)))
          (sym (ap (map from) (handed_append C now rest) ∙ map-append from (handed C now) (handed C rest)))
          (chain (map from (handed C now)) (map from (handed C rest)) (holds (holding C room u es)) (holds u) (enters es) (holds s) (enter e) (one_event e s) (by_events es u))

      -- ---- both

      abbrev pub known : Stand C → List C.S
      known t = holds t.held ++ cut t.frame

      -- what an input hands out, and what is known behind it, begins at its bytes or at what was known, in this order
      pub by_way_in : (t : Stand C) (w : Way C) → Sub (map from (gives C room t w) ++ known (next C room t w)) (known t ++ marks C w)
      by_way_in t w =
          let es : List (Event C) = (by_way C t.frame w).1 in
          let f : Frame C = (by_way C t.frame w).0 in
          let a : List C.S = map from (gives C room t w) in
          let h : List C.S = holds (holding C room t.held es) in
          subst (λ (l : List C.S). Sub l (known t ++ marks C w)) (append_assoc a h (cut f))
          (sub_trans (sub_append (by_events es t.held) (sub_refl (cut f)))
          (subst (λ (l : List C.S). Sub l (known t ++ marks C w)) (sym (append_assoc (holds t.held) (enters es) (cut f)))
          (subst (λ (l : List C.S). Sub (holds t.held ++ (enters es ++ cut f)) l) (sym (append_assoc (holds t.held) (cut t.frame) (marks C w)))
          (sub_append (sub_refl (holds t.held)) (by_input t.frame w)))))

      -- and so of any number
      by_ways : (ws : List (Way C)) (t : Stand C) → Sub (map from (gives_all C room t ws) ++ known (run C room t ws)) (known t ++ marks_of C ws)
      by_ways [] t = none_after (known t)
      by_ways (w ∷ ws) t =
          let u : Stand C = next C room t w in
          subst (λ (l : List C.S). Sub (l ++ known (run C room u ws)) (known t ++ (marks C w ++ marks_of C ws)))
          (sym (map-append from (gives C room t w) (gives_all C room u ws)))
          (chain (map from (gives C room t w)) (map from (gives_all C room u ws)) (known (run C room u ws)) (known u) (marks_of C ws) (known t) (marks C w) (by_way_in t w) (by_ways ws u))

      pub begun_in : (ws : List (Way C)) → Sub (map from (gives_all C room (fresh C) ws)) (marks_of C ws)
      begun_in ws = front (map from (gives_all C room (fresh C) ws)) (known (run C room (fresh C) ws)) (marks_of C ws) (by_ways ws (fresh C))
