-- Among ordinary bytes a call takes the first of the finds to come, and leaves the others. Assumes nothing.
use mathlib.Core.Path.{ap, refl, sym, ◌∙◌, ◌≡◌}
use mathlib.Core.List.{List, [], ◌++◌, ◌∷◌}
use Prim.Native.Nat.{suc, zero, ℕ}
use lib.ListN.{drop}
use Rattle.std.specs.Prelude.{None, Some}
use Rattle.receiver.specs.Frame.{Code, Event, Frame, after, events, step}
use Rattle.receiver.specs.Join.{Finding, Held, Took, finds, holding, listed, stored, take_in}
use Rattle.receiver.specs.Pull.{Met, Pulled, dry, found, meet, met, pull}

drop_next : {A : Type 0} (b : A) (bs l : List A) (n : ℕ) → drop n l ≡ b ∷ bs → drop (suc n) l ≡ bs
drop_next b bs [] zero e = cc
drop_next b bs (x ∷ l) zero e = cc
drop_next b bs [] (suc n) e = cc
drop_next b bs (x ∷ l) (suc n) e = drop_next b bs l n e

module _ (C : Code) (cap : ℕ) where
  -- what events, and then bytes, come to: the finds, what is held then, and the frame
  abbrev pub Coming : Type 0
  Coming = List (Finding C) × (Held C × Frame C)

  abbrev pub coming : Held C → List (Event C) → Frame C → List C.B → Coming
  coming s es f bs = (finds C cap s (es ++ events C f bs), (holding C cap s (es ++ events C f bs), after C f bs))

  abbrev pub ahead_of : List (Finding C) → Coming → Coming
  ahead_of fs w = (fs ++ w.0, w.1)

  abbrev met_find : Met C → List (Finding C)
  met_find (dry s m) = []
  met_find (found x s m es) = x ∷ []

  abbrev stands : Met C → Held C
  stands (dry s m) = s
  stands (found x s m es) = s

  abbrev left : Met C → List (Event C)
  left (dry s m) = []
  left (found x s m es) = es

  abbrev Does : Type 0
  Does = List (Finding C) × Held C

  abbrev does : Held C → List (Event C) → Does
  does s es = (finds C cap s es, holding C cap s es)

  abbrev then_does : List (Finding C) → Does → Does
  then_does fs d = (fs ++ d.0, d.1)

  met_rest : (T : Took C) (m : List C.K) (es more : List (Event C))
      → does T.0 (es ++ more) ≡ then_does (met_find (meet C cap T.0 m es)) (does (stands (meet C cap T.0 m es)) (left (meet C cap T.0 m es) ++ more))
      → then_does (listed C T.1) (does T.0 (es ++ more))
      ≡ then_does (met_find (met C T.1 T.0 m es (meet C cap T.0 m es)))
      (does (stands (met C T.1 T.0 m es (meet C cap T.0 m es))) (left (met C T.1 T.0 m es (meet C cap T.0 m es)) ++ more))
  met_rest (s, None) m es more e = e
  met_rest (s, Some x) m es more e = refl

  meet_rest : (s : Held C) (m : List C.K) (es more : List (Event C))
      → does s (es ++ more) ≡ then_does (met_find (meet C cap s m es)) (does (stands (meet C cap s m es)) (left (meet C cap s m es) ++ more))
  meet_rest s m [] more = refl
  meet_rest s m (e ∷ es) more =
      met_rest (take_in C cap s e) (stored C s e m) es more (meet_rest (take_in C cap s e).0 (stored C s e m) es more)

  pulled_rest : (tp bs : List C.B) (f : Frame C) (at : ℕ) (x : Met C) → drop at tp ≡ bs
      → ahead_of (met_find x) (coming (stands x) (left x) f bs)
      ≡ ahead_of (listed C (pull C cap f at x bs).find)
      (coming (pull C cap f at x bs).held (pull C cap f at x bs).todo (pull C cap f at x bs).frame (drop (pull C cap f at x bs).at tp))
  pulled_rest tp [] f at (found x s m es) e = ap (λ (l : List C.B). ahead_of (x ∷ []) (coming s es f l)) (sym e)
  pulled_rest tp (b ∷ bs) f at (found x s m es) e = ap (λ (l : List C.B). ahead_of (x ∷ []) (coming s es f l)) (sym e)
  pulled_rest tp [] f at (dry s m) e = ap (λ (l : List C.B). coming s [] f l) (sym e)
  pulled_rest tp (b ∷ bs) f at (dry s m) e =
      let o = step C f b in
      ap (λ (d : Does). (d.0, (d.1, after C o.0 bs))) (meet_rest s m o.1 (events C o.0 bs))
      ∙ pulled_rest tp bs o.0 (suc at) (meet C cap s m o.1) (drop_next b bs tp at e)

  -- from events still to be taken in and bytes still to be read, a call takes the first find
  pub pulled_first : (tp : List C.B) (f : Frame C) (at : ℕ) (s : Held C) (m : List C.K) (es : List (Event C)) (p : Pulled C)
      → pull C cap f at (meet C cap s m es) (drop at tp) ≡ p
      → coming s es f (drop at tp) ≡ ahead_of (listed C p.find) (coming p.held p.todo p.frame (drop p.at tp))
  pulled_first tp f at s m es p e =
      ap (λ (d : Does). (d.0, (d.1, after C f (drop at tp)))) (meet_rest s m es (events C f (drop at tp)))
      ∙ pulled_rest tp (drop at tp) f at (meet C cap s m es) refl
      ∙ ap (λ (p : Pulled C). ahead_of (listed C p.find) (coming p.held p.todo p.frame (drop p.at tp))) e

  -- and where it says none, nothing is left
  none_met : (tp bs : List C.B) (f : Frame C) (at : ℕ) (x : Met C) → drop at tp ≡ bs → (pull C cap f at x bs).find ≡ None
      → ((pull C cap f at x bs).todo ≡ []) × (drop (pull C cap f at x bs).at tp ≡ [])
  none_met tp [] f at (found x s m es) e q = (cc, cc)
  none_met tp (b ∷ bs) f at (found x s m es) e q = (cc, cc)
  none_met tp [] f at (dry s m) e q = (refl, e)
  none_met tp (b ∷ bs) f at (dry s m) e q = none_met tp bs (step C f b).0 (suc at) (meet C cap s m (step C f b).1) (drop_next b bs tp at e) q

  pub none_left : (tp : List C.B) (f : Frame C) (at : ℕ) (s : Held C) (m : List C.K) (es : List (Event C)) (p : Pulled C)
      → pull C cap f at (meet C cap s m es) (drop at tp) ≡ p → p.find ≡ None → coming s es f (drop at tp) ≡ ([], (p.held, p.frame))
  none_left tp f at s m es p e q =
      let z = none_met tp (drop at tp) f at (meet C cap s m es) refl (ap (λ (p : Pulled C). p.find) e ∙ q) in
      let t : p.todo ≡ [] = sym (ap (λ (p : Pulled C). p.todo) e) ∙ z.0 in
      let d : drop p.at tp ≡ [] = sym (ap (λ (p : Pulled C). drop p.at tp) e) ∙ z.1 in
      pulled_first tp f at s m es p e ∙ rw (q, t, d)
