-- WHAT EVENTS GIVE: an event hands out the packet that is held, as an ordinary one, or none. Assumes nothing.
use Prim.Native.Nat.{ℕ, ◌+◌}
use mathlib.Core.Path.{◌≡◌, refl, sym, ap, ◌∙◌, subst}
use mathlib.Core.Logic.{◌⊎◌, inl, inr}
use mathlib.Core.Bool.{Bool, true, false, cond}
use mathlib.Core.List.{List, [], ◌∷◌, ◌++◌, append_assoc}
use lib.Dec.{eqb, leb}
use lib.ListN.{length}
use Rattle.std.specs.Prelude.{None, Some}
use Rattle.receiver.specs.declared.kind.Kind.{Kind}
use Rattle.receiver.specs.declared.kind.Kind.TheVariants.{Fill, Reserved, Complete, First, Middle, Last}
use Rattle.receiver.specs.Frame.{Code, Event, lose, gap, opened, entered, fed, closed}
use Rattle.receiver.specs.Join as J
use Rattle.receiver.specs.Join.{Finding, notice, low, ordinary, Held, free, held, Took, broken, goes_on, meets, finish, listed, fits, further, admit, take_in, holding, finds}
use Rattle.indexed.specs.Packets.{Packet, packet_of, handed, All}
use Rattle.indexed.proofs.Lists.{all_append}

pub handed_append : (C : Code) (xs ys : List (Finding C)) → handed C (xs ++ ys) ≡ handed C xs ++ handed C ys
handed_append C [] ys = refl
handed_append C (notice n p ∷ xs) ys = handed_append C xs ys
handed_append C (low t d ∷ xs) ys = ap (λ l. packet_of C true t d ∷ l) (handed_append C xs ys)
handed_append C (ordinary t d ∷ xs) ys = ap (λ l. packet_of C false t d ∷ l) (handed_append C xs ys)

pub holding_append : (C : Code) (room : ℕ) (s : Held C) (xs ys : List (Event C)) → holding C room s (xs ++ ys) ≡ holding C room (holding C room s xs) ys
holding_append C room s [] ys = refl
holding_append C room s (x ∷ xs) ys = holding_append C room (take_in C room s x).0 xs ys

pub finds_append : (C : Code) (room : ℕ) (s : Held C) (xs ys : List (Event C))
    → finds C room s (xs ++ ys) ≡ finds C room s xs ++ finds C room (holding C room s xs) ys
finds_append C room s [] ys = refl
finds_append C room s (x ∷ xs) ys =
    let s' : Held C = (take_in C room s x).0 in
    let now : List (Finding C) = listed C (take_in C room s x).1 in
    ap (λ l. now ++ l) (finds_append C room s' xs ys) ∙ sym (append_assoc now (finds C room s' xs) (finds C room (holding C room s' xs) ys))

module _ (C : Code) (room : ℕ) where
  abbrev pub Gives : Held C → List (Packet C) → Type 0
  Gives s qs = (qs ≡ []) ⊎ ((t : C.T) × (d : List C.K) × (s ≡ held t d) × (qs ≡ packet_of C false t d ∷ []))

  abbrev TookIn : Held C → Took C → Type 0
  TookIn s o = Gives s (handed C (listed C o.1))

  one_cond : (s : Held C) (b : Bool) (x y : Held C) (n : ℕ) (p : C.S) → TookIn s (cond {A = Took C} b (x, None) (y, Some (notice n p)))
  one_cond s true x y n p = inl refl
  one_cond s false x y n p = inl refl

  one_broken : (h : C.H) (s : Held C) → TookIn s (broken C h s)
  one_broken h free = inl refl
  one_broken h (held t d) = inl refl

  one_goes_on : (h : C.H) (s : Held C) → TookIn s (goes_on C h s)
  one_goes_on h free = inl refl
  one_goes_on h (held t d) = one_cond (held t d) (eqb (C.sort t) (C.content h)) (held t d) free 14 (C.place h)

  one_meets : (k : Kind) (h : C.H) (s : Held C) → TookIn s (meets C k h s)
  one_meets Fill h s = one_broken h s
  one_meets Reserved h s = one_broken h s
  one_meets Complete h s = one_broken h s
  one_meets First h s = one_broken h s
  one_meets Middle h s = one_goes_on h s
  one_meets Last h s = one_goes_on h s

  one_fits : (s : Held C) (h : C.H) (t : C.T) (d : List C.K) → TookIn s (fits C room h t d)
  one_fits s h t d = one_cond s (leb (length d + C.size h) room) (held t d) free 15 (C.place h)

  one_further : (h : C.H) (s : Held C) → TookIn s (further C room h s)
  one_further h free = inl refl
  one_further h (held t d) = one_fits (held t d) h (C.join t h) d

  one_admit : (k : Kind) (h : C.H) (s : Held C) → TookIn s (admit C room k h s)
  one_admit Fill h s = inl refl
  one_admit Reserved h s = inl refl
  one_admit Complete h s = one_fits s h (C.begin h) []
  one_admit First h s = one_fits s h (C.begin h) []
  one_admit Middle h s = one_further h s
  one_admit Last h s = one_further h s

  one_handed : (s : Held C) → TookIn s (J.handed C s)
  one_handed free = inl refl
  one_handed (held t d) = inr (t, d, refl, refl)

  one_finish : (k : Kind) (s : Held C) → TookIn s (finish C k s)
  one_finish Fill s = inl refl
  one_finish Reserved s = inl refl
  one_finish Complete s = one_handed s
  one_finish First s = inl refl
  one_finish Middle s = inl refl
  one_finish Last s = one_handed s

  pub one_gives : (e : Event C) (s : Held C) → TookIn s (take_in C room s e)
  one_gives (lose n p) s = inl refl
  one_gives gap s = inl refl
  one_gives (opened h) s = one_meets (C.kind h) h s
  one_gives (entered h) s = one_admit (C.kind h) h s
  one_gives (fed b) s = inl refl
  one_gives (closed h) s = one_finish (C.kind h) s

  abbrev Plain : Packet C → Type 0
  Plain q = q.is_low ≡ false

  plain : (s : Held C) (qs : List (Packet C)) → Gives s qs → All Plain qs
  plain s qs (inl e) = subst (All Plain) (sym e) tt
  plain s qs (inr (t, d, z, e)) = subst (All Plain) (sym e) (refl, tt)

  -- all of them are ordinary
  pub all_plain : (es : List (Event C)) (s : Held C) → All (λ (q : Packet C). q.is_low ≡ false) (handed C (finds C room s es))
  all_plain [] s = tt
  all_plain (e ∷ es) s =
      let now : List (Finding C) = listed C (take_in C room s e).1 in
      let rest : List (Finding C) = finds C room (take_in C room s e).0 es in
      subst (All Plain) (sym (handed_append C now rest))
      (all_append Plain (handed C now) (handed C rest) (plain s (handed C now) (one_gives e s)) (all_plain es (take_in C room s e).0))
