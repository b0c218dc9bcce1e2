-- SHADOW: the same events, taken in by two receivers, of which the second holds the same, or nothing while the first still holds a
-- packet begun before. So it stays, and of the packets begun later both hand out the same. Assumes nothing.
use Prim.Native.Nat.{ℕ, ◌+◌}
use mathlib.Core.Path.{◌≡◌, refl, sym, ap, ap₂, ◌∙◌, subst}
use mathlib.Core.Logic.{◌⊎◌, inl, inr}
use mathlib.Core.Bool.{Bool, true, false, cond}
use mathlib.Core.List.{List, [], ◌∷◌, ◌++◌}
use lib.Dec.{eqb, leb}
use lib.ListN.{length}
use Rattle.std.specs.Prelude.{Option, None, Some}
use Rattle.receiver.specs.declared.kind.Kind.{Kind}
use Rattle.receiver.specs.declared.kind.Kind.TheVariants.{Fill, Reserved, Complete, First, Middle, Last}
use Rattle.receiver.specs.Frame.{Code, Event, lose, gap, opened, entered, fed, closed}
use Rattle.receiver.specs.Join.{Finding, notice, Held, free, held, Took, meets, finish, listed, fits, further, admit, take_in, holding, finds}
use Rattle.receiver.proofs.Facts.{Placed, InEvents, InHeld, in_take}
use Rattle.indexed.specs.Packets.{Packet, packet_of, handed, chosen}
use Rattle.indexed.proofs.Lists.{chosen_append}
use Rattle.indexed.proofs.Gives.{handed_append, Gives, one_gives}

-- new: which places are later ones
module _ (C : Code) (room : ℕ) (P : Placed C) (new : C.S → Bool) where
  abbrev pub Old : C.S → Type 0
  Old p = new p ≡ false

  abbrev pub is_new : Packet C → Bool
  is_new q = new (P.from q.tag)

  -- of these finds the packets begun later
  abbrev pub later : List (Finding C) → List (Packet C)
  later fs = chosen is_new (handed C fs)

  pub later_append : (xs ys : List (Finding C)) → later (xs ++ ys) ≡ later xs ++ later ys
  later_append xs ys = ap (chosen is_new) (handed_append C xs ys) ∙ chosen_append is_new (handed C xs) (handed C ys)

  abbrev pub Shadow : Held C → Held C → Type 0
  Shadow s free = (s ≡ free) ⊎ ((t : C.T) × (d : List C.K) × (s ≡ held t d) × Old (P.from t))
  Shadow s (held t d) = s ≡ held t d

  pub same : (s : Held C) → Shadow s s
  same free = inl refl
  same (held t d) = refl

  pub older : (s : Held C) → InHeld C Old P s → Shadow s free
  older free q = inl refl
  older (held t d) q = inr (t, d, refl, q)

  -- a relation that holds of equals, and of an old packet and nothing
  by : (R : Held C → Held C → Type 0) → ((s : Held C) → R s s) → ((t : C.T) (d : List C.K) → Old (P.from t) → R (held t d) free)
      → (s u : Held C) → Shadow s u → R s u
  by R a b s free (inl e) = subst (λ (x : Held C). R x free) (sym e) (a free)
  by R a b s free (inr (t, d, e, o)) = subst (λ (x : Held C). R x free) (sym e) (b t d o)
  by R a b s (held t d) e = subst (λ (x : Held C). R x (held t d)) (sym e) (a (held t d))

  -- ---- what an event leaves of an old packet, and of nothing

  cond_old : (b : Bool) (t : C.T) (d : List C.K) (f : Option (Finding C)) → Old (P.from t) → Shadow (cond {A = Took C} b (held t d, None) (free, f)).0 free
  cond_old true t d f o = older (held t d) o
  cond_old false t d f o = inl refl

  meets_old : (k : Kind) (h : C.H) (t : C.T) (d : List C.K) → Old (P.from t) → Shadow (meets C k h (held t d)).0 (meets C k h free).0
  meets_old Fill h t d o = inl refl
  meets_old Reserved h t d o = inl refl
  meets_old Complete h t d o = inl refl
  meets_old First h t d o = inl refl
  meets_old Middle h t d o = cond_old (eqb (C.sort t) (C.content h)) t d (Some (notice 14 (C.place h))) o
  meets_old Last h t d o = cond_old (eqb (C.sort t) (C.content h)) t d (Some (notice 14 (C.place h))) o

  further_old : (h : C.H) (t : C.T) (d : List C.K) → Old (P.from t) → Shadow (further C room h (held t d)).0 free
  further_old h t d o =
      cond_old (leb (length d + C.size h) room) (C.join t h) d (Some (notice 15 (C.place h))) (ap new (P.join_is t h) ∙ o)

  admit_old : (k : Kind) (h : C.H) (t : C.T) (d : List C.K) → Old (P.from t) → Shadow (admit C room k h (held t d)).0 (admit C room k h free).0
  admit_old Fill h t d o = inl refl
  admit_old Reserved h t d o = inl refl
  admit_old Complete h t d o = same (fits C room h (C.begin h) []).0
  admit_old First h t d o = same (fits C room h (C.begin h) []).0
  admit_old Middle h t d o = further_old h t d o
  admit_old Last h t d o = further_old h t d o

  finish_old : (k : Kind) (t : C.T) (d : List C.K) → Old (P.from t) → Shadow (finish C k (held t d)).0 (finish C k free).0
  finish_old Fill t d o = older (held t d) o
  finish_old Reserved t d o = older (held t d) o
  finish_old Complete t d o = inl refl
  finish_old First t d o = older (held t d) o
  finish_old Middle t d o = older (held t d) o
  finish_old Last t d o = inl refl

  event_old : (e : Event C) (t : C.T) (d : List C.K) → Old (P.from t) → Shadow (take_in C room (held t d) e).0 (take_in C room free e).0
  event_old (lose n p) t d o = inl refl
  event_old gap t d o = inl refl
  event_old (opened h) t d o = meets_old (C.kind h) h t d o
  event_old (entered h) t d o = admit_old (C.kind h) h t d o
  event_old (fed b) t d o = older (held t (d ++ b ∷ [])) o
  event_old (closed h) t d o = finish_old (C.kind h) t d o

  -- ---- what an event gives of nothing later

  abbrev one : Held C → Event C → List (Packet C)
  one s e = later (listed C (take_in C room s e).1)

  one_event : (e : Event C) (s : Held C) → InHeld C Old P s → one s e ≡ []
  one_event e s q = go (one_gives C room e s)
    where
      go : Gives C room s (handed C (listed C (take_in C room s e).1)) → one s e ≡ []
      go (inl z) = ap (chosen is_new) z
      go (inr (t, d, z, y)) =
          let o : Old (P.from t) = subst (λ (u : Held C). InHeld C Old P u) z q in
          ap (chosen is_new) y ∙ ap (λ (b : Bool). cond b (packet_of C false t d ∷ []) []) o

  -- ---- any number of events

  pub old_finds : (es : List (Event C)) (s : Held C) → InEvents C Old es → InHeld C Old P s → later (finds C room s es) ≡ []
  old_finds [] s a q = refl
  old_finds (e ∷ es) s a q =
      later_append (listed C (take_in C room s e).1) (finds C room (take_in C room s e).0 es)
      ∙ ap₂ (λ (x y : List (Packet C)). x ++ y) (one_event e s q) (old_finds es (take_in C room s e).0 a.1 (in_take C Old P room s e a.0 q))

  shadow_one : (e : Event C) (s u : Held C) → Shadow s u → Shadow (take_in C room s e).0 (take_in C room u e).0
  shadow_one e =
      by (λ (x y : Held C). Shadow (take_in C room x e).0 (take_in C room y e).0) (λ x. same (take_in C room x e).0) (λ t d o. event_old e t d o)

  pub shadow : (es : List (Event C)) (s u : Held C) → Shadow s u → Shadow (holding C room s es) (holding C room u es)
  shadow [] s u r = r
  shadow (e ∷ es) s u r = shadow es (take_in C room s e).0 (take_in C room u e).0 (shadow_one e s u r)

  pub shadow_finds : (es : List (Event C)) (s u : Held C) → Shadow s u → later (finds C room s es) ≡ later (finds C room u es)
  shadow_finds [] s u r = refl
  shadow_finds (e ∷ es) s u r =
      later_append (listed C (take_in C room s e).1) (finds C room (take_in C room s e).0 es)
      ∙ ap₂ (λ (x y : List (Packet C)). x ++ y)
      (by (λ (x y : Held C). one x e ≡ one y e) (λ x. refl) (λ t d o. one_event e (held t d) o ∙ sym (one_event e free tt)) s u r)
      (shadow_finds es (take_in C room s e).0 (take_in C room u e).0 (shadow_one e s u r))
      ∙ sym (later_append (listed C (take_in C room u e).1) (finds C room (take_in C room u e).0 es))
