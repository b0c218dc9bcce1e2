-- RESTART: what is unfinished began at some place. A receiver started afresh at the input that has that place comes to stand where the
-- one that had read all before stands; and where nothing is unfinished, one started afresh goes on alike. Assumes nothing.
use Prim.Native.Nat.{ℕ}
use mathlib.Core.Path.{◌≡◌, refl, sym, ap, ap₂, ◌∙◌, subst}
use mathlib.Core.Logic.{inl, inr}
use mathlib.Core.Bool.{Bool, true, false}
use mathlib.Core.List.{List, [], ◌∷◌}
use native.Mathlib.Omega.{arith}
use Rattle.std.specs.Prelude.{Option, None, Some}
use Rattle.receiver.specs.Frame.{Code, Frame, lost, idle, head, body}
use Rattle.receiver.specs.Forecast.{Way}
use Rattle.receiver.specs.Join.{Held, free, held}
use Rattle.receiver.proofs.Facts.{Placed, InFrame, InHeld}
use Rattle.indexed.specs.Packets.{Packet, All}
use Rattle.indexed.proofs.Lists.{all_chosen}
use Rattle.indexed.proofs.Ways.{Stand, fresh, next, run, gives}
use Rattle.indexed.proofs.Facts.{InStand}
use Rattle.indexed.proofs.Shadow.{Shadow, is_new, same}
use Rattle.indexed.proofs.Near.{Rests, rests_next, Aged, Beside, Near, near_next, near_gives, near_run}

not_both : {A : Type 0} → true ≡ false → A
not_both e = let z : ◌≡◌ {A = ℕ} 0 1 = cc in absurd (omega arith)

pub none_is : {A B : Type 0} {p : A} → None ≡ Some p → B
none_is e = let z : ◌≡◌ {A = ℕ} 0 1 = cc in absurd (omega arith)

module _ (C : Code) (P : Placed C) where
  abbrev pub frame_from : Frame C → Option C.S
  frame_from lost = None
  frame_from idle = None
  frame_from (head p k hs) = Some p
  frame_from (body h k) = Some (C.place h)

  abbrev pub held_from : Held C → Frame C → Option C.S
  held_from free f = frame_from f
  held_from (held t d) f = Some (P.from t)

  -- where what is unfinished began: the packet held, or else the header or EP under way
  abbrev pub pending : Stand C → Option C.S
  pending t = held_from t.held t.frame

  pub in_frame : (Q : C.S → Type 0) (p : C.S) (f : Frame C) → InFrame C Q f → frame_from f ≡ Some p → Q p
  in_frame Q p lost a e = none_is e
  in_frame Q p idle a e = none_is e
  in_frame Q p (head i k hs) a e = let z : i ≡ p = cc in subst Q z a
  in_frame Q p (body h k) a e = let z : C.place h ≡ p = cc in subst Q z a

  in_held : (Q : C.S → Type 0) (p : C.S) (s : Held C) (f : Frame C) → InFrame C Q f → InHeld C Q P s → held_from s f ≡ Some p → Q p
  in_held Q p free f a q e = in_frame Q p f a e
  in_held Q p (held t d) f a q e = let z : P.from t ≡ p = cc in subst Q z q

  pub in_pending : (Q : C.S → Type 0) (p : C.S) (t : Stand C) → InStand C Q P t → pending t ≡ Some p → Q p
  in_pending Q p t a e = in_held Q p t.held t.frame a.0 a.1 e

module _ (C : Code) (room : ℕ) (P : Placed C) (new : C.S → Bool) where
  held_same : (p : C.S) (s u : Held C) (f : Frame C) → new p ≡ true → held_from C P s f ≡ Some p → Shadow C room P new s u → s ≡ u
  held_same p s free f n e (inl z) = z
  held_same p s free f n e (inr (t, d, z, o)) =
      let i : P.from t ≡ p = let x : Some (P.from t) ≡ Some p = subst (λ (y : Held C). held_from C P y f ≡ Some p) z e in cc in
      not_both (sym n ∙ ap new (sym i) ∙ o)
  held_same p s (held t d) f n e z = z

  equals : (t u : Stand C) → t.frame ≡ u.frame → t.held ≡ u.held → t ≡ u
  equals t u a b = ap₂ (λ (f : Frame C) (s : Held C). record { frame = f; held = s }) a b

  -- of old places only before these inputs, and behind them something unfinished that began later
  pub restart : (ws : List (Way C)) (t : Stand C) (p : C.S) → Rests C room t.frame t.held → Aged C room P new t
      → pending C P (run C room t ws) ≡ Some p → new p ≡ true → run C room t ws ≡ run C room (fresh C) ws
  restart ws t p r a e n = go (near_run C room P new ws t (fresh C) r (inr (record { is_fresh = refl; is_old = a })))
    where
      T : Stand C
      T = run C room t ws

      U : Stand C
      U = run C room (fresh C) ws

      go : Near C room P new T U → T ≡ U
      go (inl b) = equals T U b.frame (held_same p T.held U.held T.frame n e b.held)
      go (inr x) = not_both (sym n ∙ in_pending C P (λ q. new q ≡ false) p T x.is_old e)

-- ---- two receivers that go on alike

module _ (C : Code) (room : ℕ) (P : Placed C) where
  abbrev every : C.S → Bool
  every p = true

  -- near, with no old place: equal, or the first between two EPs with nothing held and the second out of step
  pub record Same (t u : Stand C) : Type 0 where
    pub rests : Rests C room t.frame t.held
    pub near : Near C room P every t u

  pub same_equal : (t u : Stand C) → Rests C room t.frame t.held → t ≡ u → Same t u
  same_equal t u r e =
      record { rests = r; near = inl (subst (λ (x : Stand C). Beside C room P every t x) e (record { frame = refl; held = same C room P every t.held })) }

  frame_none : (f : Frame C) → frame_from C P f ≡ None → InFrame C (λ p. true ≡ false) f
  frame_none lost e = tt
  frame_none idle e = tt
  frame_none (head p k hs) e = none_is (sym e)
  frame_none (body h k) e = none_is (sym e)

  held_none : (s : Held C) (f : Frame C) → held_from C P s f ≡ None → InFrame C (λ p. true ≡ false) f × InHeld C (λ p. true ≡ false) P s
  held_none free f e = (frame_none f e, tt)
  held_none (held t d) f e = none_is (sym e)

  pub same_fresh : (t : Stand C) → Rests C room t.frame t.held → pending C P t ≡ None → Same t (fresh C)
  same_fresh t r e = record { rests = r; near = inr (record { is_fresh = refl; is_old = held_none t.held t.frame e }) }

  pub same_gives : (w : Way C) (t u : Stand C) → Same t u → gives C room t w ≡ gives C room u w
  same_gives w t u s =
      sym (all_chosen (is_new C room P every) (gives C room t w) (trivial (gives C room t w)))
      ∙ near_gives C room P every w t u s.rests s.near
      ∙ all_chosen (is_new C room P every) (gives C room u w) (trivial (gives C room u w))
    where
      trivial : (qs : List (Packet C)) → All (λ q. true ≡ true) qs
      trivial [] = tt
      trivial (q ∷ qs) = (refl, trivial qs)

  pub same_next : (w : Way C) (t u : Stand C) → Same t u → Same (next C room t w) (next C room u w)
  same_next w t u s = record { rests = rests_next C room w t.frame t.held s.rests; near = near_next C room P every w t u s.rests s.near }

  none_frame : (f : Frame C) → InFrame C (λ p. true ≡ false) f → frame_from C P f ≡ None
  none_frame lost a = refl
  none_frame idle a = refl
  none_frame (head p k hs) a = not_both a
  none_frame (body h k) a = not_both a

  none_held : (s : Held C) (f : Frame C) → InFrame C (λ p. true ≡ false) f → InHeld C (λ p. true ≡ false) P s → held_from C P s f ≡ None
  none_held free f a q = none_frame f a
  none_held (held t d) f a q = not_both q

  shadow_held : (s u : Held C) → Shadow C room P every s u → s ≡ u
  shadow_held s free (inl e) = e
  shadow_held s free (inr (t, d, e, o)) = not_both o
  shadow_held s (held t d) e = e

  pub same_pending : (t u : Stand C) → Same t u → pending C P t ≡ pending C P u
  same_pending t u s = go s.near
    where
      go : Near C room P every t u → pending C P t ≡ pending C P u
      go (inl b) = ap₂ (λ (x : Held C) (f : Frame C). held_from C P x f) (shadow_held t.held u.held b.held) b.frame
      go (inr x) = none_held t.held t.frame x.is_old.0 x.is_old.1 ∙ ap (pending C P) (sym x.is_fresh)
