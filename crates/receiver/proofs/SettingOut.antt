-- What the forecast decides, and where reading resumes. Assumes nothing.
use mathlib.Core.Path.{ap, refl, sym, ◌∙◌, ◌≡◌}
use mathlib.Core.Bool.{Bool, cond, false, true}
use mathlib.Core.List.{List, [], ◌∷◌}
use Prim.Native.Nat.{min, suc, zero, ℕ, ◌+◌, ◌-◌, ◌<◌, ◌≤◌}
use native.Mathlib.Omega.{arith}
use lib.Dec.{eqb, ltb}
use lib.ListN.{drop, length, length-drop}
use borrow.Author.Tests.{eq-eqb, eqb-false, eqb-true, ltb-false, ltb-true, ne_eqb}
use Rattle.std.specs.Prelude.{Err, Ok, Result, None, Option, Some}
use Rattle.receiver.specs.declared.Place.{Place}
use Rattle.receiver.specs.declared.Stamp.{Stamp}
use Rattle.receiver.specs.declared.outset.Fore.{Fore}
use Rattle.receiver.specs.declared.outset.Fore.TheVariants.{At, Bad, Off}
use Rattle.receiver.specs.declared.walk.Kept.{Kept}
use Rattle.receiver.specs.declared.walk.Phase.{Phase}
use Rattle.receiver.specs.declared.walk.Phase.TheVariants.{Body, Head, Judged, Lost}
use Rattle.receiver.specs.declared.walk.Walk.{Walk}
use Rattle.receiver.specs.Place.{placed, start_of}
use Rattle.receiver.proofs.Foretelling.{fore_any, fore_within}
use Rattle.receiver.proofs.Placing.{length_placed}
use Rattle.receiver.specs.Forecast.{Start, since, agree, between, foretold, inside, judge, off, phase, resume, set_out as decide, start, upon}
use Rattle.wire.specs.declared.Header.{Header}
use Rattle.digits.specs.Digits.{digits}
use Rattle.receiver.specs.Frame.{Event, Frame, idle, lose, lost, within}
use Rattle.receiver.specs.Low.{ep_at, wire}
use Rattle.receiver.specs.Outset.{fore_at, fore_of, lost_at, out_by, seen, set_out_of, upon_of}
use Rattle.receiver.specs.InWalk.{shown}
use Rattle.receiver.specs.InOutset.{SetsOut, set_out}
use Rattle.receiver.specs.Pull.{meet, pull}
use Rattle.receiver.specs.State.{Fine, Roomy, Settled, frame_of, from, headed, held_of, pull_of, todo_of}
use Rattle.receiver.specs.Forecast as F

-- what the forecast decides

pub by_off : (p : F.Phase) (o : Option ℕ) (z : Place) (f : Frame wire) (n : ℕ) (bs : List (Place × ℕ)) → seen p o ≡ Off → decide wire p z f n bs ≡ resume wire [] n bs
by_off off o z f n bs e = refl
by_off between None z f n bs e = cc
by_off between (Some k) z f n bs e = cc
by_off inside None z f n bs e = cc
by_off inside (Some k) z f n bs e = cc

pub by_bad : (p : F.Phase) (o : Option ℕ) (z : Place) (f : Frame wire) (n : ℕ) (bs : List (Place × ℕ)) → foretold wire f bs ≡ o → seen p o ≡ Bad
    → decide wire p z f n bs ≡ resume wire (lose 12 (since wire z f) ∷ []) n bs
by_bad off o z f n bs q e = cc
by_bad between None z f n bs q e = ap (λ (o : Option ℕ). judge wire o z f n bs) q
by_bad between (Some k) z f n bs q e = cc
by_bad inside None z f n bs q e = ap (λ (o : Option ℕ). judge wire o z f n bs) q
by_bad inside (Some k) z f n bs q e = cc

pub by_at : (k : ℕ) (p : F.Phase) (o : Option ℕ) (z : Place) (f : Frame wire) (n : ℕ) (bs : List (Place × ℕ)) → foretold wire f bs ≡ o → seen p o ≡ At k
    → decide wire p z f n bs ≡ agree wire (eqb k n) z f n bs
by_at k off o z f n bs q e = cc
by_at k between None z f n bs q e = cc
by_at k between (Some i) z f n bs q e = let y : i ≡ k = cc in ap (λ (o : Option ℕ). judge wire o z f n bs) q ∙ ap (λ (i : ℕ). agree wire (eqb i n) z f n bs) y
by_at k inside None z f n bs q e = cc
by_at k inside (Some i) z f n bs q e = let y : i ≡ k = cc in ap (λ (o : Option ℕ). judge wire o z f n bs) q ∙ ap (λ (i : ℕ). agree wire (eqb i n) z f n bs) y

within_seen : (g : Place) (h : Header) (n : ℕ) (bs : List (Place × ℕ)) → seen (phase wire (within wire (ep_at g h) n)) (foretold wire (within wire (ep_at g h) n) bs) ≡ At (min n (length bs))
within_seen g h zero bs = ap (seen between) (fore_within (ep_at g h) 0 bs)
within_seen g h (suc n) bs = ap (seen inside) (fore_within (ep_at g h) (suc n) bs)

-- a header that turns out beyond repair is under way, and began there
pub bad_since : (z g : Place) (p : Phase) (bs : List (Place × ℕ)) → fore_at g p bs ≡ Bad → since wire z (frame_of g p) ≡ g
bad_since z g Lost bs e = cc
bad_since z g (Head n w) bs e = by (digits n w) e
  where
    idle_fore : (bs : List (Place × ℕ)) → seen (phase wire idle) (foretold wire idle bs) ≡ At 0
    idle_fore [] = refl
    idle_fore (b ∷ bs) = refl

    by : (hs : List ℕ) → seen (phase wire (headed g hs)) (foretold wire (headed g hs) bs) ≡ Bad → since wire z (headed g hs) ≡ g
    by [] e = let y : At 0 ≡ Bad = sym (idle_fore bs) ∙ e in cc
    by (x ∷ xs) e = refl
bad_since z g (Judged h) bs e = let y : At (min h.size (length bs)) ≡ Bad = sym (within_seen g h h.size bs) ∙ e in cc
bad_since z g (Body h n) bs e = let y : At (min n (length bs)) ≡ Bad = sym (within_seen g h n bs) ∙ e in cc

-- where reading resumes

upon_some : (l : List (Place × ℕ)) → 0 < length l → upon wire l ≡ idle
upon_some [] p = absurd (omega arith)
upon_some (b ∷ bs) p = refl

upon_none : (l : List (Place × ℕ)) → length l ≡ 0 → upon wire l ≡ lost
upon_none [] p = refl
upon_none (b ∷ bs) p = absurd (omega arith)

pub upon_frame : (g : Place) (t : Stamp) (at n : ℕ) (tp : List ℕ) → frame_of g (upon_of (at + n) (length tp)) ≡ upon wire (drop n (placed t at (drop at tp)))
unfolding upon_of
upon_frame g t at n tp = by (ltb (at + n) (length tp)) refl
  where
    ps : List (Place × ℕ)
    ps = drop n (placed t at (drop at tp))

    many : length ps ≡ length tp - at - n
    many = length-drop n (placed t at (drop at tp)) ∙ ap (λ (k : ℕ). k - n) (length_placed t at (drop at tp) ∙ length-drop at tp)

    by : (b : Bool) → ltb (at + n) (length tp) ≡ b → frame_of g (cond b (Head 0 0) Lost) ≡ upon wire ps
    by true q = let u = ltb-true (at + n) (length tp) q in sym (upon_some ps (omega (arith, many)))
    by false q = let u = ltb-false (at + n) (length tp) q in sym (upon_none ps (omega (arith, many)))

-- there nothing has begun
pub upon_any : (g g' : Place) (at len : ℕ) → frame_of g (upon_of at len) ≡ frame_of g' (upon_of at len)
unfolding upon_of
upon_any g g' at len = by (ltb at len)
  where
    by : (b : Bool) → frame_of g (cond b (Head 0 0) Lost) ≡ frame_of g' (cond b (Head 0 0) Lost)
    by true = refl
    by false = refl

pub upon_todo : (g : Place) (at len : ℕ) → todo_of g (upon_of at len) ≡ []
unfolding upon_of
upon_todo g at len = by (ltb at len)
  where
    by : (b : Bool) → todo_of g (cond b (Head 0 0) Lost) ≡ []
    by true = refl
    by false = refl

pub upon_fine : (cap at len : ℕ) (k : Option Kept) → Roomy cap k 0 → Fine cap (upon_of at len) k
unfolding upon_of
upon_fine cap at len k r = by (ltb at len)
  where
    by : (b : Bool) → Fine cap (cond b (Head 0 0) Lost) k
    by true = (omega arith, omega arith, r)
    by false = r

pub roomy : (cap : ℕ) (p : Phase) (k : Option Kept) → Fine cap p k → Roomy cap k 0
roomy cap Lost k f = f
roomy cap (Head n w) k f = f.2
roomy cap (Judged h) k f = f
roomy cap (Body h n) None f = f
roomy cap (Body h n) (Some k) f = omega arith

pub settled_todo : (g : Place) (p : Phase) → Settled p → todo_of g p ≡ []
settled_todo g Lost s = refl
settled_todo g (Head n w) s = refl
settled_todo g (Judged h) s = absurd (omega arith)
settled_todo g (Body h zero) s = absurd (omega arith)
settled_todo g (Body h (suc n)) s = refl

module _ (w : Walk) (n : ℕ) (tp : List ℕ) where
  abbrev frame : Frame wire
  frame = frame_of w.began w.phase

  abbrev bytes : Stamp → List (Place × ℕ)
  bytes t = placed t w.at (drop w.at tp)

  abbrev Fores : Fore → Type 0
  Fores x = (t : Stamp) → fore_at w.began w.phase (bytes t) ≡ x

  resumed : (t : Stamp) (es : List (Event wire)) (m : List ℕ) → start wire (start_of t) frame n (bytes t) ≡ resume wire es n (bytes t)
      → pull wire (length m) (upon wire (drop n (bytes t))) (w.at + n) (meet wire (length m) (held_of w.kept m) m es) (placed t (w.at + n) (drop (w.at + n) tp)) ≡ set_out (length m) t w n tp m
  unfolding set_out
  resumed t es m z = sym (ap (λ (x : Start wire). from (length m) t x w tp m) z)

  out_off : w.at + n ≤ length tp → Fores Off
      → SetsOut w n tp (Ok (record { at = w.at + n; phase = upon_of (w.at + n) (length tp); began = w.began; kept = w.kept }))
  unfolding SetsOut pull_of
  out_off fits e =
      let v = upon_todo w.began (w.at + n) (length tp) in
      record {
        same = λ t m.
            let u = upon_frame w.began t w.at n tp in
            rw (u, v) (resumed t [] m (by_off (phase wire frame) (foretold wire frame (bytes t)) (start_of t) frame n (bytes t) (e t)));
        sound = λ cap s. record { at = fits; phase = upon_fine cap (w.at + n) (length tp) w.kept (roomy cap w.phase w.kept s.phase) };
      }

  lost_by : (i : ℕ) → ((t : Stamp) → start wire (start_of t) frame n (bytes t) ≡ resume wire (lose i (lost_at i t w.began) ∷ []) n (bytes t))
      → SetsOut w n tp (Err i)
  unfolding SetsOut shown
  lost_by i z = λ t m.
      let g = lost_at i t w.began in
      let u = upon_frame g t w.at n tp in
      let v = upon_todo g (w.at + n) (length tp) in
      rw (u, v) (resumed t (lose i g ∷ []) m (z t))

  out_bad : Fores Bad → SetsOut w n tp (Err 12)
  out_bad e = lost_by 12 (λ t.
      by_bad (phase wire frame) (foretold wire frame (bytes t)) (start_of t) frame n (bytes t) refl (e t)
      ∙ ap (λ (g : Place). resume wire (lose 12 g ∷ []) n (bytes t)) (bad_since (start_of t) w.began w.phase (bytes t) (e t)))

  out_else : (k : ℕ) → Fores (At k) → (k ≡ n → ⊥) → SetsOut w n tp (Err 13)
  out_else k e d = lost_by 13 (λ t.
      by_at k (phase wire frame) (foretold wire frame (bytes t)) (start_of t) frame n (bytes t) refl (e t)
      ∙ ap (λ (b : Bool). agree wire b (start_of t) frame n (bytes t)) (ne_eqb k n d))

  out_agree : (k : ℕ) → Fores (At k) → k ≡ n → Settled w.phase → SetsOut w n tp (Ok w)
  unfolding SetsOut set_out pull_of
  out_agree k e d s =
      let v = settled_todo w.began w.phase s in
      let y : w.at + 0 ≡ w.at = omega arith in
      record {
        same = λ t m.
            let z : start wire (start_of t) frame n (bytes t) ≡ record { told = []; frame = frame; past = 0 } =
            by_at k (phase wire frame) (foretold wire frame (bytes t)) (start_of t) frame n (bytes t) refl (e t)
            ∙ ap (λ (b : Bool). agree wire b (start_of t) frame n (bytes t)) (eq-eqb k n d) in
            ap (λ (es : List (Event wire)). pull wire (length m) frame w.at (meet wire (length m) (held_of w.kept m) m es) (bytes t)) v
            ∙ sym (ap (λ (x : Start wire). from (length m) t x w tp m) z
            ∙ ap (λ (i : ℕ). pull wire (length m) frame i (meet wire (length m) (held_of w.kept m) m []) (placed t i (drop i tp))) y);
        sound = λ cap g. g;
      }

  -- WHAT THE FORECAST DECIDES answers the call that sets about the bytes
  pub sets_out : w.at + n ≤ length tp → Settled w.phase → SetsOut w n tp (set_out_of w n tp)
  unfolding set_out_of
  sets_out fits s = by (fore_of w.phase (drop w.at tp)) refl
    where
      any : (f : Fore) → fore_of w.phase (drop w.at tp) ≡ f → Fores f
      any f e t = fore_any w.began t w.at w.phase tp w.at (omega arith) s ∙ e

      by : (f : Fore) → fore_of w.phase (drop w.at tp) ≡ f → SetsOut w n tp (out_by f w n (length tp))
      by Off e = out_off fits (any Off e)
      by Bad e = out_bad (any Bad e)
      by (At k) e = go (eqb k n) refl
        where
          go : (b : Bool) → eqb k n ≡ b → SetsOut w n tp (cond {A = Result Walk ℕ} b (Ok w) (Err 13))
          go true q = out_agree k (any (At k) e) (eqb-true k n q) s
          go false q = out_else k (any (At k) e) (eqb-false k n q)

  pub set_by : (f : Fore) → fore_of w.phase (drop w.at tp) ≡ f → out_by f w n (length tp) ≡ set_out_of w n tp
  unfolding set_out_of
  set_by f e = sym (ap (λ (f : Fore). out_by f w n (length tp)) e)

  pub set_agree : (k : ℕ) → fore_of w.phase (drop w.at tp) ≡ At k → k ≡ n → Ok w ≡ set_out_of w n tp
  set_agree k e q = sym (ap (λ (b : Bool). cond {A = Result Walk ℕ} b (Ok w) (Err 13)) (eq-eqb k n q)) ∙ set_by (At k) e

  pub set_else : (k : ℕ) → fore_of w.phase (drop w.at tp) ≡ At k → (k ≡ n → ⊥) → Err 13 ≡ set_out_of w n tp
  set_else k e q = sym (ap (λ (b : Bool). cond {A = Result Walk ℕ} b (Ok w) (Err 13)) (ne_eqb k n q)) ∙ set_by (At k) e
