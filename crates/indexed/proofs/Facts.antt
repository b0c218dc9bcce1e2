-- FACTS OF PLACES (`receiver.Facts`), up to where an EP is foretold and through any number of inputs. Assumes nothing.
use Prim.Native.Nat.{ℕ, zero, suc}
use mathlib.Core.Path.{◌≡◌, refl}
use mathlib.Core.List.{List, [], ◌∷◌, map}
use native.Mathlib.Omega.{arith}
use lib.ListN.{take}
use Rattle.std.specs.Prelude.{Some}
use Rattle.receiver.specs.Frame.{Code, Frame, lost, idle, head, body, step, after, events}
use Rattle.receiver.specs.Forecast.{foretold, Way, stays, drops, gaps, goes}
use Rattle.receiver.specs.Join.{Held, free, held}
use Rattle.receiver.proofs.Facts.{Placed, InFrame, InEvents, InBytes, InWay, InHeld, in_append, in_inside, in_next}
use Rattle.indexed.specs.Packets.{All}
use Rattle.indexed.proofs.Seam.{back}
use Rattle.indexed.proofs.Ways.{marks, Stand, next, run}

module _ (C : Code) (Q : C.S → Type 0) where
  abbrev pub InWays : List (Way C) → Type 0
  InWays [] = Unit {0}
  InWays (w ∷ ws) = InWay C Q w × InWays ws

  in_bytes : (bs : List C.B) → All Q (map C.mark bs) → InBytes C Q bs
  in_bytes [] a = tt
  in_bytes (b ∷ bs) a = (a.0, in_bytes bs a.1)

  pub in_way : (w : Way C) → All Q (marks C w) → InWay C Q w
  in_way stays a = tt
  in_way (drops n p) a = tt
  in_way gaps a = tt
  in_way (goes p n bs) a = in_bytes bs a

  module _ (P : Placed C) where
    -- up to the foretold place no EP begins: of every place that is known before
    pub in_foretold : (n : ℕ) (f : Frame C) (bs : List C.B) → foretold C f bs ≡ Some n → InFrame C Q f
        → InFrame C Q (after C f (take n bs)) × InEvents C Q (events C f (take n bs))
    in_foretold zero f bs e a = (a, tt)
    in_foretold (suc n) f [] e a = (a, tt)
    in_foretold (suc n) lost (b ∷ bs) e a = let z : ◌≡◌ {A = ℕ} 0 1 = cc in absurd (omega arith)
    in_foretold (suc n) idle (b ∷ bs) e a = let z : ◌≡◌ {A = ℕ} 0 1 = cc in absurd (omega arith)
    in_foretold (suc n) (head p k hs) (b ∷ bs) e a =
        let f : Frame C = head p k hs in
        let s = in_inside C Q P f b refl a in
        let r = in_foretold n (step C f b).0 bs (back C (foretold C (step C f b).0 bs) n e) s.0 in
        (r.0, in_append C Q (step C f b).1 (events C (step C f b).0 (take n bs)) s.1 r.1)
    in_foretold (suc n) (body h k) (b ∷ bs) e a =
        let f : Frame C = body h k in
        let s = in_inside C Q P f b refl a in
        let r = in_foretold n (step C f b).0 bs (back C (foretold C (step C f b).0 bs) n e) s.0 in
        (r.0, in_append C Q (step C f b).1 (events C (step C f b).0 (take n bs)) s.1 r.1)

    abbrev pub InStand : Stand C → Type 0
    InStand t = InFrame C Q t.frame × InHeld C Q P t.held

    pub in_run : (room : ℕ) (ws : List (Way C)) (t : Stand C) → InWays ws → InStand t → InStand (run C room t ws)
    in_run room [] t r a = a
    in_run room (w ∷ ws) t r a = in_run room ws (next C room t w) r.1 (in_next C Q P room w t.frame t.held r.0 a.0 a.1)

module _ (C : Code) (P : Placed C) (Q R : C.S → Type 0) (f : (p : C.S) → Q p → R p) where
  weaker_frame : (g : Frame C) → InFrame C Q g → InFrame C R g
  weaker_frame lost a = tt
  weaker_frame idle a = tt
  weaker_frame (head p k hs) a = f p a
  weaker_frame (body h k) a = f (C.place h) a

  weaker_held : (s : Held C) → InHeld C Q P s → InHeld C R P s
  weaker_held free a = tt
  weaker_held (held t d) a = f (P.from t) a

  pub weaker : (t : Stand C) → InStand C Q P t → InStand C R P t
  weaker t a = (weaker_frame t.frame a.0, weaker_held t.held a.1)
