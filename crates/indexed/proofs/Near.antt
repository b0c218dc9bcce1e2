-- NEAR: a receiver that has read on, all of whose places are old, and one that starts afresh at this input. Either both are in step
-- at the same EPs and hold the same but for an old packet, or the second is still fresh and the first still knows old places only.
-- So it stays through any inputs, and of the packets begun later each input gives the same to both. Assumes nothing.
use Prim.Native.Nat.{ℕ, zero, suc, ◌<◌, ◌≤◌}
use mathlib.Core.Path.{◌≡◌, refl, sym, ap, ap₂, ◌∙◌, subst}
use mathlib.Core.Logic.{◌⊎◌, inl, inr}
use mathlib.Core.Bool.{Bool, true, false}
use mathlib.Core.List.{List, [], ◌∷◌, ◌++◌, append_assoc}
use native.Mathlib.Omega.{arith}
use native.Mathlib.Decide.{dec_le}
use lib.Dec.{eqb}
use lib.ListN.{length, take, drop, take-append-drop, drop_of_length-le}
use lib.Seq.{take_all}
use borrow.Author.Tests.{eqb-true}
use Rattle.std.specs.Prelude.{Option, None, Some}
use Rattle.receiver.specs.Frame.{Code, Frame, lost, idle, head, body, Event, lose, Out, within, whole, step, after, events}
use Rattle.receiver.specs.Forecast.{foretold, upon, resume, agree, judge, Way, stays, drops, gaps, goes, read, by_way}
use Rattle.receiver.specs.Join.{Finding, Held, free, holding, finds}
use Rattle.receiver.proofs.Facts.{Placed, InFrame, InEvents, InHeld, in_holding}
use Rattle.indexed.specs.Packets.{Packet, chosen}
use Rattle.indexed.proofs.Ways.{Stand, fresh, joins, next, run, gives}
use Rattle.indexed.proofs.Facts.{InStand, in_foretold}
use Rattle.indexed.proofs.Seam.{seam}
use Rattle.indexed.proofs.Gives.{holding_append, finds_append}
use Rattle.indexed.proofs.Shadow.{is_new, later, later_append, Shadow, same, older, old_finds, shadow, shadow_finds}

-- ---- out of step nothing is held

module _ (C : Code) (room : ℕ) where
  abbrev pub Rests : Frame C → Held C → Type 0
  Rests f s = f ≡ lost → s ≡ free

  not_lost : {A : Type 0} (h : C.H) (k : ℕ) → within C h k ≡ lost → A
  not_lost h zero e = let z : ◌≡◌ {A = ℕ} 0 1 = cc in absurd (omega arith)
  not_lost h (suc k) e = let z : ◌≡◌ {A = ℕ} 0 1 = cc in absurd (omega arith)

  rests_whole : (p : C.S) (o : Option C.H) (s : Held C) → Rests (whole C p o).0 (holding C room s (whole C p o).1)
  rests_whole p None s e = refl
  rests_whole p (Some h) s e = not_lost h (C.size h) e

  rests_step : (f : Frame C) (b : C.B) (s : Held C) → Rests f s → Rests (step C f b).0 (holding C room s (step C f b).1)
  rests_step lost b s r e = r refl
  rests_step idle b s r e = let z : ◌≡◌ {A = ℕ} 0 1 = cc in absurd (omega arith)
  rests_step (head p zero hs) b s r e = rests_whole p (C.decode p (hs ++ C.keep b ∷ [])) s e
  rests_step (head p (suc k) hs) b s r e = let z : ◌≡◌ {A = ℕ} 0 1 = cc in absurd (omega arith)
  rests_step (body h k) b s r e = not_lost h k e

  rests_read : (bs : List C.B) (f : Frame C) (s : Held C) → Rests f s → Rests (after C f bs) (holding C room s (events C f bs))
  rests_read [] f s r e = r e
  rests_read (b ∷ bs) f s r e =
      holding_append C room s (step C f b).1 (events C (step C f b).0 bs)
      ∙ rests_read bs (step C f b).0 (holding C room s (step C f b).1) (rests_step f b s r) e

  rests_agree : (b : Bool) (p : C.S) (f : Frame C) (s : Held C) (n : ℕ) (bs : List C.B) → Rests f s
      → Rests (read C (agree C b p f n bs) bs).0 (holding C room s (read C (agree C b p f n bs) bs).1)
  rests_agree true p f s n bs r = rests_read bs f s r
  rests_agree false p f s n bs r = rests_read (drop n bs) (upon C (drop n bs)) free (λ e. refl)

  rests_judge : (o : Option ℕ) (p : C.S) (f : Frame C) (s : Held C) (n : ℕ) (bs : List C.B) → Rests f s
      → Rests (read C (judge C o p f n bs) bs).0 (holding C room s (read C (judge C o p f n bs) bs).1)
  rests_judge None p f s n bs r = rests_read (drop n bs) (upon C (drop n bs)) free (λ e. refl)
  rests_judge (Some m) p f s n bs r = rests_agree (eqb m n) p f s n bs r

  pub rests_next : (w : Way C) (f : Frame C) (s : Held C) → Rests f s → Rests (by_way C f w).0 (holding C room s (by_way C f w).1)
  rests_next stays f s r = r
  rests_next (drops n p) f s r = λ e. refl
  rests_next gaps f s r = λ e. refl
  rests_next (goes p n bs) lost s r = rests_read (drop n bs) (upon C (drop n bs)) s (λ e. r refl)
  rests_next (goes p n bs) idle s r = rests_judge (foretold C idle bs) p idle s n bs r
  rests_next (goes p n bs) (head i k hs) s r = rests_judge (foretold C (head i k hs) bs) p (head i k hs) s n bs r
  rests_next (goes p n bs) (body h k) s r = rests_judge (foretold C (body h k) bs) p (body h k) s n bs r

  pub rests_run : (ws : List (Way C)) (t : Stand C) → Rests t.frame t.held → Rests (run C room t ws).frame (run C room t ws).held
  rests_run [] t r = r
  rests_run (w ∷ ws) t r = rests_run ws (next C room t w) (rests_next w t.frame t.held r)

-- ---- reading, from anywhere

module _ (C : Code) where
  after_append : (f : Frame C) (xs ys : List C.B) → after C f (xs ++ ys) ≡ after C (after C f xs) ys
  after_append f [] ys = refl
  after_append f (x ∷ xs) ys = after_append (step C f x).0 xs ys

  events_append : (f : Frame C) (xs ys : List C.B) → events C f (xs ++ ys) ≡ events C f xs ++ events C (after C f xs) ys
  events_append f [] ys = refl
  events_append f (x ∷ xs) ys = rw (events_append (step C f x).0 xs ys, append_assoc)

  some_left : (n : ℕ) (bs : List C.B) → n < length bs → upon C (drop n bs) ≡ idle
  some_left n [] l = absurd (omega arith)
  some_left zero (b ∷ bs) l = refl
  some_left (suc n) (b ∷ bs) l = some_left n bs (omega arith)

module _ (C : Code) (room : ℕ) (P : Placed C) (new : C.S → Bool) where
  abbrev pub Old : C.S → Type 0
  Old p = new p ≡ false

  abbrev Sh : Held C → Held C → Type 0
  Sh s u = Shadow C room P new s u

  abbrev lates : List (Finding C) → List (Packet C)
  lates fs = later C room P new fs

  -- every place that it knows is old
  abbrev pub Aged : Stand C → Type 0
  Aged t = InStand C Old P t

  pub record Beside (t u : Stand C) : Type 0 where
    pub frame : t.frame ≡ u.frame
    pub held : Sh t.held u.held

  pub record Apart (t u : Stand C) : Type 0 where
    pub is_fresh : u ≡ fresh C
    pub is_old : Aged t

  abbrev pub Near : Stand C → Stand C → Type 0
  Near t u = Beside t u ⊎ Apart t u

  -- from what is held, these events and this frame, and a fresh receiver over this input
  pub record Alike (s : Held C) (o : Out C) (w : Way C) : Type 0 where
    pub finds_are : lates (finds C room s o.1) ≡ lates (finds C room free (by_way C lost w).1)
    pub left : Near (joins C room s o) (next C room (fresh C) w)

  -- both read on from an EP's first byte, or neither does
  both : (es : List (Event C)) (s : Held C) (p : C.S) (n : ℕ) (bs : List C.B) → holding C room s es ≡ free → lates (finds C room s es) ≡ []
      → Alike s (read C (resume C es n bs) bs) (goes p n bs)
  both es s p n bs e z =
      let on : List (Event C) = events C (upon C (drop n bs)) (drop n bs) in
      let h : holding C room s (es ++ on) ≡ holding C room free on = holding_append C room s es on ∙ ap (λ (x : Held C). holding C room x on) e in
      record {
        finds_are = ap lates (finds_append C room s es on)
            ∙ later_append C room P new (finds C room s es) (finds C room (holding C room s es) on)
            ∙ ap₂ (λ (x : List (Packet C)) (y : Held C). x ++ lates (finds C room y on)) z e;
        left = inl (record {
          frame = refl;
          held = subst (λ (x : Held C). Sh x (holding C room free on)) (sym h) (same C room P new (holding C room free on));
        });
      }

  -- the offset agrees with the forecast, where an EP begins
  at_seam : (f : Frame C) (s : Held C) (p : C.S) (n : ℕ) (bs : List C.B) → foretold C f bs ≡ Some n → n < length bs
      → InFrame C Old f → InHeld C Old P s → Alike s (after C f bs, events C f bs) (goes p n bs)
  at_seam f s p n bs e l a q =
      let x : List C.B = take n bs in
      let y : List C.B = drop n bs in
      let i : after C f x ≡ idle = seam C n f bs e l in
      let u : upon C y ≡ idle = some_left C n bs l in
      let o = in_foretold C Old P n f bs e a in
      let X : Held C = holding C room s (events C f x) in
      let X_old : Sh X free = older C room P new X (in_holding C Old P room (events C f x) s o.1 q) in
      let frame_is : after C f bs ≡ after C idle y = ap (after C f) (sym (take-append-drop n bs)) ∙ after_append C f x y ∙ ap (λ (g : Frame C). after C g y) i in
      let events_are : events C f bs ≡ events C f x ++ events C idle y =
      ap (events C f) (sym (take-append-drop n bs)) ∙ events_append C f x y ∙ ap (λ (g : Frame C). events C f x ++ events C g y) i in
      let held_is : holding C room s (events C f bs) ≡ holding C room X (events C idle y) =
      ap (holding C room s) events_are ∙ holding_append C room s (events C f x) (events C idle y) in
      record {
        finds_are = ap (λ (z : List (Event C)). lates (finds C room s z)) events_are
            ∙ ap lates (finds_append C room s (events C f x) (events C idle y))
            ∙ later_append C room P new (finds C room s (events C f x)) (finds C room X (events C idle y))
            ∙ ap (λ (z : List (Packet C)). z ++ lates (finds C room X (events C idle y))) (old_finds C room P new (events C f x) s o.1 q)
            ∙ shadow_finds C room P new (events C idle y) X free X_old
            ∙ ap (λ (g : Frame C). lates (finds C room free (events C g y))) (sym u);
        left = inl (record {
          frame = frame_is ∙ ap (λ (g : Frame C). after C g y) (sym u);
          held = subst (λ (h : Held C). Sh h (holding C room free (events C (upon C y) y))) (sym held_is)
              (subst (λ (g : Frame C). Sh (holding C room X (events C idle y)) (holding C room free (events C g y))) (sym u)
              (shadow C room P new (events C idle y) X free X_old));
        });
      }

  -- where none begins: all that is read belongs to what was begun before
  no_seam : (f : Frame C) (s : Held C) (p : C.S) (n : ℕ) (bs : List C.B) → foretold C f bs ≡ Some n → length bs ≤ n
      → InFrame C Old f → InHeld C Old P s → Alike s (after C f bs, events C f bs) (goes p n bs)
  no_seam f s p n bs e l a q =
      let o = in_foretold C Old P n f bs e a in
      let all : take n bs ≡ bs = take_all n bs l in
      let none_is : drop n bs ≡ [] = drop_of_length-le bs l in
      let old : InEvents C Old (events C f bs) = subst (λ (x : List C.B). InEvents C Old (events C f x)) all o.1 in
      record {
        finds_are = old_finds C room P new (events C f bs) s old q ∙ ap (λ (z : List C.B). lates (finds C room free (events C (upon C z) z))) (sym none_is);
        left = inr (record {
          is_fresh = ap (λ (z : List C.B). stand (after C (upon C z) z) (holding C room free (events C (upon C z) z))) none_is;
          is_old = (subst (λ (x : List C.B). InFrame C Old (after C f x)) all o.0, in_holding C Old P room (events C f bs) s old q);
        });
      }
    where
      stand : Frame C → Held C → Stand C
      stand f s = record { frame = f; held = s }

  by_agree : (b : Bool) (p : C.S) (f : Frame C) (s : Held C) (n : ℕ) (bs : List C.B) → (b ≡ true → foretold C f bs ≡ Some n)
      → InFrame C Old f → InHeld C Old P s → Alike s (read C (agree C b p f n bs) bs) (goes p n bs)
  by_agree false p f s n bs e a q = both (lose 13 p ∷ []) s p n bs refl refl
  by_agree true p f s n bs e a q = go (dec_le (suc n) (length bs))
    where
      go : Dec (suc n ≤ length bs) → Alike s (after C f bs, events C f bs) (goes p n bs)
      go (yes l) = at_seam f s p n bs (e refl) l a q
      go (no l) = no_seam f s p n bs (e refl) (omega arith) a q

  by_judge : (o : Option ℕ) (p : C.S) (f : Frame C) (s : Held C) (n : ℕ) (bs : List C.B) → foretold C f bs ≡ o
      → InFrame C Old f → InHeld C Old P s → Alike s (read C (judge C o p f n bs) bs) (goes p n bs)
  by_judge None p f s n bs e a q = both (judge C None p f n bs).told s p n bs refl refl
  by_judge (Some m) p f s n bs e a q = by_agree (eqb m n) p f s n bs (λ t. e ∙ ap Some (eqb-true m n t)) a q

  one_way : (w : Way C) (f : Frame C) (s : Held C) → InFrame C Old f → InHeld C Old P s → Rests C room f s → Alike s (by_way C f w) w
  one_way stays f s a q r = record { finds_are = refl; left = inr (record { is_fresh = refl; is_old = (a, q) }) }
  one_way (drops n p) f s a q r = record { finds_are = refl; left = inl (record { frame = refl; held = inl refl }) }
  one_way gaps f s a q r = record { finds_are = refl; left = inl (record { frame = refl; held = inl refl }) }
  one_way (goes p n bs) lost s a q r = both [] s p n bs (r refl) refl
  one_way (goes p n bs) idle s a q r = by_judge (foretold C idle bs) p idle s n bs refl a q
  one_way (goes p n bs) (head i k hs) s a q r = by_judge (foretold C (head i k hs) bs) p (head i k hs) s n bs refl a q
  one_way (goes p n bs) (body h k) s a q r = by_judge (foretold C (body h k) bs) p (body h k) s n bs refl a q

  -- ---- one input, for both

  beside_next : (w : Way C) (t u : Stand C) → Beside t u → Beside (next C room t w) (next C room u w)
  beside_next w t u b =
      record {
        frame = ap (λ (f : Frame C). (by_way C f w).0) b.frame;
        held = subst (λ (f : Frame C). Sh (holding C room t.held (by_way C t.frame w).1) (holding C room u.held (by_way C f w).1))
            b.frame (shadow C room P new (by_way C t.frame w).1 t.held u.held b.held);
      }

  pub near_next : (w : Way C) (t u : Stand C) → Rests C room t.frame t.held → Near t u → Near (next C room t w) (next C room u w)
  near_next w t u r (inl b) = inl (beside_next w t u b)
  near_next w t u r (inr x) =
      subst (λ (v : Stand C). Near (next C room t w) (next C room v w)) (sym x.is_fresh) (one_way w t.frame t.held x.is_old.0 x.is_old.1 r).left

  -- each input gives both the same of the packets begun later
  pub near_gives : (w : Way C) (t u : Stand C) → Rests C room t.frame t.held → Near t u
      → chosen (is_new C room P new) (gives C room t w) ≡ chosen (is_new C room P new) (gives C room u w)
  near_gives w t u r (inl b) =
      shadow_finds C room P new (by_way C t.frame w).1 t.held u.held b.held
      ∙ ap (λ (f : Frame C). lates (finds C room u.held (by_way C f w).1)) b.frame
  near_gives w t u r (inr x) =
      (one_way w t.frame t.held x.is_old.0 x.is_old.1 r).finds_are
      ∙ ap (λ (v : Stand C). lates (finds C room v.held (by_way C v.frame w).1)) (sym x.is_fresh)

  pub near_run : (ws : List (Way C)) (t u : Stand C) → Rests C room t.frame t.held → Near t u → Near (run C room t ws) (run C room u ws)
  near_run [] t u r n = n
  near_run (w ∷ ws) t u r n = near_run ws (next C room t w) (next C room u w) (rests_next C room w t.frame t.held r) (near_next w t u r n)
