-- Reading the chunks of a stream of EPs: in step as the stream is read whole, out of step from the first EP that begins.
-- Assumes nothing.
use Prim.Native.Nat.{ℕ, suc}
use mathlib.Core.Path.{◌≡◌, refl, sym, ap, ◌∙◌, subst}
use mathlib.Core.Bool.{Bool, true, false, cond}
use mathlib.Core.List.{List, [], ◌∷◌, ◌++◌, append_assoc}
use native.Mathlib.Omega.{arith}
use borrow.Author.Tests.{eq-eqb}
use lib.ListN.{drop}
use Rattle.std.specs.Prelude.{Some}
use Rattle.downlink.proofs.plain.Frame.{Code, Frame, lost, idle, head, body, Event, Out, step, after, events}
use Rattle.downlink.proofs.plain.Forecast.{Phase, off, between, inside, phase, foretold, Start, upon, judge, set_out, start}

module _ (C : Code) where
  -- a byte of the stream, and whether an EP begins with it
  abbrev pub Cell : Type 0
  Cell = Bool × C.B

  abbrev pub bytes : List Cell → List C.B
  bytes [] = []
  bytes (c ∷ cs) = c.1 ∷ bytes cs

  -- how many cells stand before the first at which an EP begins (all, if there is none)
  abbrev pub before : List Cell → ℕ
  before [] = 0
  before (c ∷ cs) = cond c.0 0 (suc (before cs))

  -- the cells from there on
  abbrev pub from_mark : List Cell → List Cell
  from_mark [] = []
  from_mark (c ∷ cs) = cond c.0 (c ∷ cs) (from_mark cs)

  abbrev pub flat : List (List Cell) → List Cell
  flat [] = []
  flat (cs ∷ css) = cs ++ flat css

  abbrev pub run : Frame C → List C.B → Out C
  run s bs = (after C s bs, events C s bs)

  -- the ordinary bytes of one TP, set about as its offset says
  abbrev pub read : Start C → List C.B → Out C
  read t bs = (after C t.frame (drop t.past bs), t.told ++ events C t.frame (drop t.past bs))

  abbrev pub part : Frame C → ℕ → List C.B → Out C
  part s n bs = read (start C s n bs) bs

  -- what is heard of TPs that carry these chunks
  abbrev pub heard : Frame C → List (List Cell) → List (Event C)
  heard s [] = []
  heard s (cs ∷ css) = (part s (before cs) (bytes cs)).1 ++ heard (part s (before cs) (bytes cs)).0 css

  pub bytes_append : (xs ys : List Cell) → bytes (xs ++ ys) ≡ bytes xs ++ bytes ys
  bytes_append [] ys = refl
  bytes_append (x ∷ xs) ys = ap (λ l. x.1 ∷ l) (bytes_append xs ys)

  pub after_append : (s : Frame C) (xs ys : List C.B) → after C s (xs ++ ys) ≡ after C (after C s xs) ys
  after_append s [] ys = refl
  after_append s (x ∷ xs) ys = after_append (step C s x).0 xs ys

  pub events_append : (s : Frame C) (xs ys : List C.B) → events C s (xs ++ ys) ≡ events C s xs ++ events C (after C s xs) ys
  events_append s [] ys = refl
  events_append s (x ∷ xs) ys = rw (events_append (step C s x).0 xs ys, append_assoc)

  drop_before : (cs : List Cell) → drop (before cs) (bytes cs) ≡ bytes (from_mark cs)
  drop_before [] = refl
  drop_before ((true, b) ∷ cs) = refl
  drop_before ((false, b) ∷ cs) = drop_before cs

  abbrev pub due_phase : Bool → Phase
  due_phase true = between
  due_phase false = inside

  -- reading from `s` is in step with the stream: at each cell it stands between two EPs exactly if one begins there
  abbrev pub Tracks : Frame C → List Cell → Type 0
  Tracks s [] = phase C s ≡ off → ⊥
  Tracks s (c ∷ cs) = (phase C s ≡ due_phase c.0) × Tracks (step C s c.1).0 cs

  in_step : (s : Frame C) (cs : List Cell) → Tracks s cs → phase C s ≡ off → ⊥
  in_step s [] t e = t e
  in_step s ((true, b) ∷ cs) t e = let z : ◌≡◌ {A = ℕ} 0 1 = cc t.0 in omega arith
  in_step s ((false, b) ∷ cs) t e = let z : ◌≡◌ {A = ℕ} 0 1 = cc t.0 in omega arith

  pub tracks_left : (s : Frame C) (xs ys : List Cell) → Tracks s (xs ++ ys) → Tracks s xs
  tracks_left s [] ys t = in_step s ys t
  tracks_left s (x ∷ xs) ys t = (t.0, tracks_left (step C s x.1).0 xs ys t.1)

  pub tracks_right : (s : Frame C) (xs ys : List Cell) → Tracks s (xs ++ ys) → Tracks (after C s (bytes xs)) ys
  tracks_right s [] ys t = t
  tracks_right s (x ∷ xs) ys t = tracks_right (step C s x.1).0 xs ys t.1

  foretold_tracks : (s : Frame C) (cs : List Cell) → Tracks s cs → foretold C s (bytes cs) ≡ Some (before cs)
  foretold_tracks lost [] t = absurd (t refl)
  foretold_tracks idle [] t = refl
  foretold_tracks (head k hs) [] t = refl
  foretold_tracks (body h k) [] t = refl
  foretold_tracks s ((true, b) ∷ cs) t = rw t.0
  foretold_tracks s ((false, b) ∷ cs) t = rw (t.0, foretold_tracks (step C s b).0 cs t.1)

  abbrev as_is : Frame C → Start C
  as_is s = record { told = []; frame = s; past = 0 }

  agreed : (s : Frame C) (n : ℕ) (bs : List C.B) → foretold C s bs ≡ Some n → judge C (foretold C s bs) s n bs ≡ as_is s
  agreed s n bs e = rw (e, eq-eqb n n refl)

  set_out_in_step : (p : Phase) (s : Frame C) (n : ℕ) (bs : List C.B) → (p ≡ off → ⊥) → foretold C s bs ≡ Some n → set_out C p s n bs ≡ as_is s
  set_out_in_step off s n bs h e = absurd (h refl)
  set_out_in_step between s n bs h e = agreed s n bs e
  set_out_in_step inside s n bs h e = agreed s n bs e

  part_tracks : (s : Frame C) (cs : List Cell) → Tracks s cs → part s (before cs) (bytes cs) ≡ run s (bytes cs)
  part_tracks s cs t =
      ap (λ (x : Start C). read x (bytes cs)) (set_out_in_step (phase C s) s (before cs) (bytes cs) (in_step s cs t) (foretold_tracks s cs t))

  pub heard_tracks : (s : Frame C) (css : List (List Cell)) → Tracks s (flat css) → heard s css ≡ events C s (bytes (flat css))
  heard_tracks s [] t = refl
  heard_tracks s (cs ∷ css) t =
      ap (λ (o : Out C). o.1 ++ heard o.0 css) (part_tracks s cs (tracks_left s cs (flat css) t))
      ∙ ap (λ l. events C s (bytes cs) ++ l) (heard_tracks (after C s (bytes cs)) css (tracks_right s cs (flat css) t))
      ∙ sym (ap (events C s) (bytes_append cs (flat css)) ∙ events_append s (bytes cs) (bytes (flat css)))

  pub from_mark_none : (cs ds : List Cell) → from_mark cs ≡ [] → from_mark (cs ++ ds) ≡ from_mark ds
  from_mark_none [] ds e = refl
  from_mark_none ((true, b) ∷ cs) ds e = cc
  from_mark_none ((false, b) ∷ cs) ds e = from_mark_none cs ds e

  pub from_mark_some : (cs ds : List Cell) (x : Cell) (xs : List Cell) → from_mark cs ≡ x ∷ xs → from_mark (cs ++ ds) ≡ x ∷ xs ++ ds
  from_mark_some [] ds x xs e = cc
  from_mark_some ((true, b) ∷ cs) ds x xs e = ap (λ l. l ++ ds) e
  from_mark_some ((false, b) ∷ cs) ds x xs e = from_mark_some cs ds x xs e

  -- a chunk out of step
  part_lost : (cs l : List Cell) → from_mark cs ≡ l → part lost (before cs) (bytes cs) ≡ run (upon C (bytes l)) (bytes l)
  part_lost cs l e = ap (λ (m : List C.B). run (upon C m) m) (drop_before cs ∙ ap bytes e)

  -- out of step, whatever made it so: the chunks are read as the stream is from the first EP that begins in them
  pub heard_lost : (css : List (List Cell)) → Tracks idle (from_mark (flat css))
      → heard lost css ≡ events C idle (bytes (from_mark (flat css)))
  heard_lost [] t = refl
  heard_lost (cs ∷ css) t = go (from_mark cs) refl (λ h. heard_lost css h)
    where
      go : (l : List Cell) → from_mark cs ≡ l
          → (Tracks idle (from_mark (flat css)) → heard lost css ≡ events C idle (bytes (from_mark (flat css))))
          → heard lost (cs ∷ css) ≡ events C idle (bytes (from_mark (flat (cs ∷ css))))
      go [] e ih =
          ap (λ (o : Out C). o.1 ++ heard o.0 css) (part_lost cs [] e)
          ∙ ih (subst (Tracks idle) (from_mark_none cs (flat css) e) t)
          ∙ ap (λ l. events C idle (bytes l)) (sym (from_mark_none cs (flat css) e))
      go (x ∷ xs) e ih =
          let u : Tracks idle (x ∷ xs ++ flat css) = subst (Tracks idle) (from_mark_some cs (flat css) x xs e) t in
          ap (λ (o : Out C). o.1 ++ heard o.0 css) (part_lost cs (x ∷ xs) e)
          ∙ ap (λ l. events C idle (bytes (x ∷ xs)) ++ l) (heard_tracks (after C idle (bytes (x ∷ xs))) css (tracks_right idle (x ∷ xs) (flat css) u))
          ∙ sym (events_append idle (bytes (x ∷ xs)) (bytes (flat css)))
          ∙ ap (events C idle) (sym (bytes_append (x ∷ xs) (flat css)))
          ∙ ap (λ l. events C idle (bytes l)) (sym (from_mark_some cs (flat css) x xs e))
