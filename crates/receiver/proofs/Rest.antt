-- The finds still to come of a begun TP: a call takes the first of them and leaves the others.
-- Assumes nothing.
use mathlib.Core.Path.{ap, refl, sym, ◌∙◌, ◌≡◌}
use mathlib.Core.Bool.{Bool, cond}
use mathlib.Core.List.{List, [], ◌++◌, ◌∷◌}
use Prim.Native.Nat.{suc, zero, ℕ, ◌+◌, ◌-◌}
use native.Mathlib.Omega.{arith}
use lib.ListN.{drop, length}
use Rattle.std.specs.Prelude.{None, Some, Option}
use Rattle.wire.specs.declared.Header.{Header}
use Rattle.receiver.specs.declared.About.{About}
use Rattle.receiver.specs.declared.Find.{Find}
use Rattle.receiver.specs.declared.Place.{Place}
use Rattle.receiver.specs.declared.Receiver.{Receiver}
use Rattle.receiver.specs.declared.Stage.{Stage}
use Rattle.receiver.specs.declared.Stamp.{Stamp}
use Rattle.receiver.specs.Call.{Gave, Said, due_call, ordinary_by, ordinary_call, start_call, walk_to}
use Rattle.receiver.specs.Forecast.{Start, dropped, outset}
use Rattle.receiver.specs.Frame.{Event, Frame, lose, lost}
use Rattle.receiver.specs.Join.{Finding, Held, finds, free, holding, listed, low, notice, ordinary}
use Rattle.receiver.specs.Kind.{kind_of}
use Rattle.receiver.specs.Low.{given, llep, tag_of, wire}
use Rattle.receiver.specs.Place.{place_at, placed, start_of}
use Rattle.receiver.specs.Pull.{Pulled, meet, pull}
use Rattle.receiver.specs.State.{frame_of, from, held_of}
use Rattle.receiver.specs.Tp.{Brings, Heard, Listing, Stand, heard_by}
use Rattle.receiver.specs.declared.Find.TheVariants as F
use Rattle.receiver.specs.declared.Stage.TheVariants as S
use Rattle.receiver.proofs.Placing.{drop_placed}
use Rattle.receiver.proofs.Pulling as Q

abbrev pub standing : Frame wire → Held wire → Stand
standing f s = record { frame = f; held = s }

abbrev pub before : List (Finding wire) → Listing → Listing
before fs l = (fs ++ l.0, l.1)

module _ (cap : ℕ) where
  -- the finds that an answer is: none where it says none
  abbrev pub saying : Find → About → List ℕ → List (Finding wire)
  saying F.Nothing a d = []
  saying F.Refused a d = []
  saying (F.Notice n) a d = notice n a.at ∷ []
  saying (F.Low c start n) a d = low (tag_of c a.repaired a.at) d ∷ []
  saying (F.Ordinary c n) a d = ordinary (tag_of c a.repaired a.at) d ∷ []

  -- what a TP brings, from what is held
  abbrev pub heard_from : Held wire → Heard → Listing
  heard_from s h = (h.lows ++ finds wire cap s h.told, standing h.frame (holding wire cap s h.told))

  abbrev pub brought : Frame wire → Held wire → Brings → Listing
  brought f s x = heard_from s (heard_by f x)

abbrev about_of : Said → About
about_of x = record { repaired = x.repaired; at = x.place }

-- in a TP of this stamp
module _ (cap : ℕ) (t : Stamp) where
  abbrev of : Q.Coming wire cap → Listing
  of w = (w.0, standing w.1.1 w.1.0)

  -- among ordinary bytes, or set about so
  abbrev pub plain_rest : Held wire → List (Event wire) → Frame wire → ℕ → List ℕ → Listing
  plain_rest s es f at tp = of (Q.coming wire cap s es f (placed t at (drop at tp)))

  abbrev pub start_rest : Start wire → Held wire → ℕ → List ℕ → Listing
  start_rest x s at tp = plain_rest s x.told x.frame (at + x.past) tp

  -- behind the low-latency part
  unfoldable pub due_rest : Frame wire → Held wire → ℕ → ℕ → List ℕ → Listing
  due_rest f s o at tp = start_rest (outset wire (start_of t) f o (at - 4) (placed t at (drop at tp))) s at tp

  -- in it, by position
  abbrev pub broken_rest : Held wire → ℕ → List ℕ → Listing
  broken_rest s at tp = start_rest (dropped wire 11 (place_at t at) (placed t at (drop at tp))) s at tp

  abbrev pub low_on : Option (Header × Bool) → Frame wire → Held wire → ℕ → ℕ → List ℕ → (ℕ → Listing) → Listing
  low_on None f s o at tp on = broken_rest s at tp
  low_on (Some (h, more)) f s o at tp on =
      before (given (kind_of h) (place_at t at) h (drop at tp)) (cond more (on (at + 7 + h.size)) (due_rest f s o (at + 7 + h.size) tp))

  unfoldable pub low_rest : ℕ → Frame wire → Held wire → ℕ → ℕ → List ℕ → Listing
  low_rest zero f s o at tp = broken_rest s at tp
  low_rest (suc k) f s o at tp = low_on (llep (drop at tp)) f s o at tp (λ i. low_rest k f s o i tp)

  abbrev pub stage_rest : Stage → ℕ → Frame wire → Held wire → List (Event wire) → List ℕ → Listing
  stage_rest S.Fresh at f s es tp = ([], standing f s)
  stage_rest (S.Low o) at f s es tp = low_rest (suc (length tp)) f s o at tp
  stage_rest (S.Due o) at f s es tp = due_rest f s o at tp
  stage_rest S.Plain at f s es tp = plain_rest s es f at tp

  -- what a call gave, and what it left
  abbrev pub afterwards : Gave → List ℕ → Listing
  afterwards g tp = before (saying cap g.said.find (about_of g.said) g.said.bytes) (stage_rest g.stage g.at g.frame g.held g.todo tp)

  -- ordinary bytes

  there : (at : ℕ) (tp : List ℕ) → drop at (placed t 0 tp) ≡ placed t at (drop at tp)
  there at tp = let e : 0 + at ≡ at = omega arith in drop_placed t at 0 tp ∙ ap (λ (i : ℕ). placed t i (drop at tp)) e

  abbrev Reads : Frame wire → ℕ → Held wire → List ℕ → List (Event wire) → List ℕ → Pulled wire → Type 0
  Reads f at s m es tp p = pull wire cap f at (meet wire cap s m es) (placed t at (drop at tp)) ≡ p

  by_start : (tp : List ℕ) (f : Frame wire) (at : ℕ) (s : Held wire) (m : List ℕ) (es : List (Event wire)) (p : Pulled wire)
      → Reads f at s m es tp p → pull wire cap f at (meet wire cap s m es) (drop at (placed t 0 tp)) ≡ p
  by_start tp f at s m es p e = ap (λ l. pull wire cap f at (meet wire cap s m es) l) (there at tp) ∙ e

  first : (x : Finding wire) (tp : List ℕ) (f : Frame wire) (at : ℕ) (s : Held wire) (m : List ℕ) (es : List (Event wire)) (p : Pulled wire)
      → Reads f at s m es tp p → p.find ≡ Some x
      → plain_rest s es f at tp ≡ before (x ∷ []) (plain_rest p.held p.todo p.frame p.at tp)
  first x tp f at s m es p e q =
      ap (λ l. of (Q.coming wire cap s es f l)) (sym (there at tp))
      ∙ ap of (Q.pulled_first wire cap (placed t 0 tp) f at s m es p (by_start tp f at s m es p e))
      ∙ ap (λ (x : Option (Finding wire)). of (Q.ahead_of wire cap (listed wire x) (Q.coming wire cap p.held p.todo p.frame (drop p.at (placed t 0 tp))))) q
      ∙ ap (λ l. of (Q.ahead_of wire cap (x ∷ []) (Q.coming wire cap p.held p.todo p.frame l))) (there p.at tp)

  pub ordinary_call_by : (x : Option (Finding wire)) (r : Receiver) (tp : List ℕ) (f : Frame wire) (at : ℕ) (s : Held wire) (m : List ℕ) (es : List (Event wire)) (p : Pulled wire)
      → Reads f at s m es tp p → p.find ≡ x → plain_rest s es f at tp ≡ afterwards (ordinary_by x r t p) tp
  ordinary_call_by None r tp f at s m es p e q =
      ap (λ l. of (Q.coming wire cap s es f l)) (sym (there at tp))
      ∙ ap of (Q.none_left wire cap (placed t 0 tp) f at s m es p (by_start tp f at s m es p e) q)
  ordinary_call_by (Some (notice n g)) r tp f at s m es p e q = first (notice n g) tp f at s m es p e q
  ordinary_call_by (Some (low c d)) r tp f at s m es p e q = first (low c d) tp f at s m es p e q
  ordinary_call_by (Some (ordinary c d)) r tp f at s m es p e q = first (ordinary c d) tp f at s m es p e q

  pub start_rest_lem : (r : Receiver) (x : Start wire) (at : ℕ) (tp m : List ℕ) → cap ≡ length m
      → start_rest x (held_of r.walk.kept m) at tp ≡ afterwards (start_call r t at x tp m) tp
  start_rest_lem r x at tp m e =
      let p = from cap t x (walk_to r at) tp m in
      ordinary_call_by p.find r tp x.frame (at + x.past) (held_of r.walk.kept m) m x.told p refl refl
      ∙ ap (λ (n : ℕ). afterwards (ordinary_call r t (from n t x (walk_to r at) tp m)) tp) e

  pub due_rest_lem : (r : Receiver) (o at : ℕ) (tp m : List ℕ) → cap ≡ length m
      → due_rest (frame_of r.walk.began r.walk.phase) (held_of r.walk.kept m) o at tp ≡ afterwards (due_call r t o at tp m) tp
  unfolding due_rest due_call
  due_rest_lem r o at tp m e =
      start_rest_lem r (outset wire (start_of t) (frame_of r.walk.began r.walk.phase) o (at - 4) (placed t at (drop at tp))) at tp m e

  -- out of step no more comes
  pub lost_rest : (n : ℕ) (g : Place) (s : Held wire) (at : ℕ) (tp : List ℕ)
      → start_rest (dropped wire n g (placed t at (drop at tp))) s at tp ≡ (notice n g ∷ [], standing lost free)
  lost_rest n g s at tp = by (placed t (at + length (placed t at (drop at tp))) (drop (at + length (placed t at (drop at tp))) tp))
    where
      by : (l : List (Place × ℕ)) → of (Q.coming wire cap s (lose n g ∷ []) lost l) ≡ (notice n g ∷ [], standing lost free)
      by [] = refl
      by (b ∷ l) = by l
