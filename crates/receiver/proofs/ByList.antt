-- THE LOW-LATENCY WALK BY LIST IS THE WALK BY POSITION: what `low_part` reads, and what stands behind it, is what the calls
-- walk. Both turns read the same LLEP, at `drop at tp`. Assumes nothing.
use mathlib.Core.Path.{ap, refl, sym, ◌∙◌, ◌≡◌}
use mathlib.Core.Bool.{Bool, cond, false, true}
use mathlib.Core.List.{List, [], append_assoc, ◌++◌, ◌∷◌}
use Prim.Native.Nat.{suc, zero, ℕ, ◌+◌, ◌-◌, ◌<◌, ◌≤◌}
use native.Mathlib.Omega.{arith}
use lib.Dec.{eqb, leb, ltb}
use lib.ListN.{drop, length, length-drop}
use lib.Seq.{drop-drop}
use Rattle.std.specs.Prelude.{None, Some, Option}
use Rattle.wire.specs.declared.Header.{Header}
use Rattle.receiver.specs.declared.Place.{Place}
use Rattle.receiver.specs.declared.Stamp.{Stamp}
use Rattle.receiver.specs.Forecast.{Start, by_way, dropped, drops, goes, outset, read, start, way_at}
use Rattle.receiver.specs.Frame.{Frame, Out, after, events, lose, lost}
use Rattle.receiver.specs.Join.{Finding, Held, finds, free, holding, notice}
use Rattle.receiver.specs.Kind.{kind_of}
use Rattle.receiver.specs.Low.{Part, ahead, given, llep, low_part, walk, walked, wire}
use Rattle.receiver.specs.Place.{place_at, placed, start_of}
use Rattle.receiver.specs.Tp.{Brings, Listing, behind, heard_by}
use Rattle.receiver.proofs.Placing.{drop_placed}
use Rattle.receiver.proofs.Rest.{before, brought, due_rest, heard_from, lost_rest, low_on, low_rest, standing, start_rest}
use Rattle.receiver.proofs.Walking.{inside_at}

-- A WAY IS AN OUTSET, READ ON

-- out of step the bytes bring nothing to light
lost_read : (n : ℕ) (p : Place) (l : List (Place × ℕ)) → ◌≡◌ {A = Out wire} (lost, lose n p ∷ []) (after wire lost l, lose n p ∷ events wire lost l)
lost_read n p [] = refl
lost_read n p (b ∷ l) = lost_read n p l

pub way_read : (p : Place) (f : Frame wire) (o n : ℕ) (bs : List (Place × ℕ)) → by_way wire f (way_at wire p o n bs) ≡ read wire (outset wire p f o n bs) bs
unfolding way_at outset
way_read p f o n bs = by (eqb o 2047) (leb (n + length bs) o) (ltb o n)
  where
    by : (a b c : Bool)
        → by_way wire f (cond a (goes p (length bs) bs) (cond b (drops 10 p) (cond c (drops 21 p) (goes p (o - n) bs))))
        ≡ read wire (cond a (start wire p f (length bs) bs) (cond b (dropped wire 10 p bs) (cond c (dropped wire 21 p bs) (start wire p f (o - n) bs)))) bs
    by true b c = refl
    by false true c = lost_read 10 p (drop (length bs) bs)
    by false false true = lost_read 21 p (drop (length bs) bs)
    by false false false = refl

module _ (cap : ℕ) (t : Stamp) (f : Frame wire) (s : Held wire) (o : ℕ) (tp : List ℕ) where
  abbrev made : Brings → Listing
  made x = brought cap f s x

  behind_before : (gs : List (Finding wire)) (p : Part) (b : Option (List ℕ)) (bs : List ℕ)
      → made (behind (ahead gs p) b t o bs) ≡ before gs (made (behind p b t o bs))
  behind_before gs p None bs =
      ap (λ (l : List (Finding wire)). (l, standing lost free)) (append_assoc gs p.finds (notice 11 (place_at t p.from) ∷ []))
  behind_before gs p (Some rest) bs =
      let h = heard_by f (behind p (Some rest) t o bs) in
      ap (λ (l : List (Finding wire)). (l, standing h.frame (holding wire cap s h.told))) (append_assoc gs p.finds (finds wire cap s h.told))

  -- the bytes behind a low-latency part that ends at this place
  abbrev from_here : ℕ → Part
  from_here i = record { finds = []; behind = Some (drop i tp); from = i }

  reading_at : (x : Start wire) (at : ℕ)
      → heard_from cap s (record { lows = []; told = (read wire x (placed t at (drop at tp))).1; frame = (read wire x (placed t at (drop at tp))).0 })
      ≡ start_rest cap t x s at tp
  reading_at x at =
      ap (λ l. heard_from cap s (record { lows = []; told = x.told ++ events wire x.frame l; frame = after wire x.frame l }))
      (drop_placed t x.past at (drop at tp) ∙ ap (placed t (at + x.past)) (drop-drop x.past at tp))

  pub due_list : (i : ℕ) → 4 ≤ i → i ≤ length tp → made (behind (from_here i) (Some (drop i tp)) t o (drop 4 tp)) ≡ due_rest cap t f s o i tp
  unfolding due_rest
  due_list i a b =
      let bs = placed t i (drop i tp) in
      let e : length (drop 4 tp) - length (drop i tp) ≡ i - 4 = omega (arith, length-drop 4 tp, length-drop i tp) in
      ap (λ (n : ℕ). made (record { lows = []; way = way_at wire (start_of t) o n bs })) e
      ∙ ap (λ (x : Out wire). heard_from cap s (record { lows = []; told = x.1; frame = x.0 })) (way_read (start_of t) f o (i - 4) bs)
      ∙ reading_at (outset wire (start_of t) f o (i - 4) bs) i

  -- one LLEP further
  step_on : (at n : ℕ) → drop (7 + n) (drop at tp) ≡ drop (at + 7 + n) tp
  step_on at n =
      let e : at + (7 + n) ≡ at + 7 + n = omega arith in
      drop-drop (7 + n) at tp ∙ ap (λ (i : ℕ). drop i tp) e

  abbrev listly : Part → Listing
  listly p = made (behind p p.behind t o (drop 4 tp))

  walk_by : (l : Option (Header × Bool)) (k k' at : ℕ) → llep (drop at tp) ≡ l → 4 ≤ at → length tp - at < suc k → length tp - at < suc k'
      → ((i : ℕ) → 4 ≤ i → i ≤ length tp → length tp - i < k → length tp - i < k' → listly (walk k t i (drop i tp)) ≡ low_rest cap t k' f s o i tp)
      → listly (walked l t at (drop at tp) (λ j rest. walk k t j rest)) ≡ low_on cap t l f s o at tp (λ i. low_rest cap t k' f s o i tp)
  walk_by None k k' at e a b c ih = sym (lost_rest cap t 11 (place_at t at) s at tp)
  walk_by (Some (h, true)) k k' at e a b c ih =
      let gs = given (kind_of h) (place_at t at) h (drop at tp) in
      let w = walk k t (at + 7 + h.size) (drop (7 + h.size) (drop at tp)) in
      let q = inside_at tp at h true e in
      behind_before gs w w.behind (drop 4 tp)
      ∙ ap (λ (l : List ℕ). before gs (listly (walk k t (at + 7 + h.size) l))) (step_on at h.size)
      ∙ ap (before gs) (ih (at + 7 + h.size) (omega arith) q (omega arith) (omega arith))
  walk_by (Some (h, false)) k k' at e a b c ih =
      let gs = given (kind_of h) (place_at t at) h (drop at tp) in
      let i = at + 7 + h.size in
      let q = inside_at tp at h false e in
      behind_before gs (record { finds = []; behind = Some (drop (7 + h.size) (drop at tp)); from = i }) (Some (drop (7 + h.size) (drop at tp))) (drop 4 tp)
      ∙ ap (λ (l : List ℕ). before gs (made (behind (record { finds = []; behind = Some l; from = i }) (Some l) t o (drop 4 tp)))) (step_on at h.size)
      ∙ ap (before gs) (due_list i (omega arith) q)

  -- with any count of turns that suffices
  pub walk_list : (k k' at : ℕ) → 4 ≤ at → at ≤ length tp → length tp - at < k → length tp - at < k'
      → listly (walk k t at (drop at tp)) ≡ low_rest cap t k' f s o at tp
  unfolding walk low_rest
  walk_list zero k' at a d b c = absurd (omega arith)
  walk_list (suc k) zero at a d b c = absurd (omega arith)
  walk_list (suc k) (suc k') at a d b c = walk_by (llep (drop at tp)) k k' at refl a b c (λ i x y z w. walk_list k k' i x y z w)

  -- BY LIST, BY POSITION
  pub by_list : 4 ≤ length tp
      → made (behind (low_part t 4 (drop 4 tp)) (low_part t 4 (drop 4 tp)).behind t o (drop 4 tp)) ≡ low_rest cap t (suc (length tp)) f s o 4 tp
  unfolding low_part
  by_list l = walk_list (suc (length (drop 4 tp))) (suc (length tp)) 4 (omega arith) l (omega (arith, length-drop 4 tp)) (omega arith)

  -- so the count of turns changes nothing
  pub turns_free : (k k' at : ℕ) → 4 ≤ at → at ≤ length tp → length tp - at < k → length tp - at < k' → low_rest cap t k f s o at tp ≡ low_rest cap t k' f s o at tp
  turns_free k k' at a d b c = sym (walk_list k k at a d b b) ∙ walk_list k k' at a d b c
