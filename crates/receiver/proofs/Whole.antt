-- THE FINDS OF A WHOLE TP, called until none, are those that its definition reads, in its order. Each call takes the first
-- of the finds to come and leaves the others. Assumes nothing.
use mathlib.Core.Path.{ap, refl, sym, ◌∙◌, ◌≡◌}
use mathlib.Core.Bool.{Bool, cond, false, true}
use mathlib.Core.List.{List, [], ◌∷◌}
use Prim.Native.Nat.{suc, zero, ℕ, ◌%◌, ◌+◌, ◌-◌, ◌<◌, ◌≤◌}
use native.Mathlib.Omega.{arith}
use lib.Dec.{eqb, leb}
use lib.ListN.{drop, get_or, length, take}
use lib.Seq.{drop-drop}
use borrow.Author.Tests.{eq-eqb}
use Rattle.std.specs.Prelude.{None, Some, Option}
use Rattle.digits.specs.Digits.{number}
use Rattle.wire.specs.Reading.{stream_of, tp_number_in, version_of}
use Rattle.wire.specs.declared.Header.{Header}
use Rattle.receiver.specs.declared.Receiver.{Receiver}
use Rattle.receiver.specs.declared.Stage.{Stage}
use Rattle.receiver.specs.declared.Stamp.{Stamp}
use Rattle.receiver.specs.declared.stages.Stamps.{Stamps}
use Rattle.receiver.specs.declared.kind.Kind.{Kind}
use Rattle.receiver.specs.declared.kind.Kind.TheVariants.{Complete, Fill, First, Last, Middle, Reserved}
use Rattle.receiver.specs.Call.{counted_of, first_call, gone, low_call, payload_call, unchanged, word_call}
use Rattle.receiver.specs.Forecast.{dropped}
use Rattle.receiver.specs.Frame.{Frame}
use Rattle.receiver.specs.Join.{Held, low, notice}
use Rattle.receiver.specs.Kind.{kind_of}
use Rattle.receiver.specs.Low.{begin_of, ep_at, given, llep, wire}
use Rattle.receiver.specs.Lows.{and_then, lows, lows_of, one_of, passed_of}
use Rattle.receiver.specs.Place.{place_at, placed, start_of}
use Rattle.receiver.specs.State.{frame_of, held_of, todo_of}
use Rattle.receiver.specs.Tp.{Listing, Setting, Stand, behind, brings, dropping, heard, low_part_if, refusing, worded}
use Rattle.receiver.proofs.ByList.{by_list, due_list, turns_free}
use Rattle.receiver.proofs.Rest.{afterwards, before, brought, due_rest_lem, due_rest, heard_from, low_on, low_rest, stage_rest, standing, start_rest_lem}
use Rattle.receiver.proofs.Walking.{inside_at}
use Rattle.receiver.specs.declared.Find.TheVariants as F
use Rattle.receiver.specs.declared.Stage.TheVariants as S

-- in a TP of this stamp
module _ (r : Receiver) (t : Stamp) (o : ℕ) (tp m : List ℕ) where
  abbrev At : Frame wire
  At = frame_of r.walk.began r.walk.phase

  abbrev With : Held wire
  With = held_of r.walk.kept m

  abbrev Next : Stage → ℕ → Listing
  Next g i = stage_rest (length m) t g i At With (todo_of r.walk.began r.walk.phase) tp

  abbrev ByCalls : ℕ → ℕ → Type 0
  ByCalls k i = low_rest (length m) t k At With o i tp ≡ afterwards (length m) t (low_call (lows k tp i) r t o tp m) tp

  stage_next : (more : Bool) (k i : ℕ) → 4 ≤ i → i ≤ length tp → length tp - i < k
      → cond more (low_rest (length m) t k At With o i tp) (due_rest (length m) t At With o i tp) ≡ Next (cond more (S.Low o) (S.Due o)) i
  stage_next true k i a b c = turns_free (length m) t At With o tp k (suc (length tp)) i a b c (omega arith)
  stage_next false k i a b c = refl

  low_kind : (d : Kind) (h : Header) (more : Bool) (k at : ℕ) → 4 ≤ at → at + 7 + h.size ≤ length tp → length tp - (at + 7 + h.size) < k
      → ((i : ℕ) → 4 ≤ i → i ≤ length tp → length tp - i < k → ByCalls k i)
      → before (given d (place_at t at) h (drop at tp)) (cond more (low_rest (length m) t k At With o (at + 7 + h.size) tp) (due_rest (length m) t At With o (at + 7 + h.size) tp))
      ≡ afterwards (length m) t (low_call (and_then (passed_of d h more at) (λ i. lows k tp i)) r t o tp m) tp
  low_kind Fill h true k at a b c ih = ih (at + 7 + h.size) (omega arith) b c
  low_kind Fill h false k at a b c ih = due_rest_lem (length m) t r o (at + 7 + h.size) tp m refl
  low_kind Complete h more k at a b c ih =
      ap (before (given Complete (place_at t at) h (drop at tp))) (stage_next more k (at + 7 + h.size) (omega arith) b c)
      ∙ ap (λ (l : List ℕ). before (low (begin_of (ep_at (place_at t at) h)) (take h.size l) ∷ []) (Next (cond more (S.Low o) (S.Due o)) (at + 7 + h.size))) (drop-drop 6 at tp)
  low_kind Reserved h more k at a b c ih = ap (before (notice 16 (place_at t at) ∷ [])) (stage_next more k (at + 7 + h.size) (omega arith) b c)
  low_kind First h more k at a b c ih = ap (before (notice 16 (place_at t at) ∷ [])) (stage_next more k (at + 7 + h.size) (omega arith) b c)
  low_kind Middle h more k at a b c ih = ap (before (notice 16 (place_at t at) ∷ [])) (stage_next more k (at + 7 + h.size) (omega arith) b c)
  low_kind Last h more k at a b c ih = ap (before (notice 16 (place_at t at) ∷ [])) (stage_next more k (at + 7 + h.size) (omega arith) b c)

  low_by : (l : Option (Header × Bool)) (k at : ℕ) → llep (drop at tp) ≡ l → 4 ≤ at → length tp - at < suc k
      → ((i : ℕ) → 4 ≤ i → i ≤ length tp → length tp - i < k → ByCalls k i)
      → low_on (length m) t l At With o at tp (λ i. low_rest (length m) t k At With o i tp)
      ≡ afterwards (length m) t (low_call (and_then (one_of l at) (λ i. lows k tp i)) r t o tp m) tp
  low_by None k at e a c ih = start_rest_lem (length m) t r (dropped wire 11 (place_at t at) (placed t at (drop at tp))) at tp m refl
  low_by (Some (h, more)) k at e a c ih = let q = inside_at tp at h more e in low_kind (kind_of h) h more k at a q (omega arith) ih

  low_calls : (k at : ℕ) → 4 ≤ at → at ≤ length tp → length tp - at < k → ByCalls k at
  unfolding low_rest lows
  low_calls zero at a b c = absurd (omega arith)
  low_calls (suc k) at a b c = low_by (llep (drop at tp)) k at refl a c (λ i x y z. low_calls k i x y z)

  pub low_call_rest : (at : ℕ) → 4 ≤ at → at ≤ length tp
      → low_rest (length m) t (suc (length tp)) At With o at tp ≡ afterwards (length m) t (low_call (lows_of tp at) r t o tp m) tp
  unfolding lows_of
  low_call_rest at a b = low_calls (suc (length tp)) at a b (omega arith)

-- where a receiver stands, and its settings
abbrev pub stand_of : Receiver → List ℕ → Stand
stand_of r m = standing (frame_of r.walk.began r.walk.phase) (held_of r.walk.kept m)

abbrev pub setting_of : Receiver → Setting
setting_of r = record { size = r.size; stream = r.stream; room = r.limit }

module _ (r : Receiver) (tp m : List ℕ) (l : 4 ≤ length tp) where
  abbrev Here : Frame wire
  Here = frame_of r.walk.began r.walk.phase

  abbrev Holds : Held wire
  Holds = held_of r.walk.kept m

  word_rest : (t : Stamp) (o : Option ℕ) → brought (length m) Here Holds (worded o t (drop 4 tp)) ≡ afterwards (length m) t (word_call o r t tp m) tp
  word_rest t None = refl
  word_rest t (Some w) = by (leb 2048 w)
    where
      by : (b : Bool)
          → brought (length m) Here Holds (behind (low_part_if b t (drop 4 tp)) (low_part_if b t (drop 4 tp)).behind t (w % 2048) (drop 4 tp))
          ≡ afterwards (length m) t (payload_call b r t (w % 2048) tp m) tp
      by true = by_list (length m) t Here Holds (w % 2048) tp l ∙ low_call_rest r t (w % 2048) tp m 4 (omega arith) l
      by false = due_list (length m) t Here Holds (w % 2048) tp 4 (omega arith) l ∙ due_rest_lem (length m) t r (w % 2048) 4 tp m refl

-- a TP's first call, by these stamps; the TP is then counted
module _ (r : Receiver) (n : Stamps) (tp m : List ℕ) (fresh : r.stage ≡ S.Fresh) (l : 4 ≤ length tp) where
  pub fresh_rest : length tp ≡ r.size
      → heard_from (length m) (held_of r.walk.kept m) (heard (setting_of r) n (frame_of r.walk.began r.walk.phase) tp)
      ≡ afterwards (length m) n.now (first_call r (counted_of r) n tp m) tp
  unfolding brings first_call
  fresh_rest e = rw (eq-eqb (length tp) r.size e) (by (eqb (stream_of (get_or tp 0 0)) r.stream) (eqb (version_of (get_or tp 0 0)) 0))
    where
      W : Option ℕ
      W = tp_number_in (number 0 (take 3 (drop 1 tp)))

      by : (a b : Bool)
          → brought (length m) (frame_of r.walk.began r.walk.phase) (held_of r.walk.kept m)
          (cond a (cond b (worded W n.now (drop 4 tp)) (dropping 7 n.now)) (refusing 8 n.before))
          ≡ afterwards (length m) n.now
          (cond a (cond b (word_call W (counted_of r) n.now tp m) (gone (counted_of r) n.now 7 m)) (unchanged r n.before (F.Notice 8) 8 m)) tp
      by true true = word_rest (counted_of r) tp m l n.now W
      by true false = refl
      by false b =
          ap (λ (g : Stage). before (notice 8 (start_of n.before) ∷ []) (stage_rest (length m) n.now g r.walk.at (frame_of r.walk.began r.walk.phase) (held_of r.walk.kept m) (todo_of r.walk.began r.walk.phase) tp)) (sym fresh)
