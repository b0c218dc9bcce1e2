-- WHEN A TP IS OVER can be told from the answer: none, 1, or 6 to 9; after any other the same TP is lent again.
-- Assumes nothing.
use mathlib.Core.Path.{refl, ◌≡◌}
use mathlib.Core.Bool.{Bool, cond, false, true}
use mathlib.Core.List.{List}
use Prim.Native.Nat.{suc, zero, ℕ, ◌%◌, ◌+◌, ◌-◌, ◌≤◌}
use native.Mathlib.Omega.{arith}
use lib.Dec.{eqb, leb}
use lib.ListN.{drop, get_or, length, take}
use borrow.Author.Tests.{eq-eqb, ne_eqb}
use Rattle.std.specs.Prelude.{None, Some, Option}
use Rattle.digits.specs.Digits.{number}
use Rattle.wire.specs.Reading.{stream_of, tp_number_in, version_of}
use Rattle.wire.specs.declared.Header.{Header}
use Rattle.receiver.specs.declared.Find.{Find}
use Rattle.receiver.specs.declared.Receiver.{Receiver}
use Rattle.receiver.specs.declared.Stage.{Stage}
use Rattle.receiver.specs.declared.Stamp.{Stamp}
use Rattle.receiver.specs.declared.kind.Kind.{Kind}
use Rattle.receiver.specs.declared.kind.Kind.TheVariants.{Complete, Fill, First, Last, Middle, Reserved}
use Rattle.receiver.specs.declared.low.Lows.{Lows}
use Rattle.receiver.specs.declared.stages.Stamps.{Stamps}
use Rattle.receiver.specs.Call.{Gave, call_as, call_of, counted_of, data_of, due_call, first_call, gone, low_call, ordinary_by, payload_call, stage_call, stamps_of, start_call, unchanged, walk_to, word_call}
use Rattle.receiver.specs.Forecast.{Start, dropped, outset}
use Rattle.receiver.specs.Join.{Finding, low, notice, ordinary}
use Rattle.receiver.specs.Kind.{kind_of}
use Rattle.receiver.specs.Low.{llep, wire}
use Rattle.receiver.specs.Lows.{and_then, lows, lows_of, one_of, passed_of}
use Rattle.receiver.specs.Place.{place_at, placed, start_of}
use Rattle.receiver.specs.Pull.{Pulled}
use Rattle.receiver.specs.State.{frame_of, from, held_of, pull_of, todo_of}
use Rattle.receiver.proofs.Late.{AllLate, LateFind, outset_late, pull_late, todo_late}
use Rattle.receiver.proofs.Walking.{inside_at}
use Rattle.receiver.specs.declared.Find.TheVariants as F
use Rattle.receiver.specs.declared.Stage.TheVariants as S
use Rattle.receiver.specs.declared.low.Lows.TheVariants as L

abbrev pub Ended : Find → Type 0
Ended F.Nothing = 0 ≤ 0
Ended F.Refused = 0 ≤ 0
Ended (F.Notice n) = (6 ≤ n) × (n ≤ 9)
Ended (F.Low c start n) = 1 ≤ 0
Ended (F.Ordinary c n) = 1 ≤ 0

-- a find's stretch lies in the TP; an ordinary packet is as long as its data
abbrev pub Within : List ℕ → Find → List ℕ → Type 0
Within tp F.Nothing d = 0 ≤ 0
Within tp F.Refused d = 0 ≤ 0
Within tp (F.Notice n) d = 0 ≤ 0
Within tp (F.Low c start n) d = start + n ≤ length tp
Within tp (F.Ordinary c n) d = n ≡ length d

-- 1 is for buffers of another length; no notice is below 6
abbrev pub Numbered : Find → Type 0
Numbered F.Nothing = 0 ≤ 0
Numbered F.Refused = 1 ≤ 0
Numbered (F.Notice n) = 6 ≤ n
Numbered (F.Low c start n) = 0 ≤ 0
Numbered (F.Ordinary c n) = 0 ≤ 0

-- the answer and the stage agree, and the answer is within bounds
pub record Tells (tp : List ℕ) (g : Gave) : Type 0 where
  pub over : Ended g.said.find → g.stage ≡ S.Fresh
  pub ended : g.stage ≡ S.Fresh → Ended g.said.find
  pub within : Within tp g.said.find g.said.bytes
  pub numbered : Numbered g.said.find

not_fresh : S.Plain ≡ S.Fresh → ⊥
not_fresh e = let z : ◌≡◌ {A = ℕ} 0 1 = cc in omega arith

-- what a low-latency walk gives ends no TP

abbrev OnFind : ℕ → Find → Type 0
OnFind z F.Nothing = 1 ≤ 0
OnFind z F.Refused = 1 ≤ 0
OnFind z (F.Notice n) = 10 ≤ n
OnFind z (F.Low c start n) = start + n ≤ z
OnFind z (F.Ordinary c n) = 1 ≤ 0

abbrev OnLows : ℕ → Lows → Type 0
OnLows z (L.Broken i) = 0 ≤ 0
OnLows z (L.End i) = 0 ≤ 0
OnLows z (L.Gives f e from more i) = OnFind z f

passed_goes : (k : Kind) (h : Header) (m : Bool) (at z : ℕ) (go : ℕ → Lows) → at + 7 + h.size ≤ z → ((i : ℕ) → OnLows z (go i)) → OnLows z (and_then (passed_of k h m at) go)
passed_goes Fill h true at z go l ih = ih (at + 7 + h.size)
passed_goes Fill h false at z go l ih = omega arith
passed_goes Reserved h m at z go l ih = omega arith
passed_goes Complete h m at z go l ih = omega arith
passed_goes First h m at z go l ih = omega arith
passed_goes Middle h m at z go l ih = omega arith
passed_goes Last h m at z go l ih = omega arith

one_goes : (tp : List ℕ) (l : Option (Header × Bool)) (at : ℕ) (go : ℕ → Lows) → llep (drop at tp) ≡ l → ((i : ℕ) → OnLows (length tp) (go i)) → OnLows (length tp) (and_then (one_of l at) go)
one_goes tp None at go q ih = omega arith
one_goes tp (Some (h, m)) at go q ih = passed_goes (kind_of h) h m at (length tp) go (inside_at tp at h m q) ih

lows_goes : (k : ℕ) (tp : List ℕ) (at : ℕ) → OnLows (length tp) (lows k tp at)
unfolding lows
lows_goes zero tp at = omega arith
lows_goes (suc k) tp at = one_goes tp (llep (drop at tp)) at (λ i. lows k tp i) refl (λ i. lows_goes k tp i)

walk_goes : (tp : List ℕ) (at : ℕ) → OnLows (length tp) (lows_of tp at)
unfolding lows_of
walk_goes tp at = lows_goes (suc (length tp)) tp at

on_find : (z : ℕ) (f : Find) → OnFind z f → Ended f → ⊥
on_find z F.Nothing a e = omega arith
on_find z F.Refused a e = omega arith
on_find z (F.Notice n) a e = omega arith
on_find z (F.Low c start n) a e = omega arith
on_find z (F.Ordinary c n) a e = omega arith

on_numbered : (z : ℕ) (f : Find) → OnFind z f → Numbered f
on_numbered z F.Nothing a = omega arith
on_numbered z F.Refused a = a
on_numbered z (F.Notice n) a = omega arith
on_numbered z (F.Low c start n) a = omega arith
on_numbered z (F.Ordinary c n) a = omega arith

on_stage : (more : Bool) (o : ℕ) → cond more (S.Low o) (S.Due o) ≡ S.Fresh → ⊥
on_stage true o e = let z : ◌≡◌ {A = ℕ} 0 1 = cc in omega arith
on_stage false o e = let z : ◌≡◌ {A = ℕ} 0 1 = cc in omega arith

-- in a TP of this stamp
module _ (r : Receiver) (t : Stamp) (tp m : List ℕ) where
  plain_tells : (x : Option (Finding wire)) (p : Pulled wire) → LateFind x → Tells tp (ordinary_by x r t p)
  plain_tells None p l = record { over = λ e. refl; ended = λ e. omega arith; within = omega arith; numbered = omega arith }
  plain_tells (Some (notice n g)) p l = record { over = λ e. absurd (omega arith); ended = λ e. absurd (not_fresh e); within = omega arith; numbered = omega arith }
  plain_tells (Some (low c d)) p l = absurd (omega arith)
  plain_tells (Some (ordinary c d)) p l = record { over = λ e. absurd (omega arith); ended = λ e. absurd (not_fresh e); within = refl; numbered = omega arith }

  start_tells : (at : ℕ) (x : Start wire) → AllLate x.told → Tells tp (start_call r t at x tp m)
  start_tells at x l =
      let p = from (length m) t x (walk_to r at) tp m in
      plain_tells p.find p (pull_late (length m) x.frame (at + x.past) (held_of r.walk.kept m) m x.told (placed t (at + x.past) (drop (at + x.past) tp)) l)

  due_tells : (o at : ℕ) → Tells tp (due_call r t o at tp m)
  unfolding due_call
  due_tells o at =
      let f = frame_of r.walk.began r.walk.phase in
      start_tells at (outset wire (start_of t) f o (at - 4) (placed t at (drop at tp))) (outset_late (start_of t) f o (at - 4) (placed t at (drop at tp)))

  found_in : (f : Find) → OnFind (length tp) f → Within tp f (data_of f tp m)
  found_in F.Nothing a = omega arith
  found_in F.Refused a = omega arith
  found_in (F.Notice n) a = omega arith
  found_in (F.Low c start n) a = a
  found_in (F.Ordinary c n) a = absurd (omega arith)

  low_tells : (l : Lows) (o : ℕ) → OnLows (length tp) l → Tells tp (low_call l r t o tp m)
  low_tells (L.Broken at) o a = start_tells at (dropped wire 11 (place_at t at) (placed t at (drop at tp))) (omega arith, omega arith)
  low_tells (L.End at) o a = due_tells o at
  low_tells (L.Gives f e from more at) o a = record { over = λ e. absurd (on_find (length tp) f a e); ended = λ e. absurd (on_stage more o e); within = found_in f a; numbered = on_numbered (length tp) f a }

  payload_call_tells : (b : Bool) (o : ℕ) → Tells tp (payload_call b r t o tp m)
  payload_call_tells true o = low_tells (lows_of tp 4) o (walk_goes tp 4)
  payload_call_tells false o = due_tells o 4

  gone_tells : (n : ℕ) → 6 ≤ n → n ≤ 9 → Tells tp (gone r t n m)
  gone_tells n a b = record { over = λ e. refl; ended = λ e. (a, b); within = omega arith; numbered = a }

  begun_tells : (o : Option ℕ) → Tells tp (word_call o r t tp m)
  begun_tells None = gone_tells 9 (omega arith) (omega arith)
  begun_tells (Some w) = payload_call_tells (leb 2048 w) (w % 2048)

  still_tells : (n : ℕ) → 6 ≤ n → n ≤ 9 → r.stage ≡ S.Fresh → Tells tp (unchanged r t (F.Notice n) n m)
  still_tells n a b e = record { over = λ z. e; ended = λ z. (a, b); within = omega arith; numbered = a }

-- a call by these stamps, which counts the TP
module _ (r : Receiver) (n : Stamps) (tp m : List ℕ) where
  abbrev C : Receiver
  C = counted_of r

  fresh_tells : r.stage ≡ S.Fresh → Tells tp (first_call r C n tp m)
  unfolding first_call
  fresh_tells e = by (eqb (stream_of (get_or tp 0 0)) r.stream) (eqb (version_of (get_or tp 0 0)) 0)
    where
      W : Option ℕ
      W = tp_number_in (number 0 (take 3 (drop 1 tp)))

      by : (a b : Bool) → Tells tp (cond a (cond b (word_call W C n.now tp m) (gone C n.now 7 m)) (unchanged r n.before (F.Notice 8) 8 m))
      by true true = begun_tells C n.now tp m W
      by true false = gone_tells C n.now tp m 7 (omega arith) (omega arith)
      by false b = still_tells r n.before tp m 8 (omega arith) (omega arith) e

  staged_tells : (g : Stage) → r.stage ≡ g → Tells tp (stage_call g r C n tp m)
  unfolding pull_of
  staged_tells S.Fresh e = fresh_tells e
  staged_tells (S.Low o) e = low_tells C n.now tp m (lows_of tp r.walk.at) o (walk_goes tp r.walk.at)
  staged_tells (S.Due o) e = due_tells C n.now tp m o r.walk.at
  staged_tells S.Plain e =
      let w = r.walk in
      let p = pull_of (length m) n.now w tp m in
      plain_tells C n.now tp m p.find p
      (pull_late (length m) (frame_of w.began w.phase) w.at (held_of w.kept m) m (todo_of w.began w.phase) (placed n.now w.at (drop w.at tp)) (todo_late w.began w.phase))

  -- with the room of the opening: at a TP of its length, or between two TPs at any
  pub tells_as : length m ≡ r.limit → length tp ≡ r.size → Tells tp (call_as r n tp m)
  unfolding call_as
  tells_as f w = rw (eq-eqb (length m) r.limit f, eq-eqb (length tp) r.size w) (staged_tells r.stage refl)

  pub six_tells_as : length m ≡ r.limit → (length tp ≡ r.size → ⊥) → r.stage ≡ S.Fresh → Tells tp (call_as r n tp m)
  unfolding call_as
  six_tells_as f w e = rw (eq-eqb (length m) r.limit f, ne_eqb (length tp) r.size w) (still_tells r n.before tp m 6 (omega arith) (omega arith) e)

-- a call by the receiver's own count
module _ (r : Receiver) (tp m : List ℕ) where
  pub call_tells : length m ≡ r.limit → length tp ≡ r.size → Tells tp (call_of r tp m)
  unfolding call_of
  call_tells f w = tells_as r (stamps_of r) tp m f w

  pub six_tells : length m ≡ r.limit → (length tp ≡ r.size → ⊥) → r.stage ≡ S.Fresh → Tells tp (call_of r tp m)
  unfolding call_of
  six_tells f w e = six_tells_as r (stamps_of r) tp m f w e
