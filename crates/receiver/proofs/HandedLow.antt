-- THE SENTENCE OF A LOW-LATENCY PACKET: whatever a call hands out as one is the data of one whole LLEP of the lent TP, its
-- header and its end byte read within repair, and exactly that stretch; and its place is that LLEP's. Assumes nothing.
use mathlib.Core.Path.{ap, refl, subst, sym, ◌∙◌, ◌≡◌}
use mathlib.Core.Bool.{Bool, cond, false, true}
use mathlib.Core.List.{List}
use Prim.Native.Nat.{suc, ℕ, ◌%◌, ◌+◌, ◌-◌, ◌≤◌}
use native.Mathlib.Omega.{arith}
use lib.Dec.{eqb, leb}
use lib.ListN.{drop, get_or, length, take}
use Rattle.std.specs.Prelude.{None, Option, Some}
use Rattle.digits.specs.Digits.{number}
use Rattle.wire.specs.Reading.{stream_of, tp_number_in, version_of}
use Rattle.receiver.specs.declared.Find.{Find}
use Rattle.receiver.specs.declared.Place.{Place}
use Rattle.receiver.specs.declared.Receiver.{Receiver}
use Rattle.receiver.specs.declared.Stage.{Stage}
use Rattle.receiver.specs.declared.Stamp.{Stamp}
use Rattle.receiver.specs.declared.Step.{Step}
use Rattle.receiver.specs.declared.low.Lows.{Lows}
use Rattle.receiver.specs.declared.stages.Stamps.{Stamps}
use Rattle.receiver.specs.Call.{Gave, Gives, call_as, call_of, counted_of, due_call, first_call, gone, low_call, ordinary_by, payload_call, stage_call, stamps_of, start_call, stepped, unchanged, walk_to, word_call}
use Rattle.receiver.specs.Forecast.{Start, dropped, outset}
use Rattle.receiver.specs.Join.{Finding, low, notice, ordinary}
use Rattle.receiver.specs.Low.{wire}
use Rattle.receiver.specs.Lows.{lows, lows_of}
use Rattle.receiver.specs.Place.{place_at, placed, start_of}
use Rattle.receiver.specs.Pull.{Pulled}
use Rattle.receiver.specs.State.{Able, Staged, frame_of, from, held_of, pull_of, todo_of}
use Rattle.receiver.proofs.Late.{AllLate, LateFind, outset_late, pull_late, todo_late}
use Rattle.receiver.proofs.LowRead.{LowRead, LowOk, LowsOk, lows_ok}
use Rattle.receiver.specs.declared.Find.TheVariants as F
use Rattle.receiver.specs.declared.Stage.TheVariants as G
use Rattle.receiver.specs.declared.low.Lows.TheVariants as L

-- the data of an LLEP of a TP of this stamp, and its place
abbrev pub LowPlaced : Stamp → List ℕ → Place → ℕ → ℕ → ℕ → Type 0
LowPlaced t tp g c start n = (at : ℕ) × (LowRead tp at c start n × (g ≡ place_at t at))

abbrev Placed : Stamp → List ℕ → Find → Place → Type 0
Placed t tp F.Nothing g = 0 ≤ 0
Placed t tp F.Refused g = 0 ≤ 0
Placed t tp (F.Notice n) g = 0 ≤ 0
Placed t tp (F.Low c start n) g = LowPlaced t tp g c start n
Placed t tp (F.Ordinary c n) g = 0 ≤ 0

placed_ok : (t : Stamp) (tp : List ℕ) (at : ℕ) (f : Find) → LowOk tp at f → Placed t tp f (place_at t at)
placed_ok t tp at F.Nothing a = omega arith
placed_ok t tp at F.Refused a = omega arith
placed_ok t tp at (F.Notice n) a = omega arith
placed_ok t tp at (F.Low c start n) a = (at, (a, refl))
placed_ok t tp at (F.Ordinary c n) a = omega arith

-- in a TP of this stamp
module _ (r : Receiver) (t : Stamp) (tp m : List ℕ) where
  abbrev Ok : Gave → Type 0
  Ok g = Placed t tp g.said.find g.said.place

  plain_ok : (x : Option (Finding wire)) (p : Pulled wire) → LateFind x → Ok (ordinary_by x r t p)
  plain_ok None p l = omega arith
  plain_ok (Some (notice n g)) p l = omega arith
  plain_ok (Some (low c d)) p l = absurd (omega arith)
  plain_ok (Some (ordinary c d)) p l = omega arith

  start_ok : (at : ℕ) (x : Start wire) → AllLate x.told → Ok (start_call r t at x tp m)
  start_ok at x l =
      let p = from (length m) t x (walk_to r at) tp m in
      plain_ok p.find p (pull_late (length m) x.frame (at + x.past) (held_of r.walk.kept m) m x.told (placed t (at + x.past) (drop (at + x.past) tp)) l)

  due_ok : (o at : ℕ) → Ok (due_call r t o at tp m)
  unfolding due_call
  due_ok o at =
      let f = frame_of r.walk.began r.walk.phase in
      start_ok at (outset wire (start_of t) f o (at - 4) (placed t at (drop at tp))) (outset_late (start_of t) f o (at - 4) (placed t at (drop at tp)))

  low_call_ok : (l : Lows) (o : ℕ) → LowsOk tp l → Ok (low_call l r t o tp m)
  low_call_ok (L.Broken at) o a = start_ok at (dropped wire 11 (place_at t at) (placed t at (drop at tp))) (omega arith, omega arith)
  low_call_ok (L.End at) o a = due_ok o at
  low_call_ok (L.Gives f e from more at) o a = placed_ok t tp from f a

  part_ok : (o at : ℕ) → 4 ≤ at → Ok (low_call (lows_of tp at) r t o tp m)
  unfolding lows_of
  part_ok o at b = low_call_ok (lows (suc (length tp)) tp at) o (lows_ok (suc (length tp)) tp at b)

  payload_call_ok : (b : Bool) (o : ℕ) → Ok (payload_call b r t o tp m)
  payload_call_ok true o = part_ok o 4 (omega arith)
  payload_call_ok false o = due_ok o 4

  begun_ok : (o : Option ℕ) → Ok (word_call o r t tp m)
  begun_ok None = omega arith
  begun_ok (Some w) = payload_call_ok (leb 2048 w) (w % 2048)

-- a call by these stamps, which counts the TP
module _ (r : Receiver) (n : Stamps) (tp m : List ℕ) where
  abbrev C : Receiver
  C = counted_of r

  abbrev Fine : Gave → Type 0
  Fine g = Placed n.now tp g.said.find g.said.place

  fresh_ok : Fine (first_call r C n tp m)
  unfolding first_call
  fresh_ok = by (eqb (stream_of (get_or tp 0 0)) r.stream) (eqb (version_of (get_or tp 0 0)) 0)
    where
      W : Option ℕ
      W = tp_number_in (number 0 (take 3 (drop 1 tp)))

      by : (a b : Bool) → Fine (cond a (cond b (word_call W C n.now tp m) (gone C n.now 7 m)) (unchanged r n.before (F.Notice 8) 8 m))
      by true true = begun_ok C n.now tp m W
      by true false = omega arith
      by false b = omega arith

  staged_ok : (g : Stage) → Staged g r.walk → Fine (stage_call g r C n tp m)
  unfolding pull_of
  staged_ok G.Fresh s = fresh_ok
  staged_ok (G.Low o) s = part_ok C n.now tp m o r.walk.at s.1
  staged_ok (G.Due o) s = due_ok C n.now tp m o r.walk.at
  staged_ok G.Plain s =
      let w = r.walk in
      let p = pull_of (length m) n.now w tp m in
      plain_ok C n.now tp m p.find p
      (pull_late (length m) (frame_of w.began w.phase) w.at (held_of w.kept m) m (todo_of w.began w.phase) (placed n.now w.at (drop w.at tp)) (todo_late w.began w.phase))

  call_ok : Able r → Fine (call_as r n tp m)
  unfolding call_as
  call_ok a = by (eqb (length m) r.limit) (eqb (length tp) r.size)
    where
      by : (x y : Bool) → Fine (cond x (cond y (stage_call r.stage r C n tp m) (unchanged r n.before (F.Notice 6) 6 m)) (unchanged r n.before F.Refused 1 m))
      by true true = staged_ok r.stage a.stage
      by true false = omega arith
      by false y = omega arith

  pub low_handed_as : (q : Step) (m' : List ℕ) (c start k : ℕ) → Able r → Gives (call_as r n tp m) q tp m' → q.find ≡ F.Low c start k
      → LowPlaced n.now tp q.about.at c start k
  unfolding stepped
  low_handed_as q m' c start k a g e =
      let z : (call_as r n tp m).said.find ≡ F.Low c start k = sym (ap (λ (g : Gave). g.said.find) g.same) ∙ e in
      let y : (call_as r n tp m).said.place ≡ q.about.at = sym (ap (λ (g : Gave). g.said.place) g.same) in
      subst (λ (f : Find). Placed n.now tp f q.about.at) z (subst (Placed n.now tp (call_as r n tp m).said.find) y (call_ok a))

-- HANDED OUT, LOW-LATENCY
pub low_handed_out : (r : Receiver) (tp m : List ℕ) (q : Step) (m' : List ℕ) (c start n : ℕ) → Able r → Gives (call_of r tp m) q tp m' → q.find ≡ F.Low c start n
    → LowPlaced (stamps_of r).now tp q.about.at c start n
unfolding call_of
low_handed_out r tp m q m' c start n a g e = low_handed_as r (stamps_of r) tp m q m' c start n a g e
