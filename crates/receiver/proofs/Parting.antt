-- Courses: where the offset and the low-latency part lead, whatever room is lent. Assumes nothing.
use mathlib.Core.Path.{ap, refl, subst, sym, ◌∙◌, ◌≡◌}
use mathlib.Core.Bool.{Bool, cond, false, true}
use mathlib.Core.List.{List}
use Prim.Native.Nat.{ℕ, ◌+◌, ◌-◌, ◌<◌, ◌≤◌}
use native.Mathlib.Omega.{arith}
use lib.Dec.{eqb, leb, ltb}
use lib.ListN.{drop, length, length-drop}
use borrow.Author.Tests.{le-leb, le-ltb, leb-false, leb-true, lt-leb, lt-ltb, ltb-false, ltb-true}
use Rattle.std.specs.Prelude.{Err, Ok, Result, None}
use Rattle.receiver.specs.declared.Find.{Find}
use Rattle.receiver.specs.declared.Receiver.{Receiver}
use Rattle.receiver.specs.declared.Stage.TheVariants.{Due, Low, Plain}
use Rattle.receiver.specs.declared.low.Lows.{Lows}
use Rattle.receiver.specs.declared.stages.Course.{Course}
use Rattle.receiver.specs.declared.Place.{Place}
use Rattle.receiver.specs.declared.Stamp.{Stamp}
use Rattle.receiver.specs.declared.walk.Phase.{Phase}
use Rattle.receiver.specs.declared.walk.Phase.TheVariants.{Lost}
use Rattle.receiver.specs.declared.walk.Walk.{Walk}
use Rattle.receiver.specs.Call.{Gave, Gives, due_call, low_call, ordinary_call, start_call, walk_to}
use Rattle.receiver.specs.Forecast.{Start, dropped, outset, start}
use Rattle.receiver.specs.Low.{wire}
use Rattle.receiver.specs.Lows.{lows_of}
use Rattle.receiver.specs.Outset.{lost_at, place_of, set_out_of, upon_of}
use Rattle.receiver.specs.Frame.{Frame}
use Rattle.receiver.specs.Place.{place_at, placed, start_of}
use Rattle.receiver.proofs.Placing.{length_placed}
use Rattle.receiver.specs.Pieces.{step_of, step_with}
use Rattle.receiver.specs.InOutset.{ReadsOn, SetsOut, set_out}
use Rattle.receiver.specs.InStages.{Leads, Lent, part_call, set_call}
use Rattle.receiver.specs.State.{Sound, frame_of}
use Rattle.receiver.proofs.Calling.{drop_gives, lose_gives, low_gives}
use Rattle.receiver.proofs.SettingOut.{sets_out}
use Rattle.receiver.proofs.Walking.{low_in_lem}
use Rattle.receiver.specs.declared.Find.TheVariants as F
use Rattle.receiver.specs.declared.low.Lows.TheVariants as L
use Rattle.receiver.specs.declared.stages.Course.TheVariants as C

-- a course leads wherever is the same

pub leads_by : (g h : List ℕ → Gave) (r : Receiver) (t : Stamp) (tp : List ℕ) (q : Course) → ((m : List ℕ) → h m ≡ g m) → Leads h r t tp q → Leads g r t tp q
unfolding Leads
leads_by g h r t tp (C.Gives s) e l = λ m f. subst (λ (x : Gave). Gives x s tp m) (e m) (l m f)
leads_by g h r t tp (C.Reads w) e l = record { same = λ m f. l.same m f ∙ e m; sound = l.sound }

-- the courses

drop_leads : (r : Receiver) (t : Stamp) (at : ℕ) (tp : List ℕ) (n : ℕ) (g : Place) → 16 ≤ r.size → length tp ≡ r.size → at ≤ length tp
    → Leads (start_call r t at (dropped wire n g (placed t at (drop at tp))) tp) r t tp (C.Gives (step_of r Plain (length tp) Lost None (F.Notice n) g))
unfolding Leads
drop_leads r t at tp n g size whole b = λ m f. drop_gives r t tp m size whole f n g at b

lent_in : (r : Receiver) (at : ℕ) (tp : List ℕ) → Lent r at tp → at ≤ length tp
lent_in r at tp l = let p = l.walk.at in let q = l.whole in omega arith

module _ (r : Receiver) (t : Stamp) (at n : ℕ) (tp : List ℕ) (s : Result Walk ℕ) (l : Lent r at tp) where
  -- what the forecast decided answers the call
  decided : at + n ≤ length tp → s ≡ set_out_of (walk_to r at) n tp → SetsOut (walk_to r at) n tp s
  decided b g = subst (SetsOut (walk_to r at) n tp) (sym g) (sets_out (walk_to r at) n tp b l.settled)

  pub set_reads : (x : Walk) → at + n ≤ length tp → s ≡ set_out_of (walk_to r at) n tp → s ≡ Ok x → Leads (set_call r t at n tp) r t tp (C.Reads x)
  unfolding SetsOut Leads set_out
  set_reads x b g e =
      let h : ReadsOn (walk_to r at) n tp x = subst (SetsOut (walk_to r at) n tp) e (decided b g) in
      record {
        same = λ m f. ap (ordinary_call r t) (h.same t m);
        sound = subst (λ (k : ℕ). Sound r.limit k x) l.whole (h.sound r.limit (subst (λ (k : ℕ). Sound r.limit k (walk_to r at)) (sym l.whole) l.walk));
      }

  pub set_loses : (i : ℕ) (there : Phase) → at + n ≤ length tp → there ≡ upon_of (at + n) (length tp) → s ≡ set_out_of (walk_to r at) n tp → s ≡ Err i
      → Leads (set_call r t at n tp) r t tp (C.Gives (step_of r Plain (at + n) there None (F.Notice i) (lost_at i t r.walk.began)))
  unfolding SetsOut Leads
  set_loses i there b u g e = λ m f.
      subst (λ (p : Phase). Gives (set_call r t at n tp m) (step_of r Plain (at + n) p None (F.Notice i) (lost_at i t r.walk.began)) tp m) (sym u)
      (lose_gives r t tp m l.size l.whole f at n i (lost_at i t r.walk.began) b (subst (SetsOut (walk_to r at) n tp) e (decided b g) t m))

-- behind the low-latency part

pub behind_in : (o at len n : ℕ) → at ≤ len → place_of o at len ≡ Ok n → at + n ≤ len
unfolding place_of
behind_in o at len n b e = by (eqb o 2047) (leb len (o + 4)) (ltb (o + 4) at) refl refl e
  where
    by : (x y z : Bool) → leb len (o + 4) ≡ y → ltb (o + 4) at ≡ z
        → cond {A = Result ℕ ℕ} x (Ok (len - at)) (cond y (Err 10) (cond z (Err 21) (Ok (o + 4 - at)))) ≡ Ok n → at + n ≤ len
    by true y z h k e = let q : len - at ≡ n = cc in omega arith
    by false true z h k e = let q : ◌≡◌ {A = ℕ} 0 1 = cc in absurd (omega arith)
    by false false true h k e = let q : ◌≡◌ {A = ℕ} 0 1 = cc in absurd (omega arith)
    by false false false h k e = let q : o + 4 - at ≡ n = cc in omega (arith, leb-false len (o + 4) h, ltb-false (o + 4) at k)

module _ (r : Receiver) (t : Stamp) (o at : ℕ) (tp : List ℕ) (l : Lent r at tp) where
  abbrev frame : Frame wire
  frame = frame_of r.walk.began r.walk.phase

  abbrev bytes : List (Place × ℕ)
  bytes = placed t at (drop at tp)

  abbrev pub starts : Result ℕ ℕ → Start wire
  starts (Err n) = dropped wire n (start_of t) bytes
  starts (Ok n) = start wire (start_of t) frame n bytes

  pub outset_at : outset wire (start_of t) frame o (at - 4) bytes ≡ starts (place_of o at (length tp))
  unfolding outset place_of
  outset_at = by (eqb o 2047) (leb (length tp) (o + 4)) (ltb (o + 4) at) refl refl refl
    where
      b : 4 ≤ at
      b = l.payload

      d : at ≤ length tp
      d = lent_in r at tp l

      many : length bytes ≡ length tp - at
      many = length_placed t at (drop at tp) ∙ length-drop at tp

      by : (x y z : Bool) → eqb o 2047 ≡ x → leb (length tp) (o + 4) ≡ y → ltb (o + 4) at ≡ z
          → outset wire (start_of t) frame o (at - 4) bytes
          ≡ starts (cond {A = Result ℕ ℕ} x (Ok (length tp - at)) (cond y (Err 10) (cond z (Err 21) (Ok (o + 4 - at)))))
      by true y z e h k = rw e (ap (λ (n : ℕ). start wire (start_of t) frame n bytes) many)
      by false true z e h k =
          let v : at - 4 + length bytes ≤ o = omega (arith, many, leb-true (length tp) (o + 4) h, b, d) in
          rw (e, le-leb (at - 4 + length bytes) o v)
      by false false true e h k =
          let v : o < at - 4 + length bytes = omega (arith, many, leb-false (length tp) (o + 4) h, b, d) in
          let w : o < at - 4 = omega (arith, ltb-true (o + 4) at k) in
          rw (e, lt-leb (at - 4 + length bytes) o v, lt-ltb o (at - 4) w)
      by false false false e h k =
          let v : o < at - 4 + length bytes = omega (arith, many, leb-false (length tp) (o + 4) h, b, d) in
          let w : at - 4 ≤ o = omega (arith, ltb-false (o + 4) at k) in
          let z : o - (at - 4) ≡ o + 4 - at = omega (arith, b, ltb-false (o + 4) at k) in
          rw (e, lt-leb (at - 4 + length bytes) o v, le-ltb o (at - 4) w)
          (ap (λ (n : ℕ). start wire (start_of t) frame n bytes) z)

  due_by : (q : Course) (p : Result ℕ ℕ) → place_of o at (length tp) ≡ p → Leads (start_call r t at (starts p) tp) r t tp q → Leads (due_call r t o at tp) r t tp q
  unfolding due_call
  due_by q p e g =
      leads_by (due_call r t o at tp) (start_call r t at (starts p) tp) r t tp q (λ m. ap (λ (x : Start wire). start_call r t at x tp m) (sym (outset_at ∙ ap starts e))) g

  pub due_outside : (n : ℕ) → place_of o at (length tp) ≡ Err n
      → Leads (due_call r t o at tp) r t tp (C.Gives (step_of r Plain (length tp) Lost None (F.Notice n) (start_of t)))
  due_outside n e = due_by _ (Err n) e (drop_leads r t at tp n (start_of t) l.size l.whole (lent_in r at tp l))

  pub due_behind : (q : Course) (n : ℕ) → place_of o at (length tp) ≡ Ok n → Leads (set_call r t at n tp) r t tp q → Leads (due_call r t o at tp) r t tp q
  due_behind q n e g = due_by q (Ok n) e g

-- the low-latency part, if there is one

module _ (r : Receiver) (t : Stamp) (low : Bool) (o at : ℕ) (tp : List ℕ) (l : Lent r at tp) where
  abbrev walked : Lows
  walked = cond low (lows_of tp at) (L.End at)

  part_by_lem : (q : Course) (x : Lows) (h : List ℕ → Gave) → walked ≡ x → ((m : List ℕ) → h m ≡ low_call x r t o tp m) → Leads h r t tp q
      → Leads (part_call low r t o at tp) r t tp q
  part_by_lem q x h e s g = leads_by (part_call low r t o at tp) h r t tp q (λ m. s m ∙ ap (λ (x : Lows). low_call x r t o tp m) (sym e)) g

  pub part_lent : (i : ℕ) → walked ≡ L.End i → Lent r i tp
  part_lent i e =
      let b = low_in_lem low tp at (L.End i) (lent_in r at tp l) e in
      let p = l.payload in
      let w = l.whole in
      record { size = l.size; whole = l.whole; payload = omega arith; walk = record { at = omega arith; phase = l.walk.phase }; settled = l.settled }

  pub part_broken : (i : ℕ) → walked ≡ L.Broken i → Leads (part_call low r t o at tp) r t tp (C.Gives (step_of r Plain (length tp) Lost None (F.Notice 11) (place_at t i)))
  part_broken i e =
      part_by_lem _ (L.Broken i) (start_call r t i (dropped wire 11 (place_at t i) (placed t i (drop i tp))) tp) e (λ m. refl)
      (drop_leads r t i tp 11 (place_at t i) l.size l.whole (low_in_lem low tp at (L.Broken i) (lent_in r at tp l) e).1)

  pub part_due : (q : Course) (i : ℕ) → walked ≡ L.End i → Leads (due_call r t o i tp) r t tp q → Leads (part_call low r t o at tp) r t tp q
  part_due q i e g = part_by_lem q (L.End i) (due_call r t o i tp) e (λ m. refl) g

  pub part_gives : (f : Find) (k b : ℕ) (more : Bool) (i : ℕ) → o < 2048 → walked ≡ L.Gives f k b more i
      → Leads (part_call low r t o at tp) r t tp (C.Gives (step_with r (cond more (Low o) (Due o)) (walk_to r i) f (record { repaired = k; at = place_at t b })))
  unfolding Leads
  part_gives f k b more i s e =
      let d = low_in_lem low tp at (L.Gives f k b more i) (lent_in r at tp l) e in
      let p = l.payload in
      let q = step_with r (cond more (Low o) (Due o)) (walk_to r i) f (record { repaired = k; at = place_at t b }) in
      part_by_lem (C.Gives q) (L.Gives f k b more i) (low_call (L.Gives f k b more i) r t o tp) e (λ m. refl)
      (λ m u. low_gives r t tp m l.size l.whole u o f k b more i at s (omega arith) d.1 l.walk l.settled)
