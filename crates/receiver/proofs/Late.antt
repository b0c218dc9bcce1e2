-- Reading gives no notice below 10. Assumes nothing.
use mathlib.Core.Bool.{Bool, cond, false, true}
use mathlib.Core.List.{List, [], ◌++◌, ◌∷◌}
use Prim.Native.Nat.{suc, zero, ℕ, ◌+◌, ◌-◌, ◌≤◌}
use native.Mathlib.Omega.{arith}
use lib.Dec.{eqb, leb, ltb}
use lib.ListN.{length}
use Rattle.std.specs.Prelude.{None, Option, Some}
use Rattle.wire.specs.Reading.{header_of}
use Rattle.receiver.specs.declared.Place.{Place}
use Rattle.receiver.specs.declared.kind.Kind.{Kind}
use Rattle.receiver.specs.declared.kind.Kind.TheVariants.{Complete, Fill, First, Last, Middle, Reserved}
use Rattle.receiver.specs.declared.walk.Phase.{Phase}
use Rattle.receiver.specs.declared.walk.Phase.TheVariants.{Body, Head, Judged, Lost}
use Rattle.receiver.specs.Forecast.{Start, agree, dropped, foretold, judge, outset, start}
use Rattle.receiver.specs.Frame.{Event, Frame, body, closed, ending, entered, fed, gap, head, idle, lose, lost, opened, step, whole}
use Rattle.receiver.specs.Join.{Finding, Held, Took, admit, broken, finish, fits, free, further, goes_on, handed, held, low, meets, notice, ordinary, stored, take_in}
use Rattle.receiver.specs.Kind.{kind_of}
use Rattle.receiver.specs.Low.{Ep, begin_of, ep_at, ep_if, join_of, wire}
use Rattle.receiver.specs.Pull.{Met, Pulled, dry, found, meet, met, pull, reads, upto}
use Rattle.receiver.specs.State.{todo_of}

abbrev pub Late : Event wire → Type 0
Late (lose n p) = 10 ≤ n
Late gap = 0 ≤ 0
Late (opened h) = 0 ≤ 0
Late (entered h) = 0 ≤ 0
Late (fed b) = 0 ≤ 0
Late (closed h) = 0 ≤ 0

abbrev pub AllLate : List (Event wire) → Type 0
AllLate [] = 0 ≤ 0
AllLate (e ∷ es) = Late e × AllLate es

abbrev pub LateFind : Option (Finding wire) → Type 0
LateFind None = 0 ≤ 0
LateFind (Some (notice n p)) = 10 ≤ n
LateFind (Some (low c d)) = 1 ≤ 0
LateFind (Some (ordinary c d)) = 0 ≤ 0

broken_late : (h : Ep) (s : Held wire) → LateFind (broken wire h s).1
broken_late h free = omega arith
broken_late h (held c d) = omega arith

either_late : (b : Bool) (s : Held wire) (n : ℕ) (p : Place) → 10 ≤ n → LateFind (cond {A = Took wire} b (s, None) (free, Some (notice n p))).1
either_late true s n p l = omega arith
either_late false s n p l = l

going_late : (h : Ep) (s : Held wire) → LateFind (goes_on wire h s).1
going_late h free = omega arith
going_late h (held x d) = either_late (eqb x.content h.header.content) (held x d) 14 h.at (omega arith)

meets_late : (k : Kind) (h : Ep) (s : Held wire) → LateFind (meets wire k h s).1
meets_late Fill h s = broken_late h s
meets_late Reserved h s = broken_late h s
meets_late Complete h s = broken_late h s
meets_late First h s = broken_late h s
meets_late Middle h s = going_late h s
meets_late Last h s = going_late h s

handed_late : (s : Held wire) → LateFind (handed wire s).1
handed_late free = omega arith
handed_late (held c d) = omega arith

finish_late : (k : Kind) (s : Held wire) → LateFind (finish wire k s).1
finish_late Fill s = omega arith
finish_late Reserved s = omega arith
finish_late Complete s = handed_late s
finish_late First s = omega arith
finish_late Middle s = omega arith
finish_late Last s = handed_late s

module _ (cap : ℕ) where
  further_late : (h : Ep) (s : Held wire) → LateFind (further wire cap h s).1
  further_late h free = omega arith
  further_late h (held c d) = either_late (leb (length d + h.header.size) cap) (held (join_of c h) d) 15 h.at (omega arith)

  begun_late : (h : Ep) → LateFind (fits wire cap h (begin_of h) []).1
  begun_late h = either_late (leb (0 + h.header.size) cap) (held (begin_of h) []) 15 h.at (omega arith)

  admit_late : (k : Kind) (h : Ep) (s : Held wire) → LateFind (admit wire cap k h s).1
  admit_late Fill h s = omega arith
  admit_late Reserved h s = omega arith
  admit_late Complete h s = begun_late h
  admit_late First h s = begun_late h
  admit_late Middle h s = further_late h s
  admit_late Last h s = further_late h s

  take_late : (s : Held wire) (e : Event wire) → Late e → LateFind (take_in wire cap s e).1
  take_late s (lose n p) l = l
  take_late s gap l = omega arith
  take_late s (opened h) l = meets_late (kind_of h.header) h s
  take_late s (entered h) l = admit_late (kind_of h.header) h s
  take_late s (fed b) l = omega arith
  take_late s (closed h) l = finish_late (kind_of h.header) s

  abbrev LateMet : Met wire → Type 0
  LateMet (dry s m) = 0 ≤ 0
  LateMet (found x s m es) = LateFind (Some x)

  met_late : (o : Option (Finding wire)) (s : Held wire) (m : List ℕ) (es : List (Event wire)) (on : Met wire) → LateFind o → LateMet on → LateMet (met wire o s m es on)
  met_late None s m es on a b = b
  met_late (Some x) s m es on a b = a

  meet_late : (s : Held wire) (m : List ℕ) (es : List (Event wire)) → AllLate es → LateMet (meet wire cap s m es)
  meet_late s m [] l = omega arith
  meet_late s m (e ∷ es) l =
      met_late (take_in wire cap s e).1 (take_in wire cap s e).0 (stored wire s e m) es (meet wire cap (take_in wire cap s e).0 (stored wire s e m) es)
      (take_late s e l.0) (meet_late (take_in wire cap s e).0 (stored wire s e m) es l.1)

  upto_late : (x : Met wire) (f : Frame wire) (at : ℕ) (on : Held wire → List ℕ → Pulled wire) → LateMet x
      → ((s : Held wire) (m : List ℕ) → LateFind (on s m).find) → LateFind (upto wire x f at on).find
  upto_late (dry s m) f at on a go = go s m
  upto_late (found x s m es) f at on a go = a

  ending_late : (h : Ep) (n : ℕ) → AllLate (ending wire h n)
  ending_late h zero = (omega arith, omega arith)
  ending_late h (suc n) = omega arith

  whole_late : (p : Place) (o : Option Ep) → AllLate (whole wire p o).1
  whole_late p None = (omega arith, omega arith)
  whole_late p (Some h) = (omega arith, (omega arith, ending_late h h.header.size))

  step_late : (f : Frame wire) (b : Place × ℕ) → AllLate (step wire f b).1
  step_late lost b = omega arith
  step_late idle b = omega arith
  step_late (head p zero hs) b = whole_late p (ep_if p (header_of (hs ++ b.1 ∷ [])))
  step_late (head p (suc k) hs) b = omega arith
  step_late (body h k) b = (omega arith, ending_late h k)

  reads_late : (bs : List (Place × ℕ)) (f : Frame wire) (at : ℕ) (s : Held wire) (m : List ℕ) → LateFind (reads wire cap bs f at s m).find
  reads_late [] f at s m = omega arith
  reads_late (b ∷ bs) f at s m =
      upto_late (meet wire cap s m (step wire f b).1) (step wire f b).0 (suc at) (λ s' m'. reads wire cap bs (step wire f b).0 (suc at) s' m')
      (meet_late s m (step wire f b).1 (step_late f b)) (λ s' m'. reads_late bs (step wire f b).0 (suc at) s' m')

  pub pull_late : (f : Frame wire) (at : ℕ) (s : Held wire) (m : List ℕ) (es : List (Event wire)) (bs : List (Place × ℕ)) → AllLate es
      → LateFind (pull wire cap f at (meet wire cap s m es) bs).find
  pull_late f at s m es bs l = upto_late (meet wire cap s m es) f at (λ s m. reads wire cap bs f at s m) (meet_late s m es l) (λ s m. reads_late bs f at s m)

agree_late : (b : Bool) (p : Place) (f : Frame wire) (n : ℕ) (bs : List (Place × ℕ)) → AllLate (agree wire b p f n bs).told
agree_late true p f n bs = omega arith
agree_late false p f n bs = (omega arith, omega arith)

judge_late : (o : Option ℕ) (p : Place) (f : Frame wire) (n : ℕ) (bs : List (Place × ℕ)) → AllLate (judge wire o p f n bs).told
judge_late None p f n bs = (omega arith, omega arith)
judge_late (Some m) p f n bs = agree_late (eqb m n) p f n bs

start_late : (p : Place) (f : Frame wire) (n : ℕ) (bs : List (Place × ℕ)) → AllLate (start wire p f n bs).told
start_late p lost n bs = omega arith
start_late p idle n bs = judge_late (foretold wire idle bs) p idle n bs
start_late p (head s k hs) n bs = judge_late (foretold wire (head s k hs) bs) p (head s k hs) n bs
start_late p (body h k) n bs = judge_late (foretold wire (body h k) bs) p (body h k) n bs

pub outset_late : (p : Place) (f : Frame wire) (o n : ℕ) (bs : List (Place × ℕ)) → AllLate (outset wire p f o n bs).told
unfolding outset
outset_late p f o n bs = by (eqb o 2047) (leb (n + length bs) o) (ltb o n)
  where
    by : (a b c : Bool) → AllLate (cond {A = Start wire} a (start wire p f (length bs) bs) (cond b (dropped wire 10 p bs) (cond c (dropped wire 21 p bs) (start wire p f (o - n) bs)))).told
    by true b c = start_late p f (length bs) bs
    by false true c = (omega arith, omega arith)
    by false false true = (omega arith, omega arith)
    by false false false = start_late p f (o - n) bs

pub todo_late : (g : Place) (p : Phase) → AllLate (todo_of g p)
todo_late g Lost = omega arith
todo_late g (Head n w) = omega arith
todo_late g (Judged h) = (omega arith, ending_late 0 (ep_at g h) h.size)
todo_late g (Body h n) = ending_late 0 (ep_at g h) n
