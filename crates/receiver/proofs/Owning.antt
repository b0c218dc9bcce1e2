-- Data that are kept of a complete EP are its own, from its first byte on: so it is at an opening, and each call leaves it so.
-- Assumes nothing.
use mathlib.Core.Path.{ap, refl, subst, sym, ◌∙◌, ◌≡◌}
use mathlib.Core.Bool.{Bool, cond, false, true}
use mathlib.Core.List.{List, [], ◌++◌, ◌∷◌}
use Prim.Native.Nat.{suc, zero, ℕ, ◌%◌, ◌+◌, ◌-◌, ◌≤◌}
use native.Mathlib.Omega.{arith}
use lib.Dec.{eqb, leb, ltb}
use lib.ListN.{drop, get_or, length, length-append, take}
use lib.Seq.{length-take-le}
use borrow.Author.Tests.{eqb-true}
use Rattle.std.specs.Prelude.{None, Option, Some}
use Rattle.digits.specs.Digits.{digits, number}
use Rattle.wire.specs.declared.Header.{Header}
use Rattle.wire.specs.Reading.{stream_of, tp_number_in, version_of}
use Rattle.receiver.specs.declared.Find.{Find}
use Rattle.receiver.specs.declared.Find.TheVariants as F
use Rattle.receiver.specs.declared.Place.{Place}
use Rattle.receiver.specs.declared.Receiver.{Receiver}
use Rattle.receiver.specs.declared.Stage.{Stage}
use Rattle.receiver.specs.declared.Stage.TheVariants as S
use Rattle.receiver.specs.declared.Stamp.{Stamp}
use Rattle.receiver.specs.declared.Step.{Step}
use Rattle.receiver.specs.declared.kind.Kind.{Kind}
use Rattle.receiver.specs.declared.kind.Kind.TheVariants.{Complete, Fill, First, Last, Middle, Reserved}
use Rattle.receiver.specs.declared.lane.Lane.{Lane}
use Rattle.receiver.specs.declared.lane.Lane.TheVariants as L
use Rattle.receiver.specs.declared.low.Lows.{Lows}
use Rattle.receiver.specs.declared.low.Lows.TheVariants as W
use Rattle.receiver.specs.declared.stages.Stamps.{Stamps}
use Rattle.receiver.specs.declared.walk.Kept.{Kept}
use Rattle.receiver.specs.declared.walk.Phase.{Phase}
use Rattle.receiver.specs.declared.walk.Phase.TheVariants.{Body, Head, Judged, Lost}
use Rattle.receiver.specs.Call.{Gave, Gives, Said, call_as, call_of, counted_of, due_call, first_call, fresh_of, gap_of, gone, holds, low_call, moved, ordinary_by, payload_call, said_of, says, stage_call, stamps_of, start_call, stepped, unchanged, walk_to, word_call}
use Rattle.receiver.specs.Forecast.{Start, agree, dropped, foretold, judge, outset, start, upon}
use Rattle.receiver.specs.Frame.{Event, Frame, body, ending, entered, head, idle, lost, step, whole, within}
use Rattle.receiver.specs.Join.{Finding, Held, Took, admit, free, grown, held, holding, low, meets, notice, ordinary, stored, take_in}
use Rattle.receiver.specs.Kind.{kind_of}
use Rattle.receiver.specs.Lanes.{in_lane}
use Rattle.receiver.specs.Low.{Ep, Tag, begin_of, ep_at, join_of, tag_of, wire}
use Rattle.receiver.specs.Lows.{lows_of}
use Rattle.receiver.specs.Over.{InData, LeftOver, less_by, over_of, taken_of}
use Rattle.receiver.specs.Place.{place_at, placed, start_of}
use Rattle.receiver.specs.Pull.{Met, Pulled, dry, found, meet, met, pull, reads, upto}
use Rattle.receiver.specs.State.{Able, Fine, Settled, Staged, frame_of, from, headed, held_of, keeps, pull_of, todo_of}
use Rattle.receiver.specs.Tracks.{Own, OwnIn, Placed}
use Rattle.receiver.specs.Turns.{grown_by}

-- in the data of a complete EP, of which so many are kept, what is held is that EP's
abbrev Owns : Frame wire → Held wire → ℕ → Type 0
Owns lost s k = 0 ≤ 0
Owns idle s k = 0 ≤ 0
Owns (head p n hs) s k = 0 ≤ 0
Owns (body h j) free k = 0 ≤ 0
Owns (body h j) (held t d) k = kind_of h.header ≡ Complete → (t ≡ begin_of h) × (h.header.size ≡ k + suc j)

abbrev Fits : Frame wire → Held wire → Type 0
Fits f s = Owns f s (holds s)

-- ---- a byte is read

fits_cond : (b : Bool) (h : Ep) (j : ℕ) (t : Tag) (d : List ℕ) (x : Option (Finding wire)) → Fits (body h j) (held t d)
    → Fits (body h j) (cond {A = Took wire} b (held t d, None) (free, x)).0
fits_cond true h j t d x f = f
fits_cond false h j t d x f = omega arith

module _ (cap : ℕ) where
  abbrev Room : Ep → List ℕ → Bool
  Room h d = leb (length d + h.header.size) cap

  -- the way into an EP that has data
  fits_admit : (k : Kind) (h : Ep) (s : Held wire) (j : ℕ) → kind_of h.header ≡ k → h.header.size ≡ suc j → Fits (body h j) (admit wire cap k h s).0
  fits_admit Fill h s j e z = omega arith
  fits_admit Reserved h s j e z = omega arith
  fits_admit Complete h s j e z = fits_cond (Room h []) h j (begin_of h) [] (Some (notice 15 h.at)) (λ c. (refl, omega arith))
  fits_admit First h s j e z = fits_cond (Room h []) h j (begin_of h) [] (Some (notice 15 h.at)) (λ c. (refl, omega arith))
  fits_admit Middle h free j e z = omega arith
  fits_admit Middle h (held t d) j e z = fits_cond (Room h d) h j (join_of t h) d (Some (notice 15 h.at)) (λ c. let no : ◌≡◌ {A = ℕ} 0 1 = cc in absurd (omega arith))
  fits_admit Last h free j e z = omega arith
  fits_admit Last h (held t d) j e z = fits_cond (Room h d) h j (join_of t h) d (Some (notice 15 h.at)) (λ c. let no : ◌≡◌ {A = ℕ} 0 1 = cc in absurd (omega arith))

  fits_entered : (h : Ep) (s : Held wire) (n : ℕ) → h.header.size ≡ n → Fits (within wire h n) (holding wire cap s (entered h ∷ ending wire h n))
  fits_entered h s zero z = omega arith
  fits_entered h s (suc j) z = fits_admit (kind_of h.header) h s j refl z

  fits_whole : (p : Place) (o : Option Ep) (s : Held wire) → Fits (whole wire p o).0 (holding wire cap s (whole wire p o).1)
  fits_whole p None s = omega arith
  fits_whole p (Some h) s = fits_entered h (meets wire (kind_of h.header) h s).0 h.header.size refl

  fits_grown : (h : Ep) (j : ℕ) (s : Held wire) (b : ℕ) → Fits (body h (suc j)) s → Fits (body h j) (grown wire s b)
  fits_grown h j free b f = omega arith
  fits_grown h j (held t d) b f = λ c. let o = f c in let l = length-append d (b ∷ []) in (o.0, omega (arith, l, o.1))

  fits_step : (f : Frame wire) (b : Place × ℕ) (s : Held wire) → Fits f s → Fits (step wire f b).0 (holding wire cap s (step wire f b).1)
  fits_step lost b s q = omega arith
  fits_step idle b s q = omega arith
  fits_step (head p zero hs) b s q = fits_whole p (wire.decode p (hs ++ wire.keep b ∷ [])) s
  fits_step (head p (suc k) hs) b s q = omega arith
  fits_step (body h zero) b s q = omega arith
  fits_step (body h (suc k)) b s q = fits_grown h k s b.1 q

  -- ---- up to a find

  abbrev FitsMet : Frame wire → Met wire → Type 0
  FitsMet f (dry s m) = Fits f s
  FitsMet f (found x s m es) = Fits f (holding wire cap s es)

  -- with the events still to be taken in
  abbrev FitsIn : Pulled wire → Type 0
  FitsIn p = Fits p.frame (holding wire cap p.held p.todo)

  fits_met : (x : Option (Finding wire)) (f : Frame wire) (s : Held wire) (m : List ℕ) (es : List (Event wire)) (on : Met wire)
      → Fits f (holding wire cap s es) → FitsMet f on → FitsMet f (met wire x s m es on)
  fits_met None f s m es on a b = b
  fits_met (Some x) f s m es on a b = a

  fits_meet : (f : Frame wire) (s : Held wire) (m : List ℕ) (es : List (Event wire)) → Fits f (holding wire cap s es) → FitsMet f (meet wire cap s m es)
  fits_meet f s m [] q = q
  fits_meet f s m (e ∷ es) q =
      let T = take_in wire cap s e in
      fits_met T.1 f T.0 (stored wire s e m) es (meet wire cap T.0 (stored wire s e m) es) q (fits_meet f T.0 (stored wire s e m) es q)

  fits_upto : (x : Met wire) (f : Frame wire) (at : ℕ) (on : Held wire → List ℕ → Pulled wire) → FitsMet f x
      → ((s : Held wire) (m : List ℕ) → Fits f s → FitsIn (on s m)) → FitsIn (upto wire x f at on)
  fits_upto (dry s m) f at on q go = go s m q
  fits_upto (found x s m es) f at on q go = q

  fits_reads : (bs : List (Place × ℕ)) (f : Frame wire) (at : ℕ) (s : Held wire) (m : List ℕ) → Fits f s → FitsIn (reads wire cap bs f at s m)
  fits_reads [] f at s m q = q
  fits_reads (b ∷ bs) f at s m q =
      let o = step wire f b in
      fits_upto (meet wire cap s m o.1) o.0 (suc at) (λ s' m'. reads wire cap bs o.0 (suc at) s' m') (fits_meet o.0 s m o.1 (fits_step f b s q))
      (λ s' m' z. fits_reads bs o.0 (suc at) s' m' z)

  fits_pull : (f : Frame wire) (at : ℕ) (s : Held wire) (m : List ℕ) (es : List (Event wire)) (bs : List (Place × ℕ)) → Fits f (holding wire cap s es)
      → FitsIn (pull wire cap f at (meet wire cap s m es) bs)
  fits_pull f at s m es bs q =
      fits_upto (meet wire cap s m es) f at (λ s m. reads wire cap bs f at s m) (fits_meet f s m es q) (λ s' m' z. fits_reads bs f at s' m' z)

  -- ---- ordinary bytes are set about

  abbrev FitsOut : Held wire → Start wire → Type 0
  FitsOut s t = Fits t.frame (holding wire cap s t.told)

  fits_upon : (bs : List (Place × ℕ)) (s : Held wire) → Fits (upon wire bs) s
  fits_upon [] s = omega arith
  fits_upon (b ∷ bs) s = omega arith

  fits_agree : (b : Bool) (p : Place) (f : Frame wire) (n : ℕ) (bs : List (Place × ℕ)) (s : Held wire) → Fits f s → FitsOut s (agree wire b p f n bs)
  fits_agree true p f n bs s q = q
  fits_agree false p f n bs s q = fits_upon (drop n bs) free

  fits_judge : (o : Option ℕ) (p : Place) (f : Frame wire) (n : ℕ) (bs : List (Place × ℕ)) (s : Held wire) → Fits f s → FitsOut s (judge wire o p f n bs)
  fits_judge None p f n bs s q = fits_upon (drop n bs) free
  fits_judge (Some m) p f n bs s q = fits_agree (eqb m n) p f n bs s q

  fits_start : (p : Place) (f : Frame wire) (n : ℕ) (bs : List (Place × ℕ)) (s : Held wire) → Fits f s → FitsOut s (start wire p f n bs)
  fits_start p lost n bs s q = fits_upon (drop n bs) s
  fits_start p idle n bs s q = fits_judge (foretold wire idle bs) p idle n bs s q
  fits_start p (head i k hs) n bs s q = fits_judge (foretold wire (head i k hs) bs) p (head i k hs) n bs s q
  fits_start p (body h k) n bs s q = fits_judge (foretold wire (body h k) bs) p (body h k) n bs s q

  fits_outset : (p : Place) (f : Frame wire) (o i : ℕ) (bs : List (Place × ℕ)) (s : Held wire) → Fits f s → FitsOut s (outset wire p f o i bs)
  unfolding outset
  fits_outset p f o i bs s q = by (eqb o 2047) (leb (i + length bs) o) (ltb o i)
    where
      by : (a b c : Bool)
          → FitsOut s (cond a (start wire p f (length bs) bs) (cond b (dropped wire 10 p bs) (cond c (dropped wire 21 p bs) (start wire p f (o - i) bs))))
      by true b c = fits_start p f (length bs) bs s q
      by false true c = omega arith
      by false false true = omega arith
      by false false false = fits_start p f (o - i) bs s q

-- ---- a receiver and what a call leaves of it

tag_is : {g b : Place} {h : Header} {n c e k : ℕ} → Own g h n c e b k → tag_of c e b ≡ begin_of (ep_at g h)
tag_is {g} {b} {h} {n} {c} {e} o =
    ap (λ (i : ℕ). tag_of i e b) o.content ∙ ap (λ (i : ℕ). tag_of h.content i b) o.flips ∙ ap (tag_of h.content h.flips) o.place

own_is : (g b : Place) (h : Header) (n c e k : ℕ) → tag_of c e b ≡ begin_of (ep_at g h) → h.size ≡ k + n → Own g h n c e b k
own_is g b h n c e k t s = record { content = ap (λ (x : Tag). x.content) t; flips = ap (λ (x : Tag). x.repaired) t; place = ap (λ (x : Tag). x.at) t; size = s }

headed_owns : (g : Place) (bs : List ℕ) (s : Held wire) (k : ℕ) → Owns (headed g bs) s k
headed_owns g [] s k = omega arith
headed_owns g (b ∷ bs) s k = omega arith

-- with no event still to be taken in
abbrev Leaves : Frame wire → List (Event wire) → Held wire → ℕ → Type 0
Leaves f es s k = es ≡ [] → Owns f s k

own_leaves : (g : Place) (p : Phase) (k : Option Kept) (m : List ℕ) → OwnIn g p k → Leaves (frame_of g p) (todo_of g p) (held_of k m) (keeps k)
own_leaves g Lost k m o e = omega arith
own_leaves g (Head n w) k m o e = headed_owns g (digits n w) (held_of k m) (keeps k)
own_leaves g (Judged h) k m o e = let no : ◌≡◌ {A = ℕ} 0 1 = cc in absurd (omega arith)
own_leaves g (Body h zero) k m o e = omega arith
own_leaves g (Body h (suc j)) None m o e = omega arith
own_leaves g (Body h (suc j)) (Some k) m o e = λ z. let w = o (omega arith) z in (tag_is w, w.size)

leaves_own : (g : Place) (p : Phase) (k : Option Kept) (m : List ℕ) → Leaves (frame_of g p) (todo_of g p) (held_of k m) (keeps k) → OwnIn g p k
leaves_own g Lost k m l = omega arith
leaves_own g (Head n w) k m l = omega arith
leaves_own g (Judged h) k m l = omega arith
leaves_own g (Body h n) None m l = omega arith
leaves_own g (Body h zero) (Some k) m l = λ i z. absurd (omega arith)
leaves_own g (Body h (suc j)) (Some k) m l = λ i z. let o = l refl z in own_is g k.began h (suc j) k.content k.repaired k.len o.0 o.1

own_fits : (g : Place) (p : Phase) (k : Option Kept) (m : List ℕ) → Fine (length m) p k → OwnIn g p k
    → Fits (frame_of g p) (holding wire (length m) (held_of k m) (todo_of g p))
own_fits g Lost k m f o = omega arith
own_fits g (Head n w) k m f o = headed_owns g (digits n w) (held_of k m) (holds (held_of k m))
own_fits g (Judged h) k m f o = fits_entered (length m) (ep_at g h) (held_of k m) h.size refl
own_fits g (Body h zero) k m f o = omega arith
own_fits g (Body h (suc j)) None m f o = omega arith
own_fits g (Body h (suc j)) (Some k) m f o =
    λ z. let w = o (omega arith) z in
    let l = length-take-le k.len m (omega (arith, f)) in
    (tag_is w, omega (arith, l, w.size))

settled_done : (g : Place) (p : Phase) → Settled p → todo_of g p ≡ []
settled_done g Lost s = refl
settled_done g (Head n w) s = refl
settled_done g (Judged h) s = absurd (omega arith)
settled_done g (Body h zero) s = absurd (omega arith)
settled_done g (Body h (suc j)) s = refl

-- so a call leaves it
abbrev LeavesIn : Gave → Type 0
LeavesIn g = Leaves g.frame g.todo g.held g.kept

-- ---- each way of a call, in a TP of this stamp

moved_leaves : (r : Receiver) (s : Stage) (at : ℕ) (a : Said) (m : List ℕ) → Placed r → LeavesIn (moved r s at a m)
moved_leaves r s at a m o = own_leaves r.walk.began r.walk.phase r.walk.kept m o

still_leaves : (r : Receiver) (t : Stamp) (f : Find) (n : ℕ) (m : List ℕ) → Placed r → LeavesIn (unchanged r t f n m)
still_leaves r t f n m o = moved_leaves r r.stage r.walk.at (says f (Some n) (start_of t)) m o

module _ (r : Receiver) (t : Stamp) (tp m : List ℕ) where
  plain_leaves : (x : Option (Finding wire)) (p : Pulled wire) → FitsIn (length m) p → LeavesIn (ordinary_by x r t p)
  plain_leaves x p q = by x
    where
      none_left : Leaves p.frame p.todo p.held (holds p.held)
      none_left e = subst (λ (es : List (Event wire)). Fits p.frame (holding wire (length m) p.held es)) e q

      by : (x : Option (Finding wire)) → LeavesIn (ordinary_by x r t p)
      by None = none_left
      by (Some (notice n g)) = none_left
      by (Some (low c d)) = none_left
      by (Some (ordinary c d)) = none_left

  start_leaves : (at : ℕ) (x : Start wire) → FitsOut (length m) (held_of r.walk.kept m) x → LeavesIn (start_call r t at x tp m)
  start_leaves at x q =
      let p = from (length m) t x (walk_to r at) tp m in
      plain_leaves p.find p
      (fits_pull (length m) x.frame (at + x.past) (held_of r.walk.kept m) m x.told (placed t (at + x.past) (drop (at + x.past) tp)) q)

  module _ (o : Placed r) (f : Fits (frame_of r.walk.began r.walk.phase) (held_of r.walk.kept m)) where
    due_leaves : (n at : ℕ) → LeavesIn (due_call r t n at tp m)
    unfolding due_call
    due_leaves n at =
        let bs = placed t at (drop at tp) in
        let g = frame_of r.walk.began r.walk.phase in
        start_leaves at (outset wire (start_of t) g n (at - 4) bs) (fits_outset (length m) (start_of t) g n (at - 4) bs (held_of r.walk.kept m) f)

    low_leaves : (l : Lows) (n : ℕ) → LeavesIn (low_call l r t n tp m)
    low_leaves (W.Broken at) n = start_leaves at (dropped wire 11 (place_at t at) (placed t at (drop at tp))) (omega arith)
    low_leaves (W.End at) n = due_leaves n at
    low_leaves (W.Gives x e i more at) n = moved_leaves r (cond more (S.Low n) (S.Due n)) at (said_of x (record { repaired = e; at = place_at t i }) tp m) m o

    payload_leaves : (b : Bool) (n : ℕ) → LeavesIn (payload_call b r t n tp m)
    payload_leaves true n = low_leaves (lows_of tp 4) n
    payload_leaves false n = due_leaves n 4

    word_leaves : (x : Option ℕ) → LeavesIn (word_call x r t tp m)
    word_leaves None = λ e. omega arith
    word_leaves (Some w) = payload_leaves (leb 2048 w) (w % 2048)

module _ (r : Receiver) (n : Stamps) (tp m : List ℕ) (a : Able r) (o : Placed r) where
  module _ (full : length m ≡ r.limit) where
    fits_on : Fits (frame_of r.walk.began r.walk.phase) (holding wire (length m) (held_of r.walk.kept m) (todo_of r.walk.began r.walk.phase))
    fits_on =
        own_fits r.walk.began r.walk.phase r.walk.kept m
        (subst (λ (k : ℕ). Fine k r.walk.phase r.walk.kept) (sym full) a.walk.phase) o

    fits_settled : Settled r.walk.phase → Fits (frame_of r.walk.began r.walk.phase) (held_of r.walk.kept m)
    fits_settled s =
        subst (λ (es : List (Event wire)). Fits (frame_of r.walk.began r.walk.phase) (holding wire (length m) (held_of r.walk.kept m) es))
        (settled_done r.walk.began r.walk.phase s) fits_on

    first_leaves : Settled r.walk.phase → LeavesIn (first_call r (counted_of r) n tp m)
    unfolding first_call
    first_leaves s = by (eqb (stream_of (get_or tp 0 0)) r.stream) (eqb (version_of (get_or tp 0 0)) 0)
      where
        word : Option ℕ
        word = tp_number_in (number 0 (take 3 (drop 1 tp)))

        by : (x y : Bool) → LeavesIn (cond x (cond y (word_call word (counted_of r) n.now tp m) (gone (counted_of r) n.now 7 m)) (unchanged r n.before (F.Notice 8) 8 m))
        by true true = word_leaves (counted_of r) n.now tp m o (fits_settled s) word
        by true false = λ e. omega arith
        by false y = still_leaves r n.before (F.Notice 8) 8 m o

    staged_leaves : (g : Stage) → Staged g r.walk → LeavesIn (stage_call g r (counted_of r) n tp m)
    unfolding pull_of
    staged_leaves S.Fresh s = first_leaves s
    staged_leaves (S.Low i) s = low_leaves (counted_of r) n.now tp m o (fits_settled s.2) (lows_of tp r.walk.at) i
    staged_leaves (S.Due i) s = due_leaves (counted_of r) n.now tp m o (fits_settled s.2) i r.walk.at
    staged_leaves S.Plain s =
        let w = r.walk in
        let p = pull_of (length m) n.now w tp m in
        plain_leaves (counted_of r) n.now tp m p.find p
        (fits_pull (length m) (frame_of w.began w.phase) w.at (held_of w.kept m) m (todo_of w.began w.phase) (placed n.now w.at (drop w.at tp)) fits_on)

  call_leaves : LeavesIn (call_as r n tp m)
  unfolding call_as
  call_leaves = by (eqb (length m) r.limit) (eqb (length tp) r.size) refl
    where
      by : (x y : Bool) → eqb (length m) r.limit ≡ x
          → LeavesIn (cond x (cond y (stage_call r.stage r (counted_of r) n tp m) (unchanged r n.before (F.Notice 6) 6 m)) (unchanged r n.before F.Refused 1 m))
      by true true e = staged_leaves (eqb-true (length m) r.limit e) r.stage a.stage
      by true false e = still_leaves r n.before (F.Notice 6) 6 m o
      by false y e = still_leaves r n.before F.Refused 1 m o

-- ---- AS CALLS LEAVE A RECEIVER

pub placed_fresh : (size stream limit count : ℕ) → Placed (fresh_of size stream limit count)
placed_fresh size stream limit count = omega arith

pub placed_gap : (r : Receiver) → Placed (gap_of r)
placed_gap r = omega arith

pub placed_next : {r : Receiver} {tp m' : List ℕ} {q : Step} (m : List ℕ) → Able r → Placed r → Gives (call_of r tp m) q tp m' → Placed q.receiver
unfolding call_of stepped
placed_next {r} {tp} {m'} {q} m a o g =
    let w = q.receiver.walk in
    leaves_own w.began w.phase w.kept m' (subst LeavesIn (sym g.same) (call_leaves r (stamps_of r) tp m a o))

pub placed_over : (r : Receiver) → Placed r → Placed (over_of r)
placed_over r o = o

-- all of a payload is data, and more of them follow
taken_own : (g : Place) (p : Phase) (k : Option Kept) (n : ℕ) → LeftOver n p → OwnIn g p k → OwnIn g (less_by n p) (grown_by n k)
taken_own g Lost k n l o = absurd (omega arith)
taken_own g (Head i w) k n l o = absurd (omega arith)
taken_own g (Judged h) k n l o = absurd (omega arith)
taken_own g (Body h left) None n l o = omega arith
taken_own g (Body h left) (Some q) n l o =
    λ i z. let w = o (omega arith) z in
    record { content = w.content; flips = w.flips; place = w.place; size = omega (arith, w.size) }

pub placed_taken : (r : Receiver) (len : ℕ) → InData r len → Placed r → Placed (taken_of r (len - 4))
placed_taken r len d o = taken_own r.walk.began r.walk.phase r.walk.kept (len - 4) d.more o

pub placed_lane : (b : Receiver) (k : ℕ) (l : Lane) (s : Stage) (at : ℕ) → Placed (in_lane b k l s at)
placed_lane b k L.Other s at = omega arith
placed_lane b k L.Lost s at = omega arith
placed_lane b k L.Idle s at = omega arith
placed_lane b k (L.Cut p n w) s at = omega arith
placed_lane b k (L.Busy p left len c e) s at = λ i z. record { content = refl; flips = refl; place = refl; size = refl }
