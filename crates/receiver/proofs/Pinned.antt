-- THE CONTRACT ALLOWS ONE RESULT: what a call promises settles the answer, the receiver and the room; so do the others.
-- Two phases that stand for the same are the same, since a header's bytes are the digits of its number. Where nothing is under way,
-- the place at which it began is looked at by no call, and by no contract. Assumes nothing.
use mathlib.Core.Path.{ap, refl, sym, ◌∙◌, ◌≡◌}
use mathlib.Core.Bool.{Bool, cond, false, true}
use mathlib.Core.List.{List, [], ◌++◌, ◌∷◌}
use Prim.Native.Nat.{suc, zero, ℕ, ◌%◌, ◌-◌, ◌/◌, ◌<◌, ◌^◌}
use native.Mathlib.Omega.{arith}
use lib.Dec.{eqb, leb}
use lib.ListN.{drop, get_or, length, take}
use borrow.Author.Tests.{ne_eqb}
use Rattle.std.specs.Prelude.{None, Some, Option}
use Rattle.digits.specs.Digits.{digits, number}
use Rattle.wire.specs.Reading.{stream_of, tp_number_in, version_of}
use Rattle.wire.specs.declared.Header.{Header}
use Rattle.receiver.specs.declared.Find.{Find}
use Rattle.receiver.specs.declared.Place.{Place}
use Rattle.receiver.specs.declared.Receiver.{Receiver}
use Rattle.receiver.specs.declared.Stage.{Stage}
use Rattle.receiver.specs.declared.Stamp.{Stamp}
use Rattle.receiver.specs.declared.Step.{Step}
use Rattle.receiver.specs.declared.low.Lows.{Lows}
use Rattle.receiver.specs.declared.stages.Stamps.{Stamps}
use Rattle.receiver.specs.declared.walk.Kept.{Kept}
use Rattle.receiver.specs.declared.walk.Phase.{Phase}
use Rattle.receiver.specs.declared.walk.Phase.TheVariants.{Body, Head, Judged, Lost}
use Rattle.receiver.specs.Call.{Answered, Gave, Gives, OpenedAs, Said, call_as, counted_of, due_call, first_call, gone, leave, low_call, moved, ordinary_by, ordinary_call, payload_call, pending_by, pending_of, said_of, says, stage_call, start_call, stepped, unchanged, walk_to, word_call}
use Rattle.receiver.specs.Forecast.{Start, dropped, outset}
use Rattle.receiver.specs.Frame.{Event, Frame, body, head, idle, lost}
use Rattle.receiver.specs.Join.{Finding, low, notice, ordinary}
use Rattle.receiver.specs.Low.{Ep, Tag, ep_at, tag_of, wire}
use Rattle.receiver.specs.Place.{own_of, place_at, placed, start_of}
use Rattle.receiver.specs.Lows.{lows_of}
use Rattle.receiver.specs.Pull.{Pulled, meet, pull}
use Rattle.receiver.specs.State.{Fine, frame_of, from, headed, held_of, keeps, pull_of, todo_of, kept_by}
use Rattle.receiver.proofs.Heading.{length_digits, number_digits}
use Rattle.receiver.specs.declared.Find.TheVariants as F
use Rattle.receiver.specs.declared.Stage.TheVariants as S
use Rattle.receiver.specs.declared.low.Lows.TheVariants as L

-- the place at which the header or EP under way began; place 0 of no TP where none is
abbrev pub began_in : Phase → Place → Place
began_in Lost g = start_of (own_of 0)
began_in (Head n w) g = cond (eqb n 0) (start_of (own_of 0)) g
began_in (Judged h) g = g
began_in (Body h n) g = g

-- a step but for what nothing looks at
abbrev pub plainly : Receiver → Receiver
plainly r = record {
  size = r.size;
  stream = r.stream;
  limit = r.limit;
  count = r.count;
  stage = r.stage;
  walk = record { at = r.walk.at; phase = r.walk.phase; began = began_in r.walk.phase r.walk.began; kept = r.walk.kept };
}

abbrev pub shown_of : Step → Step
shown_of q = record { receiver = plainly q.receiver; find = q.find; about = q.about }

-- the bytes of a header that a frame has, and its sort

abbrev bytes_of : Frame wire → List ℕ
bytes_of lost = []
bytes_of idle = []
bytes_of (head g k hs) = hs
bytes_of (body h k) = []

abbrev sort : Frame wire → ℕ
sort lost = 0
sort idle = 1
sort (head g k hs) = 1
sort (body h k) = 2

-- and where its header or EP began
abbrev place_of : Frame wire → Place
place_of lost = start_of (own_of 0)
place_of idle = start_of (own_of 0)
place_of (head g k hs) = g
place_of (body h k) = h.at

bytes_headed : (g : Place) (hs : List ℕ) → bytes_of (headed g hs) ≡ hs
bytes_headed g [] = refl
bytes_headed g (x ∷ xs) = refl

sort_headed : (g : Place) (hs : List ℕ) → sort (headed g hs) ≡ 1
sort_headed g [] = refl
sort_headed g (x ∷ xs) = refl

place_snoc : (g : Place) (hs : List ℕ) (d : ℕ) → place_of (headed g (hs ++ d ∷ [])) ≡ g
place_snoc g [] d = refl
place_snoc g (x ∷ hs) d = refl

place_headed : (g : Place) (n w : ℕ) → place_of (headed g (digits n w)) ≡ began_in (Head n w) g
place_headed g zero w = refl
place_headed g (suc n) w =
    place_snoc g (digits n (w / 256)) (w % 256) ∙ sym (ap (λ (b : Bool). cond b (start_of (own_of 0)) g) (ne_eqb (suc n) 0 (λ e. omega arith)))

same_head : (g g' : Place) (n w n' w' : ℕ) → w < 256 ^ n → w' < 256 ^ n' → headed g (digits n w) ≡ headed g' (digits n' w') → Head n w ≡ Head n' w'
same_head g g' n w n' w' a b e =
    let d : digits n w ≡ digits n' w' = sym (bytes_headed g (digits n w)) ∙ ap bytes_of e ∙ bytes_headed g' (digits n' w') in
    let p : n ≡ n' = sym (length_digits n w) ∙ ap length d ∙ length_digits n' w' in
    let q : w ≡ w' = sym (number_digits n w a) ∙ ap (number 0) d ∙ number_digits n' w' b in
    cc

-- a header being read is neither out of step nor in an EP's data
no_head : (g : Place) (n w i : ℕ) (f : Frame wire) → sort f ≡ i → (i ≡ 1 → ⊥) → headed g (digits n w) ≡ f → ⊥
no_head g n w i f s d e = d (sym s ∙ sym (ap sort e) ∙ sort_headed g (digits n w))

-- the same phase, and the same place where something is under way
abbrev Alike : Place → Place → Phase → Phase → Type 0
Alike g g' p q = (p ≡ q) × (began_in p g ≡ began_in q g')

alike_head : (g g' : Place) (n w n' w' : ℕ) → w < 256 ^ n → w' < 256 ^ n' → headed g (digits n w) ≡ headed g' (digits n' w') → Alike g g' (Head n w) (Head n' w')
alike_head g g' n w n' w' a b e =
    (same_head g g' n w n' w' a b e, sym (place_headed g n w) ∙ ap place_of e ∙ place_headed g' n' w')

same_phase : (c c' : ℕ) (g g' : Place) (p q : Phase) (k l : Option Kept) → Fine c p k → Fine c' q l → frame_of g p ≡ frame_of g' q → todo_of g p ≡ todo_of g' q → Alike g g' p q
same_phase c c' g g' Lost Lost k l a b e f = (refl, refl)
same_phase c c' g g' Lost (Head n w) k l a b e f = absurd (no_head g' n w 0 lost refl (λ z. omega arith) (sym e))
same_phase c c' g g' Lost (Judged h) k l a b e f = (cc, cc)
same_phase c c' g g' Lost (Body h zero) k l a b e f = (cc, cc)
same_phase c c' g g' Lost (Body h (suc n)) k l a b e f = (cc, cc)
same_phase c c' g g' (Head n w) Lost k l a b e f = absurd (no_head g n w 0 lost refl (λ z. omega arith) e)
same_phase c c' g g' (Head n w) (Head i x) k l a b e f = alike_head g g' n w i x a.1 b.1 e
same_phase c c' g g' (Head n w) (Judged h) k l a b e f = (cc, cc)
same_phase c c' g g' (Head n w) (Body h zero) k l a b e f = (cc, cc)
same_phase c c' g g' (Head n w) (Body h (suc i)) k l a b e f = absurd (no_head g n w 2 (body (ep_at g' h) i) refl (λ z. omega arith) e)
same_phase c c' g g' (Judged h) Lost k l a b e f = (cc, cc)
same_phase c c' g g' (Judged h) (Head n w) k l a b e f = (cc, cc)
same_phase c c' g g' (Judged h) (Judged i) k l a b e f =
    let z : ep_at g h ≡ ep_at g' i = cc in
    let x : h ≡ i = ap (λ (h : Ep). h.header) z in
    (ap Judged x, ap (λ (h : Ep). h.at) z)
same_phase c c' g g' (Judged h) (Body i zero) k l a b e f = (cc, cc)
same_phase c c' g g' (Judged h) (Body i (suc n)) k l a b e f = (cc, cc)
same_phase c c' g g' (Body h zero) Lost k l a b e f = (cc, cc)
same_phase c c' g g' (Body h (suc n)) Lost k l a b e f = (cc, cc)
same_phase c c' g g' (Body h zero) (Head n w) k l a b e f = (cc, cc)
same_phase c c' g g' (Body h (suc i)) (Head n w) k l a b e f = absurd (no_head g' n w 2 (body (ep_at g h) i) refl (λ z. omega arith) (sym e))
same_phase c c' g g' (Body h zero) (Judged i) k l a b e f = (cc, cc)
same_phase c c' g g' (Body h (suc n)) (Judged i) k l a b e f = (cc, cc)
same_phase c c' g g' (Body h zero) (Body i zero) k l a b e f =
    let z : ep_at g h ≡ ep_at g' i = cc in
    let x : h ≡ i = ap (λ (h : Ep). h.header) z in
    (ap (λ (h : Header). Body h 0) x, ap (λ (h : Ep). h.at) z)
same_phase c c' g g' (Body h zero) (Body i (suc n)) k l a b e f = (cc, cc)
same_phase c c' g g' (Body h (suc n)) (Body i zero) k l a b e f = (cc, cc)
same_phase c c' g g' (Body h (suc n)) (Body i (suc j)) k l a b e f =
    let z : ep_at g h ≡ ep_at g' i = cc in
    let y : n ≡ j = cc in
    let x : h ≡ i = ap (λ (h : Ep). h.header) z in
    (cc, ap (λ (h : Ep). h.at) z)

same_kept : (m : List ℕ) (k l : Option Kept) → held_of k m ≡ held_of l m → keeps k ≡ keeps l → k ≡ l
same_kept m None None e f = refl
same_kept m None (Some k) e f = cc
same_kept m (Some k) None e f = cc
same_kept m (Some k) (Some held) e f =
    let t : tag_of k.content k.repaired k.began ≡ tag_of held.content held.repaired held.began = cc in
    let p : k.content ≡ held.content = ap (λ (t : Tag). t.content) t in
    let q : k.repaired ≡ held.repaired = ap (λ (t : Tag). t.repaired) t in
    let r : k.began ≡ held.began = ap (λ (t : Tag). t.at) t in
    ap (λ (c : ℕ). kept_by c k.repaired k.began k.len) p ∙ ap (λ (e : ℕ). kept_by held.content e k.began k.len) q
    ∙ ap (λ (g : Place). kept_by held.content held.repaired g k.len) r ∙ ap (λ (n : ℕ). kept_by held.content held.repaired held.began n) f

-- a step from its parts
unfoldable build : ℕ → ℕ → ℕ → ℕ → Stage → ℕ → Phase → Place → Option Kept → Find → ℕ → Place → Step
build size stream limit count stage at p g k f e b = record {
  receiver = record { size = size; stream = stream; limit = limit; count = count; stage = stage; walk = record { at = at; phase = p; began = g; kept = k } };
  find = f;
  about = record { repaired = e; at = b };
}

built : (q : Step)
    → shown_of q
    ≡ build q.receiver.size q.receiver.stream q.receiver.limit q.receiver.count q.receiver.stage q.receiver.walk.at q.receiver.walk.phase (began_in q.receiver.walk.phase q.receiver.walk.began) q.receiver.walk.kept q.find q.about.repaired q.about.at
unfolding build
built q = refl

-- PINNED: two results that a call's contract allows are equal, but for what nothing looks at
pub pinned : (g : Gave) (tp : List ℕ) (q q' : Step) (m m' : List ℕ) → Gives g q tp m → Gives g q' tp m' → (shown_of q ≡ shown_of q') × (m ≡ m')
unfolding stepped
pinned g tp q q' m m' a b =
    let e : stepped q tp m ≡ stepped q' tp m' = a.same ∙ sym b.same in
    let room : m ≡ m' = ap (λ (g : Gave). g.room) e in
    let w = q.receiver.walk in
    let w' = q'.receiver.walk in
    let find = ap (λ (g : Gave). g.said.find) e in
    let repaired = ap (λ (g : Gave). g.said.repaired) e in
    let place = ap (λ (g : Gave). g.said.place) e in
    let size = ap (λ (g : Gave). g.size) e in
    let stream = ap (λ (g : Gave). g.stream) e in
    let limit = ap (λ (g : Gave). g.limit) e in
    let count = ap (λ (g : Gave). g.count) e in
    let stage = ap (λ (g : Gave). g.stage) e in
    let at = ap (λ (g : Gave). g.at) e in
    let phase = same_phase q.receiver.limit q'.receiver.limit w.began w'.began w.phase w'.phase w.kept w'.kept a.able.walk.phase b.able.walk.phase
    (ap (λ (g : Gave). g.frame) e) (ap (λ (g : Gave). g.todo) e) in
    let held : held_of w.kept m ≡ held_of w'.kept m = ap (λ (g : Gave). g.held) e ∙ ap (held_of w'.kept) (sym room) in
    let kept = same_kept m w.kept w'.kept held (ap (λ (g : Gave). g.kept) e) in
    (built q ∙ same_built size stream limit count stage at phase.0 phase.1 kept find repaired place ∙ sym (built q'), room)
  where
    same_built : {a a' b b' c c' d d' : ℕ} {s s' : Stage} {i i' : ℕ} {p p' : Phase} {g g' : Place} {k k' : Option Kept} {f f' : Find} {t t' : ℕ} {u u' : Place}
        → a ≡ a' → b ≡ b' → c ≡ c' → d ≡ d' → s ≡ s' → i ≡ i' → p ≡ p' → g ≡ g' → k ≡ k' → f ≡ f' → t ≡ t' → u ≡ u'
        → build a b c d s i p g k f t u ≡ build a' b' c' d' s' i' p' g' k' f' t' u'
    same_built x y z d u v w g k f t b = cc

-- WHAT NOTHING LOOKS AT: a receiver with and without it answers alike

same_frame : (p : Phase) (g : Place) → frame_of (began_in p g) p ≡ frame_of g p
same_frame Lost g = refl
same_frame (Head zero w) g = refl
same_frame (Head (suc n) w) g =
    ap (λ (b : Bool). headed (cond b (start_of (own_of 0)) g) (digits (suc n) w)) (ne_eqb (suc n) 0 (λ e. omega arith))
same_frame (Judged h) g = refl
same_frame (Body h n) g = refl

same_todo : (p : Phase) (g : Place) → todo_of (began_in p g) p ≡ todo_of g p
same_todo Lost g = refl
same_todo (Head n w) g = refl
same_todo (Judged h) g = refl
same_todo (Body h n) g = refl

module _ (r : Receiver) (t : Stamp) (tp m : List ℕ) where
  abbrev From : Place → Frame wire
  From g = frame_of g r.walk.phase

  moved_alike : (stage : Stage) (at : ℕ) (a : Said) → moved (plainly r) stage at a m ≡ moved r stage at a m
  moved_alike stage at a =
      let s = held_of r.walk.kept m in
      ap (λ (f : Frame wire). leave r stage at f (todo_of (began_in r.walk.phase r.walk.began) r.walk.phase) s (keeps r.walk.kept) a m) (same_frame r.walk.phase r.walk.began)
      ∙ ap (λ (es : List (Event wire)). leave r stage at (From r.walk.began) es s (keeps r.walk.kept) a m) (same_todo r.walk.phase r.walk.began)

  ordinary_alike : (x : Option (Finding wire)) (p : Pulled wire) → ordinary_by x (plainly r) t p ≡ ordinary_by x r t p
  ordinary_alike None p = refl
  ordinary_alike (Some (notice n g)) p = refl
  ordinary_alike (Some (low c d)) p = refl
  ordinary_alike (Some (ordinary c d)) p = refl

  start_alike : (at : ℕ) (x : Start wire) → start_call (plainly r) t at x tp m ≡ start_call r t at x tp m
  start_alike at x = let p = from (length m) t x (walk_to r at) tp m in ordinary_alike p.find p

  due_alike : (o at : ℕ) → due_call (plainly r) t o at tp m ≡ due_call r t o at tp m
  unfolding due_call
  due_alike o at =
      ap (λ (f : Frame wire). start_call (plainly r) t at (outset wire (start_of t) f o (at - 4) (placed t at (drop at tp))) tp m) (same_frame r.walk.phase r.walk.began)
      ∙ start_alike at (outset wire (start_of t) (From r.walk.began) o (at - 4) (placed t at (drop at tp)))

  low_alike : (l : Lows) (o : ℕ) → low_call l (plainly r) t o tp m ≡ low_call l r t o tp m
  low_alike (L.Broken at) o = start_alike at (dropped wire 11 (place_at t at) (placed t at (drop at tp)))
  low_alike (L.End at) o = due_alike o at
  low_alike (L.Gives f e i more at) o = moved_alike (cond more (S.Low o) (S.Due o)) at (said_of f (record { repaired = e; at = place_at t i }) tp m)

  payload_alike : (b : Bool) (o : ℕ) → payload_call b (plainly r) t o tp m ≡ payload_call b r t o tp m
  payload_alike true o = low_alike (lows_of tp 4) o
  payload_alike false o = due_alike o 4

  word_alike : (o : Option ℕ) → word_call o (plainly r) t tp m ≡ word_call o r t tp m
  word_alike None = refl
  word_alike (Some w) = payload_alike (leb 2048 w) (w % 2048)

  still_alike : (f : Find) (n : ℕ) → unchanged (plainly r) t f n m ≡ unchanged r t f n m
  still_alike f n = moved_alike r.stage r.walk.at (says f (Some n) (start_of t))

module _ (r : Receiver) (n : Stamps) (tp m : List ℕ) where
  abbrev C : Receiver
  C = counted_of r

  first_alike : first_call (plainly r) (counted_of (plainly r)) n tp m ≡ first_call r C n tp m
  unfolding first_call
  first_alike = by (eqb (stream_of (get_or tp 0 0)) r.stream) (eqb (version_of (get_or tp 0 0)) 0)
    where
      W : Option ℕ
      W = tp_number_in (number 0 (take 3 (drop 1 tp)))

      by : (a b : Bool)
          → cond {A = Gave} a (cond b (word_call W (plainly C) n.now tp m) (gone (plainly C) n.now 7 m)) (unchanged (plainly r) n.before (F.Notice 8) 8 m)
          ≡ cond a (cond b (word_call W C n.now tp m) (gone C n.now 7 m)) (unchanged r n.before (F.Notice 8) 8 m)
      by true true = word_alike C n.now tp m W
      by true false = refl
      by false b = still_alike r n.before tp m (F.Notice 8) 8

  stage_alike : (g : Stage) → stage_call g (plainly r) (counted_of (plainly r)) n tp m ≡ stage_call g r C n tp m
  unfolding pull_of
  stage_alike S.Fresh = first_alike
  stage_alike (S.Low o) = low_alike C n.now tp m (lows_of tp r.walk.at) o
  stage_alike (S.Due o) = due_alike C n.now tp m o r.walk.at
  stage_alike S.Plain =
      let w = r.walk in
      let g = began_in w.phase w.began in
      let bs = placed n.now w.at (drop w.at tp) in
      ap (λ (f : Frame wire). ordinary_call (plainly C) n.now (pull wire (length m) f w.at (meet wire (length m) (held_of w.kept m) m (todo_of g w.phase)) bs)) (same_frame w.phase w.began)
      ∙ ap (λ (es : List (Event wire)). ordinary_call (plainly C) n.now (pull wire (length m) (frame_of w.began w.phase) w.at (meet wire (length m) (held_of w.kept m) m es) bs)) (same_todo w.phase w.began)
      ∙ let p = pull_of (length m) n.now w tp m in ordinary_alike C n.now tp m p.find p

  pub unlooked : call_as (plainly r) n tp m ≡ call_as r n tp m
  unfolding call_as
  unlooked = by (eqb (length m) r.limit) (eqb (length tp) r.size)
    where
      by : (a b : Bool)
          → cond {A = Gave} a (cond b (stage_call r.stage (plainly r) (counted_of (plainly r)) n tp m) (unchanged (plainly r) n.before (F.Notice 6) 6 m)) (unchanged (plainly r) n.before F.Refused 1 m)
          ≡ cond a (cond b (stage_call r.stage r C n tp m) (unchanged r n.before (F.Notice 6) 6 m)) (unchanged r n.before F.Refused 1 m)
      by true true = stage_alike r.stage
      by true false = still_alike r n.before tp m (F.Notice 6) 6
      by false b = still_alike r n.before tp m F.Refused 1

-- nor does it show in what is unfinished
pub unlooked_pending : (r : Receiver) → pending_of (plainly r).walk ≡ pending_of r.walk
unlooked_pending r = by r.walk.kept r.walk.phase
  where
    by : (k : Option Kept) (p : Phase) → pending_by k p (began_in p r.walk.began) ≡ pending_by k p r.walk.began
    by (Some k) p = refl
    by None Lost = refl
    by None (Head n w) = under (eqb n 0) refl
      where
        under : (b : Bool) → eqb n 0 ≡ b → cond b None (Some (cond b (start_of (own_of 0)) r.walk.began)) ≡ cond b None (Some r.walk.began)
        under true q = refl
        under false q = refl
    by None (Judged h) = refl
    by None (Body h n) = refl

-- an opening and a told gap are equations already
pub opening_pinned : (size stream limit : ℕ) (q q' : Option Receiver) → OpenedAs size stream limit q → OpenedAs size stream limit q' → q ≡ q'
opening_pinned size stream limit q q' a b = ap (λ (x : Answered). x.opened) (a.same ∙ sym b.same)
