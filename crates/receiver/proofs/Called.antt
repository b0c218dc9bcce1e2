-- CALLED UNTIL NONE: over the contracts, the finds of a whole TP are those that its definition reads, in its order, and so
-- for any number of TPs and told gaps. Each call's promise is put in for the definition of the call. Assumes nothing.
use mathlib.Core.Path.{ap, refl, subst, sym, ◌∙◌, ◌≡◌}
use mathlib.Core.Bool.{Bool, false, true}
use mathlib.Core.List.{List, [], append-nil, ◌++◌, ◌∷◌}
use Prim.Native.Nat.{suc, ℕ}
use native.Mathlib.Omega.{arith}
use lib.Dec.{eqb}
use lib.ListN.{length}
use borrow.Author.Tests.{eq-eqb, eqb-false, eqb-true, ne_eqb}
use Rattle.receiver.specs.declared.Receiver.{Receiver}
use Rattle.receiver.specs.declared.Stage.{Stage}
use Rattle.receiver.specs.declared.Stamp.{Stamp}
use Rattle.receiver.specs.declared.Step.{Step}
use Rattle.receiver.specs.declared.stages.Stamps.{Stamps}
use Rattle.receiver.specs.Call.{Gave, Gives, always, call_as, call_of, count_in, counted_of, data_of, first_call, low_call, ordinary_call, stage_call, stamps_of, stepped}
use Rattle.receiver.specs.Frame.{Frame}
use Rattle.receiver.specs.Join.{Finding, Held, notice}
use Rattle.receiver.specs.Low.{wire}
use Rattle.receiver.specs.Lows.{lows_of}
use Rattle.receiver.specs.Place.{own_of, start_of}
use Rattle.receiver.specs.State.{Able, Staged, frame_of, held_of, pull_of, todo_of}
use Rattle.receiver.specs.Tp.{Listing, brings, heard, listing, listing_of, tp_in}
use Rattle.receiver.proofs.Ending.{Ended, Tells, six_tells_as, tells_as}
use Rattle.receiver.proofs.Lasting.{lasts_as, unfinished_count}
use Rattle.receiver.proofs.Rest.{afterwards, before, due_rest_lem, heard_from, low_rest, ordinary_call_by, saying, stage_rest}
use Rattle.receiver.proofs.Whole.{fresh_rest, low_call_rest, setting_of, stand_of}
use Rattle.receiver.specs.declared.Stage.TheVariants as S

-- what a receiver still has to give in this stage of a begun TP, of this stamp
abbrev rest_of : Stage → Receiver → Stamp → List ℕ → List ℕ → Listing
rest_of g r t tp m = stage_rest r.limit t g r.walk.at (frame_of r.walk.began r.walk.phase) (held_of r.walk.kept m) (todo_of r.walk.began r.walk.phase) tp

-- the finds that a receiver still has to give of this TP, by these stamps
abbrev pub coming_of : Stage → Receiver → Stamps → List ℕ → List ℕ → Listing
coming_of S.Fresh r n tp m = listing (setting_of r) (stand_of r m) (heard (setting_of r) n (frame_of r.walk.began r.walk.phase) tp)
coming_of (S.Low o) r n tp m = rest_of (S.Low o) r n.now tp m
coming_of (S.Due o) r n tp m = rest_of (S.Due o) r n.now tp m
coming_of S.Plain r n tp m = rest_of S.Plain r n.now tp m

module _ (r : Receiver) (n : Stamps) (tp m : List ℕ) (able : Able r) (full : length m ≡ r.limit) (whole : length tp ≡ r.size) where
  abbrev At : Frame wire
  At = frame_of r.walk.began r.walk.phase

  abbrev With : Held wire
  With = held_of r.walk.kept m

  staged_rest : (g : Stage) → r.stage ≡ g → Staged g r.walk → coming_of g r n tp m ≡ afterwards r.limit n.now (stage_call g r (counted_of r) n tp m) tp
  unfolding pull_of
  staged_rest S.Fresh e z =
      let b = able.size in
      subst (λ (k : ℕ). heard_from k With (heard (setting_of r) n At tp) ≡ afterwards k n.now (first_call r (counted_of r) n tp m) tp) full
      (fresh_rest r n tp m e (omega arith) whole)
  staged_rest (S.Low o) e z =
      let b = able.walk.at in
      subst (λ (k : ℕ). low_rest k n.now (suc (length tp)) At With o r.walk.at tp ≡ afterwards k n.now (low_call (lows_of tp r.walk.at) (counted_of r) n.now o tp m) tp) full
      (low_call_rest (counted_of r) n.now o tp m r.walk.at z.1 (omega arith))
  staged_rest (S.Due o) e z = due_rest_lem r.limit n.now (counted_of r) o r.walk.at tp m (sym full)
  staged_rest S.Plain e z =
      let p = pull_of r.limit n.now r.walk tp m in
      ordinary_call_by r.limit n.now p.find (counted_of r) tp At r.walk.at With m (todo_of r.walk.began r.walk.phase) p refl refl
      ∙ ap (λ (k : ℕ). afterwards r.limit n.now (ordinary_call (counted_of r) n.now (pull_of k n.now r.walk tp m)) tp) (sym full)

  -- a call takes the first find to come, and leaves the others
  pub rest_as : coming_of r.stage r n tp m ≡ afterwards r.limit n.now (call_as r n tp m) tp
  unfolding call_as
  rest_as = rw (eq-eqb (length m) r.limit full, eq-eqb (length tp) r.size whole) (staged_rest r.stage refl able.stage)

-- by the receiver's own count
pub call_rest : (r : Receiver) (tp m : List ℕ) → Able r → length m ≡ r.limit → length tp ≡ r.size
    → coming_of r.stage r (stamps_of r) tp m ≡ afterwards r.limit (stamps_of r).now (call_of r tp m) tp
unfolding call_of
call_rest r tp m a f w = rest_as r (stamps_of r) tp m a f w

-- the calls for one TP, each by the stamps that its receiver gets, with the state and the room that the one before it left, up to
-- one that says none, or 6 to 9: the finds that they gave, and what they left
pub data Calls (by : Receiver → Stamps) (tp : List ℕ) : Receiver → List ℕ → List (Finding wire) → Receiver → List ℕ → Type 0 where
  last : {r : Receiver} {m : List ℕ} {q : Step} {m' : List ℕ} → Gives (call_as r (by r) tp m) q tp m' → Ended q.find
      → Calls by tp r m (saying r.limit q.find q.about (data_of q.find tp m')) q.receiver m'
  more : {r : Receiver} {m : List ℕ} {q : Step} {m' : List ℕ} {fs : List (Finding wire)} {r' : Receiver} {m'' : List ℕ}
      → Gives (call_as r (by r) tp m) q tp m' → (Ended q.find → ⊥) → Calls by tp q.receiver m' fs r' m''
      → Calls by tp r m (saying r.limit q.find q.about (data_of q.find tp m') ++ fs) r' m''

-- those of `next` are by `stamps_of`
pub own : (r : Receiver) (tp m : List ℕ) (q : Step) (m' : List ℕ) → Gives (call_of r tp m) q tp m' → Gives (call_as r (stamps_of r) tp m) q tp m'
unfolding call_of
own r tp m q m' g = g

-- within a TP its stamp stays
abbrev pub Steady : (Receiver → Stamps) → Type 0
Steady by = (r q : Receiver) → (q.stage ≡ S.Fresh → ⊥) → q.count ≡ count_in r.stage r.count → (by q).now ≡ (by r).now

-- so it does by the receiver's own count, and by a caller's stamp
pub own_steady : Steady stamps_of
own_steady r q d e = ap own_of (by q.stage d ∙ e)
  where
    by : (g : Stage) → (g ≡ S.Fresh → ⊥) → count_in g q.count ≡ q.count
    by S.Fresh d = absurd (d refl)
    by (S.Low o) d = refl
    by (S.Due o) d = refl
    by S.Plain d = refl

pub stamped_steady : (t : Stamp) → Steady (λ r. always t)
stamped_steady t r q d e = refl

here : (g : Stage) (r : Receiver) (tp m : List ℕ) (cap : ℕ) (t u : Stamp) → cap ≡ r.limit → t ≡ u
    → stage_rest cap t g r.walk.at (frame_of r.walk.began r.walk.phase) (held_of r.walk.kept m) (todo_of r.walk.began r.walk.phase) tp ≡ rest_of g r u tp m
here g r tp m cap t u e q =
    ap (λ (k : ℕ). stage_rest k t g r.walk.at (frame_of r.walk.began r.walk.phase) (held_of r.walk.kept m) (todo_of r.walk.began r.walk.phase) tp) e
    ∙ ap (λ (t : Stamp). rest_of g r t tp m) q

stage_coming : (g : Stage) (r : Receiver) (n : Stamps) (tp m : List ℕ) (cap : ℕ) (t : Stamp) → cap ≡ r.limit → t ≡ n.now → (g ≡ S.Fresh → ⊥)
    → stage_rest cap t g r.walk.at (frame_of r.walk.began r.walk.phase) (held_of r.walk.kept m) (todo_of r.walk.began r.walk.phase) tp ≡ coming_of g r n tp m
stage_coming S.Fresh r n tp m cap t e u d = absurd (d refl)
stage_coming (S.Low o) r n tp m cap t e u d = here (S.Low o) r tp m cap t n.now e u
stage_coming (S.Due o) r n tp m cap t e u d = here (S.Due o) r tp m cap t n.now e u
stage_coming S.Plain r n tp m cap t e u d = here S.Plain r tp m cap t n.now e u

module _ (r : Receiver) (n : Stamps) (tp m : List ℕ) (q : Step) (m' : List ℕ) (g : Gives (call_as r n tp m) q tp m') where
  gave_limit : q.receiver.limit ≡ r.limit
  unfolding stepped
  gave_limit = ap (λ (g : Gave). g.limit) g.same ∙ (lasts_as r n tp m).limit

  gave_size : q.receiver.size ≡ r.size
  unfolding stepped
  gave_size = ap (λ (g : Gave). g.size) g.same ∙ (lasts_as r n tp m).size

  pub gave_room : length m' ≡ length m
  unfolding stepped
  gave_room = ap (λ (g : Gave). length g.room) g.same ∙ (lasts_as r n tp m).room

  gave_count : (q.receiver.stage ≡ S.Fresh → ⊥) → q.receiver.count ≡ count_in r.stage r.count
  unfolding stepped
  gave_count d = ap (λ (g : Gave). g.count) g.same ∙ unfinished_count r n tp m (λ e. d (ap (λ (g : Gave). g.stage) g.same ∙ e))

  -- the stage, told from the answer
  pub told_over : Tells tp (call_as r n tp m) → Ended q.find → q.receiver.stage ≡ S.Fresh
  unfolding stepped
  told_over t e = ap (λ (g : Gave). g.stage) g.same ∙ t.over (subst Ended (ap (λ (g : Gave). g.said.find) g.same) e)

  pub told_on : Tells tp (call_as r n tp m) → q.receiver.stage ≡ S.Fresh → Ended q.find
  unfolding stepped
  told_on t e = subst Ended (sym (ap (λ (g : Gave). g.said.find) g.same)) (t.ended (sym (ap (λ (g : Gave). g.stage) g.same) ∙ e))

  -- in terms of what the step shows
  abbrev shown : Stage → Listing
  shown x =
      before (saying r.limit q.find q.about (data_of q.find tp m'))
      (stage_rest r.limit n.now x q.receiver.walk.at (frame_of q.receiver.walk.began q.receiver.walk.phase) (held_of q.receiver.walk.kept m') (todo_of q.receiver.walk.began q.receiver.walk.phase) tp)

  shown_rest : afterwards r.limit n.now (call_as r n tp m) tp ≡ shown q.receiver.stage
  unfolding stepped
  shown_rest = ap (λ (g : Gave). afterwards r.limit n.now g tp) (sym g.same)

  -- the last call leaves nothing
  shown_over : q.receiver.stage ≡ S.Fresh → shown q.receiver.stage ≡ (saying r.limit q.find q.about (data_of q.find tp m'), stand_of q.receiver m')
  shown_over e =
      ap shown e ∙ ap (λ (l : List (Finding wire)). (l, stand_of q.receiver m')) (append-nil (saying r.limit q.find q.about (data_of q.find tp m')))

-- one call of a TP
module _ (by : Receiver → Stamps) (r : Receiver) (tp m : List ℕ) (q : Step) (m' : List ℕ) (g : Gives (call_as r (by r) tp m) q tp m') (a : Able r)
    (f : length m ≡ r.limit) (w : length tp ≡ r.size) where
  -- the last leaves no find to come
  last_rest : Ended q.find → coming_of r.stage r (by r) tp m ≡ (saying r.limit q.find q.about (data_of q.find tp m'), stand_of q.receiver m')
  last_rest e =
      rest_as r (by r) tp m a f w ∙ shown_rest r (by r) tp m q m' g
      ∙ shown_over r (by r) tp m q m' g (told_over r (by r) tp m q m' g (tells_as r (by r) tp m f w) e)

  -- another takes the first, and leaves the others
  pub more_rest : Steady by → (Ended q.find → ⊥)
      → coming_of r.stage r (by r) tp m
      ≡ before (saying r.limit q.find q.about (data_of q.find tp m')) (coming_of q.receiver.stage q.receiver (by q.receiver) tp m')
  more_rest y d =
      let unfinished : q.receiver.stage ≡ S.Fresh → ⊥ = λ e. d (told_on r (by r) tp m q m' g (tells_as r (by r) tp m f w) e) in
      let same = y r q.receiver unfinished (gave_count r (by r) tp m q m' g unfinished) in
      rest_as r (by r) tp m a f w ∙ shown_rest r (by r) tp m q m' g
      ∙ ap (before (saying r.limit q.find q.about (data_of q.find tp m')))
      (stage_coming q.receiver.stage q.receiver (by q.receiver) tp m' r.limit (by r).now (sym (gave_limit r (by r) tp m q m' g)) (sym same) unfinished)

  -- and it can be lent the same again
  pub full_on : length m' ≡ q.receiver.limit
  full_on = gave_room r (by r) tp m q m' g ∙ f ∙ sym (gave_limit r (by r) tp m q m' g)

  pub whole_on : length tp ≡ q.receiver.size
  whole_on = w ∙ sym (gave_size r (by r) tp m q m' g)

-- THE FINDS TO COME are those that the calls give
pub calls_rest : {by : Receiver → Stamps} {tp : List ℕ} {r : Receiver} {m : List ℕ} {fs : List (Finding wire)} {r' : Receiver} {m' : List ℕ} → Calls by tp r m fs r' m'
    → Steady by → Able r → length m ≡ r.limit → length tp ≡ r.size → coming_of r.stage r (by r) tp m ≡ (fs, stand_of r' m')
calls_rest {by} {tp} {r} {m} (last {q = q} {m' = m'} g e) y a f w = last_rest by r tp m q m' g a f w e
calls_rest {by} {tp} {r} {m} (more {q = q} {m' = m'} g d c) y a f w =
    more_rest by r tp m q m' g a f w y d
    ∙ ap (before (saying r.limit q.find q.about (data_of q.find tp m')))
    (calls_rest c y g.able (full_on by r tp m q m' g a f w) (whole_on by r tp m q m' g a f w))

-- a TP of another length: 6, and nothing else changes
pub six_rest : (r : Receiver) (n : Stamps) (tp m : List ℕ) → r.stage ≡ S.Fresh → length m ≡ r.limit → (length tp ≡ r.size → ⊥)
    → (coming_of S.Fresh r n tp m ≡ afterwards r.limit n.now (call_as r n tp m) tp) × ((call_as r n tp m).stage ≡ S.Fresh)
unfolding call_as brings
six_rest r n tp m e f d =
    rw (eq-eqb (length m) r.limit f, ne_eqb (length tp) r.size d)
    (ap (λ (g : Stage). before (notice 6 (start_of n.before) ∷ []) (stage_rest r.limit n.now g r.walk.at (frame_of r.walk.began r.walk.phase) (held_of r.walk.kept m) (todo_of r.walk.began r.walk.phase) tp)) (sym e), e)

six_calls : {by : Receiver → Stamps} {r : Receiver} {tp m : List ℕ} {fs : List (Finding wire)} {r' : Receiver} {m' : List ℕ} → Calls by tp r m fs r' m'
    → r.stage ≡ S.Fresh → length m ≡ r.limit → (length tp ≡ r.size → ⊥) → coming_of S.Fresh r (by r) tp m ≡ (fs, stand_of r' m')
unfolding stepped
six_calls {by} {r} {tp} {m} (last {q = q} {m' = m'} g e) z f d =
    (six_rest r (by r) tp m z f d).0 ∙ shown_rest r (by r) tp m q m' g
    ∙ shown_over r (by r) tp m q m' g (told_over r (by r) tp m q m' g (six_tells_as r (by r) tp m f d z) e)
six_calls {by} {r} {tp} {m} (more {q = q} {m' = m'} g d c) z f w =
    absurd (d (told_on r (by r) tp m q m' g (six_tells_as r (by r) tp m f w z) (ap (λ (g : Gave). g.stage) g.same ∙ (six_rest r (by r) tp m z f w).1)))

-- THE FINDS OF A WHOLE TP
pub whole_tp : {by : Receiver → Stamps} {r : Receiver} {tp m : List ℕ} {fs : List (Finding wire)} {r' : Receiver} {m' : List ℕ} → Calls by tp r m fs r' m'
    → Steady by → Able r → r.stage ≡ S.Fresh → length m ≡ r.limit → listing_of (setting_of r) (by r) (stand_of r m) (tp_in tp) ≡ (fs, stand_of r' m')
whole_tp {by} {r} {tp} {m} {fs} {r'} {m'} c y a e f = go (eqb (length tp) r.size) refl
  where
    go : (b : Bool) → eqb (length tp) r.size ≡ b → coming_of S.Fresh r (by r) tp m ≡ (fs, stand_of r' m')
    go true w = ap (λ (g : Stage). coming_of g r (by r) tp m) (sym e) ∙ calls_rest c y a f (eqb-true (length tp) r.size w)
    go false w = six_calls c e f (eqb-false (length tp) r.size w)
