-- SINCE THE LAST LOSS (document 02, R-4): "The held series is never older than the last loss of step." A loss leaves nothing known,
-- and what is known later began at a byte that was read since. Assumes nothing.
use Prim.Native.Nat.{ℕ, zero, suc, ◌+◌, ◌-◌, ◌≤◌, ◌<◌, ◌%◌, ◌/◌, min}
use mathlib.Core.Path.{◌≡◌, refl, sym, ap, ◌∙◌, subst}
use mathlib.Core.Logic.{◌⊎◌, inl, inr, ⊎_elim}
use mathlib.Core.Bool.{Bool, true, false, cond, ◌&&◌}
use mathlib.Core.List.{List, [], ◌∷◌, ◌++◌}
use native.Mathlib.Omega.{arith}
use lib.Dec.{eqb, leb, ltb}
use lib.ListN.{length, take, drop, get_or, length-drop}
use borrow.Author.Tests.{ltb-false, ne_eqb}
use Rattle.std.specs.Prelude.{None, Some, Option}
use Rattle.digits.specs.Digits.{number, digits}
use Rattle.wire.specs.Reading.{tp_number_in, stream_of, version_of}
use Rattle.wire.specs.declared.Header.{Header}
use Rattle.receiver.specs.declared.Receiver.{Receiver}
use Rattle.receiver.specs.declared.Stamp.{Stamp}
use Rattle.receiver.specs.declared.Place.{Place}
use Rattle.receiver.specs.declared.Stage.{Stage}
use Rattle.receiver.specs.declared.stages.Stamps.{Stamps}
use Rattle.receiver.specs.declared.walk.Walk.{Walk}
use Rattle.receiver.specs.declared.walk.Kept.{Kept}
use Rattle.receiver.specs.declared.walk.Phase.{Phase}
use Rattle.receiver.specs.declared.walk.Phase.TheVariants.{Lost, Head, Judged, Body}
use Rattle.receiver.specs.Place.{place_at, start_of, placed, own_of, count_of}
use Rattle.receiver.specs.Frame.{Frame, lost, idle, head, body, Event, lose, gap, opened, entered, fed, closed, Out, ending, whole, step, after, events}
use Rattle.receiver.specs.Forecast.{foretold, since, upon, resume, agree, judge, Way, stays, drops, gaps, goes, read, by_way, way_at}
use Rattle.receiver.specs.Join.{Finding, Held, free, take_in, holding}
use Rattle.receiver.specs.Low.{wire, llep, Part, walked, walk, low_part}
use Rattle.receiver.specs.Tp.{Setting, Brings, refusing, dropping, behind, low_part_if, worded, brings, Input, tp_in, gap_told, way_of, input_of, Stand, Listing, listing_of, stamping_of, counts, count_after, listing_all, events_all}
use Rattle.receiver.specs.Loss.{Loss, Loses, count_all, offset_by, offset_of, LostFirst, NotBefore, told_by, HeldSinceLoss, EnteredAt, BegunSinceLoss}
use Rattle.receiver.specs.State.{Settled, Staged, headed, frame_of, held_of, kept_by}
use Rattle.receiver.specs.Call.{OpenedAs, pending_by, pending_of}
use Rattle.receiver.proofs.Facts.{wired, InFrame, InEvents, InBytes, InWay, InHeld, in_upon, in_read, in_holding, in_next}
use Rattle.receiver.proofs.Placing.{drop_placed}
use Rattle.receiver.proofs.Walking.{llep_in}
use Rattle.receiver.proofs.Rest.{standing}
use Rattle.receiver.proofs.Listening.{Life, opening_listed, life_rests}

-- ---- a loss amid ordinary bytes: nothing is read behind it

loses_in : (xs ys : List (Event wire)) → Loses (xs ++ ys) → Loses xs ⊎ Loses ys
loses_in [] ys l = inr l
loses_in (x ∷ xs) ys (inl l) = inl (inl l)
loses_in (x ∷ xs) ys (inr l) = go (loses_in xs ys l)
  where
    go : Loses xs ⊎ Loses ys → (Loss x ⊎ Loses xs) ⊎ Loses ys
    go (inl m) = inl (inr m)
    go (inr m) = inr m

later : {A : Type 0} → A ⊎ (A → ⊥) → (⊥ ⊎ A) ⊎ (⊥ ⊎ A → ⊥)
later (inl a) = inl (inr a)
later (inr n) = inr (⊎_elim (λ z. z) n)

lost_or_not : (es : List (Event wire)) → Loses es ⊎ (Loses es → ⊥)
lost_or_not [] = inr (λ l. l)
lost_or_not (lose n p ∷ es) = inl (inl tt)
lost_or_not (gap ∷ es) = inl (inl tt)
lost_or_not (opened h ∷ es) = later (lost_or_not es)
lost_or_not (entered h ∷ es) = later (lost_or_not es)
lost_or_not (fed b ∷ es) = later (lost_or_not es)
lost_or_not (closed h ∷ es) = later (lost_or_not es)

module _ (room : ℕ) where
  holding_append : (xs ys : List (Event wire)) (u : Held wire) → holding wire room u (xs ++ ys) ≡ holding wire room (holding wire room u xs) ys
  holding_append [] ys u = refl
  holding_append (x ∷ xs) ys u = holding_append xs ys (take_in wire room u x).0

  -- out of step, and nothing held
  abbrev Ended : Out wire → Type 0
  Ended o = (o.0 ≡ lost) × ((u : Held wire) → holding wire room u o.1 ≡ free)

  no_end : (h : wire.H) (k : ℕ) → Loses (ending wire h k) → ⊥
  no_end h zero (inl l) = l
  no_end h zero (inr l) = l
  no_end h (suc k) l = l

  whole_ended : (p : Place) (o : Option wire.H) → Loses (whole wire p o).1 → Ended (whole wire p o)
  whole_ended p None l = (refl, (λ u. refl))
  whole_ended p (Some h) (inl l) = absurd l
  whole_ended p (Some h) (inr (inl l)) = absurd l
  whole_ended p (Some h) (inr (inr l)) = absurd (no_end h (wire.size h) l)

  step_ended : (f : Frame wire) (b : wire.B) → Loses (step wire f b).1 → Ended (step wire f b)
  step_ended lost b l = absurd l
  step_ended idle b l = absurd l
  step_ended (head p zero hs) b l = whole_ended p (wire.decode p (hs ++ wire.keep b ∷ [])) l
  step_ended (head p (suc k) hs) b l = absurd l
  step_ended (body h k) b (inl l) = absurd l
  step_ended (body h k) b (inr l) = absurd (no_end h k l)

  still_lost : (bs : List wire.B) (u : Held wire) → (after wire lost bs ≡ lost) × (holding wire room u (events wire lost bs) ≡ u)
  still_lost [] u = (refl, refl)
  still_lost (b ∷ bs) u = still_lost bs u

  amid : (bs : List wire.B) (f : Frame wire) → Loses (events wire f bs) → Ended (after wire f bs, events wire f bs)
  amid [] f l = absurd l
  amid (b ∷ bs) f l = go (loses_in (step wire f b).1 (events wire (step wire f b).0 bs) l) (λ m. amid bs (step wire f b).0 m)
    where
      g : Frame wire
      g = (step wire f b).0

      es : List (Event wire)
      es = (step wire f b).1

      go : Loses es ⊎ Loses (events wire g bs) → (Loses (events wire g bs) → Ended (after wire g bs, events wire g bs))
          → Ended (after wire g bs, es ++ events wire g bs)
      go (inr m) ih = ((ih m).0, (λ u. holding_append es (events wire g bs) u ∙ (ih m).1 (holding wire room u es)))
      go (inl m) ih =
          let s = step_ended f b m in (
            ap (λ (f : Frame wire). after wire f bs) s.0 ∙ (still_lost bs free).0,
            (λ u. holding_append es (events wire g bs) u ∙ ap (λ (v : Held wire). holding wire room v (events wire g bs)) (s.1 u)
                ∙ ap (λ (f : Frame wire). holding wire room free (events wire f bs)) s.0 ∙ (still_lost bs free).1),
          )

-- ---- an input that loses step: what is known behind it began at its offset or behind

-- of each byte from the offset on
abbrev InTail : (Place → Type 0) → Way wire → Type 0
InTail Q stays = Unit {0}
InTail Q (drops n p) = Unit {0}
InTail Q gaps = Unit {0}
InTail Q (goes p n bs) = InBytes wire Q (drop n bs)

module _ (Q : Place → Type 0) (room : ℕ) where
  abbrev Known : Frame wire → Held wire → Type 0
  Known f u = InFrame wire Q f × InHeld wire Q wired u

  -- whatever was held
  abbrev Leaves : Held wire → Out wire → Type 0
  Leaves u o = Known o.0 (holding wire room u o.1)

  ended_known : (o : Out wire) (u : Held wire) → Ended room o → Leaves u o
  ended_known o u e = (subst (InFrame wire Q) (sym e.0) tt, subst (InHeld wire Q wired) (sym (e.1 u)) tt)

  -- by 12 on a cut header, or by 13
  resumed : (k : ℕ) (p : Place) (u : Held wire) (n : ℕ) (bs : List wire.B) → (LostFirst (read wire (resume wire (lose k p ∷ []) n bs) bs).1 → InBytes wire Q (drop n bs))
      → Leaves u (read wire (resume wire (lose k p ∷ []) n bs) bs)
  resumed k p u n bs q = go (lost_or_not es)
    where
      y : List wire.B
      y = drop n bs

      es : List (Event wire)
      es = events wire (upon wire y) y

      go : Loses es ⊎ (Loses es → ⊥) → Leaves u (after wire (upon wire y) y, lose k p ∷ es)
      go (inl l) =
          let e = amid room y (upon wire y) l in
          ended_known (after wire (upon wire y) y, lose k p ∷ es) u (e.0, (λ u. e.1 free))
      go (inr l) =
          let r = in_read wire Q wired y (upon wire y) (q (tt, l)) (in_upon wire Q y) in
          (r.0, in_holding wire Q wired room es free r.1 tt)

  by_agree : (b : Bool) (p : Place) (f : Frame wire) (u : Held wire) (n : ℕ) (bs : List wire.B)
      → (LostFirst (read wire (agree wire b p f n bs) bs).1 → InBytes wire Q (drop n bs))
      → Loses (read wire (agree wire b p f n bs) bs).1 → Leaves u (read wire (agree wire b p f n bs) bs)
  by_agree true p f u n bs q l = ended_known (after wire f bs, events wire f bs) u (amid room bs f l)
  by_agree false p f u n bs q l = resumed 13 p u n bs q

  by_judge : (o : Option ℕ) (p : Place) (f : Frame wire) (u : Held wire) (n : ℕ) (bs : List wire.B)
      → (LostFirst (read wire (judge wire o p f n bs) bs).1 → InBytes wire Q (drop n bs))
      → Loses (read wire (judge wire o p f n bs) bs).1 → Leaves u (read wire (judge wire o p f n bs) bs)
  by_judge None p f u n bs q l = resumed 12 (since wire p f) u n bs q
  by_judge (Some m) p f u n bs q l = by_agree (eqb m n) p f u n bs q l

  by_loss : (w : Way wire) (f : Frame wire) (u : Held wire) → (LostFirst (by_way wire f w).1 → InTail Q w) → Loses (by_way wire f w).1
      → Leaves u (by_way wire f w)
  by_loss stays f u q l = absurd l
  by_loss (drops n p) f u q l = (tt, tt)
  by_loss gaps f u q l = (tt, tt)
  by_loss (goes p n bs) lost u q l =
      let y : List wire.B = drop n bs in
      ended_known (after wire (upon wire y) y, events wire (upon wire y) y) u (amid room y (upon wire y) l)
  by_loss (goes p n bs) idle u q l = by_judge (foretold wire idle bs) p idle u n bs q l
  by_loss (goes p n bs) (head i k hs) u q l = by_judge (foretold wire (head i k hs) bs) p (head i k hs) u n bs q l
  by_loss (goes p n bs) (body h k) u q l = by_judge (foretold wire (body h k) bs) p (body h k) u n bs q l

-- ---- the places of a TP's ordinary bytes

module _ (Q : Place → Type 0) (t : Stamp) where
  placed_in : (j : ℕ) (bs : List ℕ) → ((i : ℕ) → j ≤ i → Q (place_at t i)) → InBytes wire Q (placed t j bs)
  placed_in j [] q = tt
  placed_in j (b ∷ bs) q = (q j (omega arith), placed_in (suc j) bs (λ i l. q i (omega arith)))

  way_in : (p : Place) (offset gone : ℕ) (bs : List wire.B) → InBytes wire Q bs → InWay wire Q (way_at wire p offset gone bs)
  unfolding way_at
  way_in p offset gone bs q = go (eqb offset 2047) (leb (gone + length bs) offset) (ltb offset gone)
    where
      go : (x y z : Bool) → InWay wire Q (cond x (goes p (length bs) bs) (cond y (drops 10 p) (cond z (drops 21 p) (goes p (offset - gone) bs))))
      go true y z = q
      go false true z = tt
      go false false true = tt
      go false false false = q

  drop_all : (bs : List wire.B) → InBytes wire Q (drop (length bs) bs)
  drop_all [] = tt
  drop_all (b ∷ bs) = drop_all bs

  way_tail : (p : Place) (offset gone : ℕ) (bs : List wire.B) → (gone ≤ offset → InBytes wire Q (drop (offset - gone) bs))
      → InTail Q (way_at wire p offset gone bs)
  unfolding way_at
  way_tail p offset gone bs q = go (eqb offset 2047) (leb (gone + length bs) offset) (ltb offset gone) refl
    where
      go : (x y z : Bool) → ltb offset gone ≡ z
          → InTail Q (cond x (goes p (length bs) bs) (cond y (drops 10 p) (cond z (drops 21 p) (goes p (offset - gone) bs))))
      go true y z e = drop_all bs
      go false true z e = tt
      go false false true e = tt
      go false false false e = q (ltb-false offset gone e)

-- where a low-latency part ends
abbrev Ends : ℕ → ℕ → Part → Type 0
Ends i n q = (rest : List ℕ) → q.behind ≡ Some rest → (i ≤ q.from) × (q.from + length rest ≡ i + n)

walked_ends : (o : Option (Header × Bool)) (t : Stamp) (i : ℕ) (bs : List ℕ) (on : ℕ → List ℕ → Part) → llep bs ≡ o
    → ((j : ℕ) (rest : List ℕ) → Ends j (length rest) (on j rest)) → Ends i (length bs) (walked o t i bs on)
walked_ends None t i bs on e ih rest b = let z : ◌≡◌ {A = ℕ} 0 1 = cc in absurd (omega arith)
walked_ends (Some (h, true)) t i bs on e ih rest b =
    let l = llep_in bs h true e in
    let d = length-drop (7 + h.size) bs in
    let r = ih (i + 7 + h.size) (drop (7 + h.size) bs) rest b in
    let x = r.0 in
    let y = r.1 in
    (omega arith, omega arith)
walked_ends (Some (h, false)) t i bs on e ih rest b =
    let l = llep_in bs h false e in
    let d = length-drop (7 + h.size) bs in
    let z : drop (7 + h.size) bs ≡ rest = cc in
    let w : length (drop (7 + h.size) bs) ≡ length rest = ap length z in
    (omega arith, omega arith)

walk_ends : (k : ℕ) (t : Stamp) (i : ℕ) (bs : List ℕ) → Ends i (length bs) (walk k t i bs)
unfolding walk
walk_ends zero t i bs rest b = let z : ◌≡◌ {A = ℕ} 0 1 = cc in absurd (omega arith)
walk_ends (suc k) t i bs rest b = walked_ends (llep bs) t i bs (λ j rest. walk k t j rest) refl (λ j rest. walk_ends k t j rest) rest b

if_ends : (b : Bool) (t : Stamp) (payload : List ℕ) → Ends 4 (length payload) (low_part_if b t payload)
unfolding low_part
if_ends true t payload rest b = walk_ends (suc (length payload)) t 4 payload rest b
if_ends false t payload rest b =
    let z : payload ≡ rest = cc in
    let w : length payload ≡ length rest = ap length z in
    (omega arith, omega arith)

module _ (Q : Place → Type 0) (t : Stamp) where
  behind_in : (q : Part) (o : Option (List ℕ)) (offset : ℕ) (payload : List ℕ) → ((i : ℕ) → Q (place_at t i)) → InWay wire Q (behind q o t offset payload).way
  behind_in q None offset payload f = tt
  behind_in q (Some bs) offset payload f =
      way_in Q t (start_of t) offset (length payload - length bs) (placed t q.from bs) (placed_in Q t q.from bs (λ i l. f i))

  word_in : (o : Option ℕ) (payload : List ℕ) → ((i : ℕ) → Q (place_at t i)) → InWay wire Q (worded o t payload).way
  word_in None payload f = tt
  word_in (Some w) payload f = behind_in (low_part_if (leb 2048 w) t payload) (low_part_if (leb 2048 w) t payload).behind (w % 2048) payload f

  behind_tail : (q : Part) (o : Option (List ℕ)) (offset : ℕ) (payload : List ℕ) → q.behind ≡ o → Ends 4 (length payload) q
      → ((i : ℕ) → offset ≤ i - 4 → Q (place_at t i)) → InTail Q (behind q o t offset payload).way
  behind_tail q None offset payload e n f = tt
  behind_tail q (Some bs) offset payload e n f = way_tail Q t (start_of t) offset gone (placed t q.from bs) from
    where
      gone : ℕ
      gone = length payload - length bs

      law : (a b c i o : ℕ) → 4 ≤ a → a + b ≡ 4 + c → c - b ≤ o → a + (o - (c - b)) ≤ i → o ≤ i - 4
      law a b c i o x y z w = omega arith

      from : gone ≤ offset → InBytes wire Q (drop (offset - gone) (placed t q.from bs))
      from l =
          subst (InBytes wire Q) (sym (drop_placed t (offset - gone) q.from bs))
          (placed_in Q t (q.from + (offset - gone)) (drop (offset - gone) bs)
          (λ i m. f i (law q.from (length bs) (length payload) i offset (n bs e).0 (n bs e).1 l m)))

  word_tail : (o : Option ℕ) (payload : List ℕ) → ((i : ℕ) → offset_by o ≤ i - 4 → Q (place_at t i)) → InTail Q (worded o t payload).way
  word_tail None payload f = tt
  word_tail (Some w) payload f =
      let q : Part = low_part_if (leb 2048 w) t payload in
      behind_tail q q.behind (w % 2048) payload refl (if_ends (leb 2048 w) t payload) f

module _ (Q : Place → Type 0) (s : Setting) (t : Stamps) where
  input_in_lem : (x : Input) → ((i : ℕ) → Q (place_at t.now i)) → InWay wire Q (way_of s t x)
  unfolding brings
  input_in_lem gap_told f = tt
  input_in_lem (tp_in tp) f = go (eqb (length tp) s.size) (eqb (stream_of (get_or tp 0 0)) s.stream) (eqb (version_of (get_or tp 0 0)) 0)
    where
      go : (a b c : Bool)
          → InWay wire Q (cond a (cond b (cond c (worded (tp_number_in (number 0 (take 3 (drop 1 tp)))) t.now (drop 4 tp)) (dropping 7 t.now)) (refusing 8 t.before)) (refusing 6 t.before)).way
      go true true true = word_in Q t.now (tp_number_in (number 0 (take 3 (drop 1 tp)))) (drop 4 tp) f
      go true true false = tt
      go true false c = tt
      go false b c = tt

  input_tail : (x : Input) → ((i : ℕ) → offset_of x ≤ i - 4 → Q (place_at t.now i)) → InTail Q (way_of s t x)
  unfolding brings
  input_tail gap_told f = tt
  input_tail (tp_in tp) f = go (eqb (length tp) s.size) (eqb (stream_of (get_or tp 0 0)) s.stream) (eqb (version_of (get_or tp 0 0)) 0)
    where
      go : (a b c : Bool)
          → InTail Q (cond a (cond b (cond c (worded (tp_number_in (number 0 (take 3 (drop 1 tp)))) t.now (drop 4 tp)) (dropping 7 t.now)) (refusing 8 t.before)) (refusing 6 t.before)).way
      go true true true = word_tail Q t.now (tp_number_in (number 0 (take 3 (drop 1 tp)))) (drop 4 tp) f
      go true true false = tt
      go true false c = tt
      go false b c = tt

-- a TP that loses step is counted
loss_counts : (s : Setting) (t : Stamps) (f : Frame wire) (tp : List ℕ) → Loses (by_way wire f (brings s t tp).way).1 → counts s tp ≡ true
unfolding brings counts
loss_counts s t f tp = go (eqb (length tp) s.size) (eqb (stream_of (get_or tp 0 0)) s.stream)
  where
    rest : Brings
    rest = cond (eqb (version_of (get_or tp 0 0)) 0) (worded (tp_number_in (number 0 (take 3 (drop 1 tp)))) t.now (drop 4 tp)) (dropping 7 t.now)

    go : (a b : Bool) → Loses (by_way wire f (cond a (cond b rest (refusing 8 t.before)) (refusing 6 t.before)).way).1 → a && b ≡ true
    go true true l = refl
    go true false l = absurd l
    go false b l = absurd l

-- ---- any number of inputs

-- J: of so many TPs counted, the fact holds of every place of the next
module _ (Q : Place → Type 0) (J : ℕ → Type 0) (fit : (c : ℕ) → J c → (i : ℕ) → Q (place_at (own_of (count_of c)) i)) (on : (c : ℕ) → J c → J (count_of c)) where
  count_on : (s : Setting) (c : ℕ) (x : Input) → J c → J (count_after s c x)
  count_on s c gap_told j = j
  count_on s c (tp_in tp) j = go (counts s tp)
    where
      go : (b : Bool) → J (cond b (count_of c) c)
      go true = on c j
      go false = j

  abbrev InStand : Stand → Type 0
  InStand t = InFrame wire Q t.frame × InHeld wire Q wired t.held

  one_input : (s : Setting) (c : ℕ) (t : Stand) (x : Input) → J c → InStand t → InStand (listing_of s (stamping_of c) t x).1
  one_input s c t gap_told j a = (tt, tt)
  one_input s c t (tp_in tp) j a =
      in_next wire Q wired s.room (brings s (stamping_of c) tp).way t.frame t.held (input_in_lem Q s (stamping_of c) (tp_in tp) (fit c j)) a.0 a.1

  all_inputs : (s : Setting) (xs : List Input) (c : ℕ) (t : Stand) → J c → InStand t → InStand (listing_all s c t xs).1
  all_inputs s [] c t j a = a
  all_inputs s (x ∷ xs) c t j a = all_inputs s xs (count_after s c x) (listing_of s (stamping_of c) t x).1 (count_on s c x j) (one_input s c t x j a)

listing_append : (s : Setting) (xs ys : List Input) (n : ℕ) (t : Stand)
    → (listing_all s n t (xs ++ ys)).1 ≡ (listing_all s (count_all s n xs) (listing_all s n t xs).1 ys).1
listing_append s [] ys n t = refl
listing_append s (x ∷ xs) ys n t = listing_append s xs ys (count_after s n x) (listing_of s (stamping_of n) t x).1

-- ---- by the count

-- of so many TPs counted, the next has no place before TP n's place i
abbrev Past : ℕ → ℕ → List (Event wire) → ℕ → Type 0
Past n i es c = (n ≤ count_of c) × (count_of c ≡ n → n < 4294967295 → (i ≤ 0) × LostFirst es)

past_on : (n i : ℕ) (es : List (Event wire)) (c : ℕ) → Past n i es c → Past n i es (count_of c)
past_on n i es c p = (rises n (count_of c) p.0 (omega arith), (λ e l. absurd (never n (count_of c) p.0 e l)))
  where
    rises : (n a : ℕ) → n ≤ a → a ≤ 4294967295 → n ≤ min (suc a) 4294967295
    rises n a l m = omega arith

    never : (n a : ℕ) → n ≤ a → min (suc a) 4294967295 ≡ n → n < 4294967295 → ⊥
    never n a l e m = omega arith

-- the TP that lost step itself
past_it : (c i : ℕ) (es : List (Event wire)) → Past (count_of c) i es (count_of c)
past_it c i es = (rises (count_of c) (omega arith), (λ e l. absurd (never (count_of c) e l)))
  where
    rises : (a : ℕ) → a ≤ 4294967295 → a ≤ min (suc a) 4294967295
    rises a m = omega arith

    never : (a : ℕ) → min (suc a) 4294967295 ≡ a → a < 4294967295 → ⊥
    never a e m = omega arith

past_fits : (n i : ℕ) (es : List (Event wire)) (c : ℕ) → Past n i es c → (j : ℕ) → NotBefore n i es (place_at (own_of (count_of c)) j)
past_fits n i es c p j = (p.0, (λ e l. let z = p.1 e l in let y = z.0 in ((omega arith), z.1)))

module _ (s : Setting) (c : ℕ) (t : Stand) where
  abbrev told : Input → List (Event wire)
  told x = (input_of s (stamping_of c) t.frame x).told

  abbrev Since : Input → Place → Type 0
  Since x p = NotBefore (count_of c) (offset_of x) (told x) p

  -- behind an input that loses step
  past_loss : (x : Input) → Loses (told x) → Past (count_of c) (offset_of x) (told x) (count_after s c x)
  past_loss gap_told l = (omega arith, (λ e m. ((omega arith), (tt, (λ z. z)))))
  past_loss (tp_in tp) l =
      subst (λ (b : Bool). Past (count_of c) (offset_of (tp_in tp)) (told (tp_in tp)) (cond b (count_of c) c)) (sym (loss_counts s (stamping_of c) t.frame tp l))
      (past_it c (offset_of (tp_in tp)) (told (tp_in tp)))

  known_loss : (x : Input) → Loses (told x)
      → InFrame wire (Since x) (listing_of s (stamping_of c) t x).1.frame × InHeld wire (Since x) wired (listing_of s (stamping_of c) t x).1.held
  known_loss gap_told l = (tt, tt)
  known_loss (tp_in tp) l =
      by_loss (Since (tp_in tp)) s.room (brings s (stamping_of c) tp).way t.frame t.held
      (λ first. input_tail (Since (tp_in tp)) s (stamping_of c) (tp_in tp) (λ i m. (omega arith, (λ e l. (m, first))))) l

-- all that is known at the end: what is held, and the header or EP under way
pub since_loss : (s : Setting) (n : ℕ) (t : Stand) (before : List Input) (x : Input) (behind : List Input) → Loses (told_by s n t before x)
    → InFrame wire (NotBefore (count_of (count_all s n before)) (offset_of x) (told_by s n t before x)) (listing_all s n t (before ++ x ∷ behind)).1.frame
    × InHeld wire (NotBefore (count_of (count_all s n before)) (offset_of x) (told_by s n t before x)) wired (listing_all s n t (before ++ x ∷ behind)).1.held
since_loss s n t before x behind l =
    let c : ℕ = count_all s n before in
    let u : Stand = (listing_all s n t before).1 in
    let es : List (Event wire) = told_by s n t before x in
    let Q : Place → Type 0 = NotBefore (count_of c) (offset_of x) es in
    subst (λ (v : Stand). InFrame wire Q v.frame × InHeld wire Q wired v.held) (sym (listing_append s before (x ∷ behind) n t))
    (all_inputs Q (Past (count_of c) (offset_of x) es) (past_fits (count_of c) (offset_of x) es) (past_on (count_of c) (offset_of x) es) s behind (count_after s c x)
    (listing_of s (stamping_of c) u x).1 (past_loss s c u x l) (known_loss s c u x l))

pub held_since_loss : HeldSinceLoss
held_since_loss s n t before x behind l k d e =
    subst (InHeld wire (NotBefore (count_of (count_all s n before)) (offset_of x) (told_by s n t before x)) wired) e (since_loss s n t before x behind l).1

-- ---- by the events

held_by_events : (s : Setting) (xs : List Input) (n : ℕ) (t : Stand) → (listing_all s n t xs).1.held ≡ holding wire s.room t.held (events_all s n t.frame xs)
held_by_events s [] n t = refl
held_by_events s (x ∷ xs) n t =
    held_by_events s xs (count_after s n x) (listing_of s (stamping_of n) t x).1
    ∙ sym (holding_append s.room (input_of s (stamping_of n) t.frame x).told (events_all s (count_after s n x) (input_of s (stamping_of n) t.frame x).frame xs) t.held)

all_entered : (xs ys : List (Event wire)) → ((p : Place) → EnteredAt p xs → EnteredAt p ys) → InEvents wire (λ p. EnteredAt p ys) xs
all_entered [] ys f = tt
all_entered (lose n q ∷ xs) ys f = (tt, all_entered xs ys (λ p e. f p (inr e)))
all_entered (gap ∷ xs) ys f = (tt, all_entered xs ys (λ p e. f p (inr e)))
all_entered (opened h ∷ xs) ys f = (tt, all_entered xs ys (λ p e. f p (inr e)))
all_entered (entered h ∷ xs) ys f = (f h.at (inl refl), all_entered xs ys (λ p e. f p (inr e)))
all_entered (fed b ∷ xs) ys f = (tt, all_entered xs ys (λ p e. f p (inr e)))
all_entered (closed h ∷ xs) ys f = (tt, all_entered xs ys (λ p e. f p (inr e)))

none_held : (room : ℕ) (l : Event wire) (u : Held wire) → Loss l → (take_in wire room u l).0 ≡ free
none_held room (lose n p) u i = refl
none_held room gap u i = refl
none_held room (opened h) u i = absurd i
none_held room (entered h) u i = absurd i
none_held room (fed b) u i = absurd i
none_held room (closed h) u i = absurd i

pub begun_since_loss : BegunSinceLoss
begun_since_loss s n t xs before l behind i e k d h =
    let Q : Place → Type 0 = λ p. EnteredAt p behind in
    let u : Held wire = holding wire s.room t.held before in
    let v : (listing_all s n t xs).1.held ≡ holding wire s.room free behind =
    held_by_events s xs n t
    ∙ ap (holding wire s.room t.held) e
    ∙ holding_append s.room before (l ∷ behind) t.held
    ∙ ap (λ (w : Held wire). holding wire s.room w behind) (none_held s.room l u i) in
    subst (InHeld wire Q wired) (sym v ∙ h) (in_holding wire Q wired s.room behind free (all_entered behind behind (λ p m. m)) tt)

-- ---- by value, from an opening on: what `pending` tells of

module _ (Q : Place → Type 0) where
  headed_place : (g : Place) (hs : List ℕ) (d : ℕ) → InFrame wire Q (headed g (hs ++ d ∷ [])) → Q g
  headed_place g [] d a = a
  headed_place g (x ∷ hs) d a = a

  pending_place : (k : Option Kept) (p : Phase) (b g : Place) (m : List ℕ) → Settled p → InFrame wire Q (frame_of b p) → InHeld wire Q wired (held_of k m)
      → pending_by k p b ≡ Some g → Q g
  pending_place (Some k) p b g m s f h q = let z : k.began ≡ g = cc in subst Q z h
  pending_place None Lost b g m s f h q = let z : ◌≡◌ {A = ℕ} 0 1 = cc in absurd (omega arith)
  pending_place None (Head zero w) b g m s f h q = let z : ◌≡◌ {A = ℕ} 0 1 = cc in absurd (omega arith)
  pending_place None (Head (suc n) w) b g m s f h q =
      let y : Some b ≡ Some g = sym (ap (λ (x : Bool). cond x None (Some b)) (ne_eqb (suc n) 0 (λ e. omega arith))) ∙ q in
      let z : b ≡ g = cc in
      subst Q z (headed_place b (digits n (w / 256)) (w % 256) f)
  pending_place None (Judged h) b g m s f e q = absurd (omega arith)
  pending_place None (Body h zero) b g m s f e q = absurd (omega arith)
  pending_place None (Body h (suc n)) b g m s f e q = let z : b ≡ g = cc in subst Q z f

abbrev pub opening : ℕ → ℕ → List ℕ → Setting
opening size stream m = record { size = size; stream = stream; room = length m }

module _ (size stream : ℕ) (m : List ℕ) (before : List Input) (x : Input) where
  -- what an input that comes behind these brings to light to a receiver so opened
  abbrev pub told_then : List (Event wire)
  told_then = told_by (opening size stream m) 0 (standing lost free) before x

  abbrev pub SinceThen : Place → Type 0
  SinceThen g = NotBefore (count_of (count_all (opening size stream m) 0 before)) (offset_of x) told_then g

  module _ (r : Receiver) (behind : List Input) {fs : List (Finding wire)} {r' : Receiver} {m' : List ℕ} where
    -- the held series', or else that of the header or EP under way
    pub pending_since_loss : OpenedAs size stream (length m) (Some r) → Life r m (before ++ x ∷ behind) fs r' m' → Loses told_then
        → (g : Place) → pending_of r'.walk ≡ Some g → SinceThen g
    pending_since_loss o l i g e =
        let w : Walk = r'.walk in
        let a = life_rests size stream m r o l in
        let k = subst (λ (y : Listing). InFrame wire SinceThen y.1.frame × InHeld wire SinceThen wired y.1.held) (opening_listed size stream m r o l)
        (since_loss (opening size stream m) 0 (standing lost free) before x behind i) in
        pending_place SinceThen w.kept w.phase w.began g m' (subst (λ (g : Stage). Staged g w) a.1 a.0.stage) k.0 k.1 e

    pub kept_since_loss : OpenedAs size stream (length m) (Some r) → Life r m (before ++ x ∷ behind) fs r' m' → Loses told_then
        → (c e : ℕ) (g : Place) (n : ℕ) → r'.walk.kept ≡ kept_by c e g n → SinceThen g
    kept_since_loss o l i c e g n k = pending_since_loss o l i g (ap (λ (y : Option Kept). pending_by y r'.walk.phase r'.walk.began) k)
