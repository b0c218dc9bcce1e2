-- A call on words in a lane: the lane that they say, where the call goes on, what it comes to, and the words that it leaves.
-- Assumes nothing.
use mathlib.Core.Path.{◌≡◌, refl, sym, subst, ap, ◌∙◌}
use mathlib.Core.Bool.{Bool, true, false, cond}
use mathlib.Core.List.{List, [], ◌∷◌}
use Prim.Native.Nat.{ℕ, ◌+◌, ◌%◌, ◌≤◌, ◌<◌, ◌^◌}
use native.Mathlib.Nat.{mod-eq_of_lt}
use native.Mathlib.Omega.{arith}
use lib.Dec.{eqb}
use lib.ListN.{get_or, length, replicate, length-replicate}
use borrow.Author.Tests.{eq-eqb, ne_eqb}
use Rattle.std.specs.Prelude.{None, Option}
use Rattle.receiver.specs.declared.Find.{Find}
use Rattle.receiver.specs.declared.Find.TheVariants as F
use Rattle.receiver.specs.declared.Place.{Place}
use Rattle.receiver.specs.declared.Receiver.{Receiver}
use Rattle.receiver.specs.declared.Stage.{Stage}
use Rattle.receiver.specs.declared.Stage.TheVariants.{Fresh, Low, Due, Plain}
use Rattle.receiver.specs.declared.Stamp.{Stamp}
use Rattle.receiver.specs.declared.Step.{Step}
use Rattle.receiver.specs.declared.entry.Top.{Top}
use Rattle.receiver.specs.declared.entry.Top.TheVariants.{Elsewhere, Dropped, Says}
use Rattle.receiver.specs.declared.lane.Lane.{Lane}
use Rattle.receiver.specs.declared.lane.Lane.TheVariants as L
use Rattle.receiver.specs.declared.lane.Met.{Met}
use Rattle.receiver.specs.declared.lane.Met.TheVariants as M
use Rattle.receiver.specs.declared.low.Lows.{Lows}
use Rattle.receiver.specs.declared.low.Lows.TheVariants as W
use Rattle.receiver.specs.declared.swift.Part.{Part}
use Rattle.receiver.specs.declared.swift.Part.TheVariants as P
use Rattle.receiver.specs.declared.swift.Spot.{Spot}
use Rattle.receiver.specs.declared.swift.Spot.TheVariants as T
use Rattle.receiver.specs.declared.swift.Swift.{Swift}
use Rattle.receiver.specs.declared.walk.Phase.{Phase}
use Rattle.receiver.specs.declared.walk.Phase.TheVariants.{Lost, Head, Body}
use Rattle.receiver.specs.declared.walk.Walk.{Walk}
use Rattle.receiver.specs.Call.{Gave, Gives, call_of, count_in}
use Rattle.receiver.specs.InSwift.{BehindMet, Done, DueAs, GoesAs, LaneAs, Lent, LowPartAs, OnAs, PartAs, PartBy, SpotAs, Stands, Suits, SwiftAs, TidyMet, ToldAs, count_by, first_spot, made_of, plain_spot, told}
use Rattle.receiver.specs.Lanes.{AheadAs, FirstAs, Lends, LowAs, MetAs, OutAs, Tidy, call_by, complete_of, ends_in, in_lane, loss_end, step_to, walk_in}
use Rattle.receiver.specs.Lows.{lows_of}
use Rattle.receiver.specs.Pieces.{none_of, top_of}
use Rattle.receiver.specs.Place.{count_of, own_of, place_at, start_of}
use Rattle.receiver.specs.State.{Able, Fine, Staged, kept_by}
use Rattle.receiver.specs.Turns.{walk_at}
use Rattle.receiver.specs.Words.{Bytes, fitb, head_words, joined, kept_in, kept_words, phase_in, phase_words, place_in, place_words, receiver_in, stage_in, stage_words, words_of}
use Rattle.receiver.proofs.LaneAhead.{lost_call}
use Rattle.receiver.proofs.LaneFirst.{first_as, low_as, low_broken, own_first_at, own_later}
use Rattle.receiver.proofs.LaneOut.{tidy_as}
use Rattle.receiver.proofs.TakingUp.{says_small}
use Rattle.receiver.proofs.Walking.{low_in_lem}
use Rattle.receiver.proofs.Worded.{fits, streamed}

no : {A : Type 0} → true ≡ false → A
no e = absurd (subst (λ (t : Bool). cond t ℕ ⊥) e 0)

-- ---- the stage and the lane that words say

later_counts : (s o k : ℕ) → (s ≡ 0 → ⊥) → count_in (stage_in s o) k ≡ k
unfolding stage_in
later_counts s o k f = by (eqb s 0) (eqb s 1) (eqb s 2) (ne_eqb s 0 f)
  where
    by : (x y z : Bool) → x ≡ false → count_in (cond x Fresh (cond y (Low o) (cond z (Due o) Plain))) k ≡ k
    by true y z e = no e
    by false true z e = refl
    by false false true e = refl
    by false false false e = refl

plain_in : (s o : ℕ) → (s ≡ 0 → ⊥) → (s ≡ 1 → ⊥) → (s ≡ 2 → ⊥) → stage_in s o ≡ Plain
unfolding stage_in
plain_in s o e f g = rw (ne_eqb s 0 e, ne_eqb s 1 f, ne_eqb s 2 g)

stands : (r : Receiver) (l : Lane) → r.walk ≡ walk_in r.walk.began l r.walk.at → Tidy r.limit l → Stands l r
stands r l e t = (ap (made_of r r.count r.stage) e, t)

unkept : (v : Walk) (p : Phase) → v.phase ≡ p → v.kept ≡ None → v ≡ walk_at v.at p v.began None
unkept v p e f = ap (λ (x : Phase). walk_at v.at x v.began v.kept) e ∙ ap (walk_at v.at p v.began) f

module _ (ws : List ℕ) where
  abbrev r : Receiver
  r = receiver_in ws

  pub words_lent : (tp : List ℕ) → fitb ws ≡ true → length tp ≡ get_or ws 0 0 → Lent (receiver_in ws) tp
  unfolding receiver_in
  words_lent tp f e = record { able = (fits ws f).able; whole = e }

  pub words_whole : (tp : List ℕ) → length tp ≡ get_or ws 0 0 → length tp ≡ (receiver_in ws).size
  unfolding receiver_in
  words_whole tp e = e

  pub words_full : (m : List ℕ) → length m ≡ get_or ws 2 0 → length m ≡ (receiver_in ws).limit
  unfolding receiver_in
  words_full m e = e

  pub count_first : (n : ℕ) → get_or ws 5 0 ≡ 0 → n ≡ count_of (get_or ws 3 0) → n ≡ count_by (receiver_in ws)
  unfolding receiver_in stage_in
  count_first n e f = rw e f

  pub count_later : (get_or ws 5 0 ≡ 0 → ⊥) → get_or ws 3 0 ≡ count_by (receiver_in ws)
  unfolding receiver_in
  count_later f = sym (later_counts (get_or ws 5 0) (get_or ws 6 0) (get_or ws 3 0) f)

  stage_fresh : get_or ws 5 0 ≡ 0 → r.stage ≡ Fresh
  unfolding receiver_in stage_in
  stage_fresh e = rw e

  stage_low : get_or ws 5 0 ≡ 1 → r.stage ≡ Low (get_or ws 6 0)
  unfolding receiver_in stage_in
  stage_low e = rw e

  stage_due : get_or ws 5 0 ≡ 2 → r.stage ≡ Due (get_or ws 6 0)
  unfolding receiver_in stage_in
  stage_due e = rw e

  stage_plain : (get_or ws 5 0 ≡ 0 → ⊥) → (get_or ws 5 0 ≡ 1 → ⊥) → (get_or ws 5 0 ≡ 2 → ⊥) → r.stage ≡ Plain
  unfolding receiver_in
  stage_plain e f g = plain_in (get_or ws 5 0) (get_or ws 6 0) e f g

  kept_none : get_or ws 16 0 ≡ 0 → r.walk.kept ≡ None
  unfolding receiver_in kept_in
  kept_none e = rw e

  phase_lost : get_or ws 7 0 ≡ 0 → r.walk.phase ≡ Lost
  unfolding receiver_in phase_in
  phase_lost e = rw e

  phase_head : get_or ws 7 0 ≡ 1 → r.walk.phase ≡ Head (get_or ws 8 0) (get_or ws 9 0)
  unfolding receiver_in phase_in
  phase_head e = rw e

  pub words_lost : get_or ws 16 0 ≡ 0 → get_or ws 7 0 ≡ 0 → LaneAs L.Lost (receiver_in ws)
  words_lost k p = stands r L.Lost (unkept r.walk Lost (phase_lost p) (kept_none k)) (omega arith)

  head_bounds : fitb ws ≡ true → get_or ws 7 0 ≡ 1 → (get_or ws 8 0 ≤ 5) × (get_or ws 9 0 < 256 ^ get_or ws 8 0)
  head_bounds f p =
      let b : Fine r.limit (Head (get_or ws 8 0) (get_or ws 9 0)) r.walk.kept =
      subst (λ (x : Phase). Fine r.limit x r.walk.kept) (phase_head p) (fits ws f).able.walk.phase in
      (b.0, b.1)

  pub words_idle : fitb ws ≡ true → get_or ws 16 0 ≡ 0 → get_or ws 7 0 ≡ 1 → get_or ws 8 0 ≡ 0 → LaneAs L.Idle (receiver_in ws)
  words_idle f k p z =
      let b : get_or ws 9 0 < 256 ^ 0 = subst (λ (n : ℕ). get_or ws 9 0 < 256 ^ n) z (head_bounds f p).1 in
      let e : get_or ws 9 0 ≡ 0 = omega (arith, b) in
      stands r L.Idle (unkept r.walk (Head 0 0) (phase_head p ∙ ap (λ (n : ℕ). Head n (get_or ws 9 0)) z ∙ ap (Head 0) e) (kept_none k)) (omega arith)

  pub words_cut : fitb ws ≡ true → get_or ws 16 0 ≡ 0 → get_or ws 7 0 ≡ 1 → (get_or ws 8 0 ≡ 0 → ⊥)
      → LaneAs (L.Cut (place_in (get_or ws 13 0) (get_or ws 14 0) (get_or ws 15 0)) (get_or ws 8 0) (get_or ws 9 0)) (receiver_in ws)
  unfolding receiver_in
  words_cut f k p z =
      let b = head_bounds f p in
      let one : 1 ≤ get_or ws 8 0 = omega (arith, z) in
      stands r (L.Cut (place_in (get_or ws 13 0) (get_or ws 14 0) (get_or ws 15 0)) (get_or ws 8 0) (get_or ws 9 0))
      (unkept r.walk (Head (get_or ws 8 0) (get_or ws 9 0)) (phase_head p) (kept_none k)) (one, b.0, b.1)

pub stands_as : (l : Lane) (r : Receiver) → (l ≡ L.Other → ⊥) → LaneAs l r → Stands l r
stands_as L.Other r f a = absurd (f refl)
stands_as L.Lost r f a = a
stands_as L.Idle r f a = a
stands_as (L.Cut p n w) r f a = a
stands_as (L.Busy p left len c e) r f a = a

-- ---- where a call goes on

dropped : (n : ℕ) → Dropped n ≡ Elsewhere → ⊥
dropped n e = let q : ◌≡◌ {A = ℕ} 0 1 = cc in omega arith

says : (low : Bool) (o : ℕ) → Says low o ≡ Elsewhere → ⊥
says low o e = let q : ◌≡◌ {A = ℕ} 0 1 = cc in omega arith

module _ (r : Receiver) (l : Lane) (tp m : List ℕ) (able : Able r) (s : Stands l r) (whole : length tp ≡ r.size) (full : length m ≡ r.limit) where
  here : (g : Stage) → r.stage ≡ g → r ≡ in_lane r r.count l g r.walk.at
  here g e = s.0 ∙ ap (λ (x : Stage). in_lane r r.count l x r.walk.at) e

  counted : (q : Spot) (g : Stage) → r.stage ≡ g → SpotAs q r (count_in g r.count) l (call_of r tp m) tp m → SpotAs q r (count_by r) l (call_of r tp m) tp m
  counted q g e d = subst (λ (x : Stage). SpotAs q r (count_in x r.count) l (call_of r tp m) tp m) (sym e) d

  spot_first : r.stage ≡ Fresh → SpotAs (first_spot (top_of r.stream tp)) r (count_by r) l (call_of r tp m) tp m
  spot_first e = counted (first_spot (top_of r.stream tp)) Fresh e (by (top_of r.stream tp) refl)
    where
      k : ℕ
      k = count_of r.count

      is : (q : Top) → top_of r.stream tp ≡ q → (q ≡ Elsewhere → ⊥) → call_by (own_of k) (in_lane r r.count l Fresh 0) tp m ≡ call_of r tp m
      is q f other =
          sym (ap (λ (x : Receiver). call_of x tp m) (here Fresh e) ∙ own_first_at r r.count l r.walk.at tp m whole (λ (z : top_of r.stream tp ≡ Elsewhere). other (sym f ∙ z)) full)

      first : (q : Top) → top_of r.stream tp ≡ q → FirstAs q r r.count l (own_of k) (call_by (own_of k) (in_lane r r.count l Fresh 0) tp m) tp m
      first q f =
          subst (λ (x : Top). FirstAs x r r.count l (own_of k) (call_by (own_of k) (in_lane r r.count l Fresh 0) tp m) tp m)
          (ap (λ (x : Bool). cond x (top_of r.stream tp) Elsewhere) (eq-eqb (length tp) r.size whole) ∙ f)
          (first_as r r.count l (own_of k) tp m able.size full s.1)

      by : (q : Top) → top_of r.stream tp ≡ q → SpotAs (first_spot q) r k l (call_of r tp m) tp m
      by Elsewhere f = omega arith
      by (Dropped n) f =
          subst (λ (g : Gave). Gives g (step_to (in_lane r k L.Lost Fresh 0) (F.Notice n) (none_of (start_of (own_of k)))) tp m) (is (Dropped n) f (dropped n)) (first (Dropped n) f).0
      by (Says true o) f =
          let size = able.size in
          (first (Says true o) f ∙ is (Says true o) f (says true o), omega arith, omega arith, says_small r.stream tp true o f)
      by (Says false o) f =
          let size = able.size in
          (first (Says false o) f ∙ is (Says false o) f (says false o), omega arith, omega arith, says_small r.stream tp false o f)

  later : (g : Stage) → r.stage ≡ g → count_in g r.count ≡ r.count → call_by (own_of r.count) (in_lane r r.count l g r.walk.at) tp m ≡ call_of r tp m
  later g e c = sym (ap (λ (x : Receiver). call_of x tp m) (here g e) ∙ own_later r r.count l g r.walk.at tp m c)

  inside : r.walk.at ≤ length tp
  inside = omega (arith, able.walk.at, whole)

  spot_low : (o : ℕ) → r.stage ≡ Low o → SpotAs (T.Low o r.walk.at) r (count_by r) l (call_of r tp m) tp m
  spot_low o e =
      let g : Staged (Low o) r.walk = subst (λ (x : Stage). Staged x r.walk) e able.stage in
      counted (T.Low o r.walk.at) (Low o) e (later (Low o) e refl, g.1, inside, g.0)

  spot_due : (o : ℕ) → r.stage ≡ Due o → SpotAs (T.Due o r.walk.at) r (count_by r) l (call_of r tp m) tp m
  spot_due o e =
      let g : Staged (Due o) r.walk = subst (λ (x : Stage). Staged x r.walk) e able.stage in
      counted (T.Due o r.walk.at) (Due o) e (later (Due o) e refl, g.1, inside, g.0)

plain_by : (r : Receiver) (l : Lane) (tp m : List ℕ) → Able r → Stands l r → length tp ≡ r.size → length m ≡ r.limit → r.stage ≡ Plain
    → SpotAs (plain_spot l r.walk.at (length tp)) r (count_by r) l (call_of r tp m) tp m
plain_by r L.Other tp m a s w f e = omega arith
plain_by r L.Lost tp m a s w f e = by (eqb r.walk.at (length tp))
  where
    lends : Lends r r.walk.at tp m
    lends = record { size = a.size; whole = w; full = f; within = inside r L.Lost tp m a s w f }

    by : (x : Bool) → SpotAs (cond x T.Over T.Other) r (count_by r) L.Lost (call_of r tp m) tp m
    by true =
        counted r L.Lost tp m a s w f T.Over Plain e
        (subst (λ (g : Gave). Gives g (ends_in (in_lane r r.count L.Lost Fresh 0) (own_of r.count)) tp m) (later r L.Lost tp m a s w f Plain e refl)
        (lost_call r r.count (own_of r.count) r.walk.at tp m lends r.walk.at r.walk.began (inside r L.Lost tp m a s w f)))
    by false = omega arith
plain_by r L.Idle tp m a s w f e =
    counted r L.Idle tp m a s w f (T.Plain r.walk.at) Plain e (later r L.Idle tp m a s w f Plain e refl, inside r L.Idle tp m a s w f)
plain_by r (L.Cut p n x) tp m a s w f e = omega arith
plain_by r (L.Busy p left len c x) tp m a s w f e = omega arith

module _ (ws : List ℕ) (l : Lane) (tp : List ℕ) (fit : fitb ws ≡ true) (s : Stands l (receiver_in ws)) (whole : length tp ≡ (receiver_in ws).size) where
  pub stream_same : (x : ℕ) → x ≡ get_or ws 1 0 → x ≡ (receiver_in ws).stream
  unfolding receiver_in
  stream_same x e = let few = streamed ws fit in e ∙ sym (mod-eq_of_lt (omega (arith, few)))

  pub goes_first : (q : Spot) (x : ℕ) → get_or ws 5 0 ≡ 0 → x ≡ get_or ws 1 0 → q ≡ first_spot (top_of x tp) → GoesAs q (receiver_in ws) l tp
  goes_first q x z e f m full =
      let r = receiver_in ws in
      subst (λ (y : Spot). SpotAs y r (count_by r) l (call_of r tp m) tp m) (sym (f ∙ ap (λ (y : ℕ). first_spot (top_of y tp)) (stream_same x e)))
      (spot_first r l tp m (fits ws fit).able s whole full (stage_fresh ws z))

  pub goes_low : get_or ws 5 0 ≡ 1 → GoesAs (T.Low (get_or ws 6 0) (get_or ws 4 0)) (receiver_in ws) l tp
  unfolding receiver_in
  goes_low z m full = spot_low (receiver_in ws) l tp m (fits ws fit).able s whole full (get_or ws 6 0) (stage_low ws z)

  pub goes_due : get_or ws 5 0 ≡ 2 → GoesAs (T.Due (get_or ws 6 0) (get_or ws 4 0)) (receiver_in ws) l tp
  unfolding receiver_in
  goes_due z m full = spot_due (receiver_in ws) l tp m (fits ws fit).able s whole full (get_or ws 6 0) (stage_due ws z)

  pub goes_plain : (q : Spot) → (get_or ws 5 0 ≡ 0 → ⊥) → (get_or ws 5 0 ≡ 1 → ⊥) → (get_or ws 5 0 ≡ 2 → ⊥) → q ≡ plain_spot l (get_or ws 4 0) (length tp)
      → GoesAs q (receiver_in ws) l tp
  unfolding receiver_in
  goes_plain q a b c e m full =
      let r = receiver_in ws in
      subst (λ (y : Spot). SpotAs y r (count_by r) l (call_of r tp m) tp m) (sym e) (plain_by r l tp m (fits ws fit).able s whole full (stage_plain ws a b c))

-- ---- the words of a lane

module _ (ws : List ℕ) (fit : fitb ws ≡ true) (count : ℕ) (stage : Stage) (at s o : ℕ) (e : s ≡ get_or (stage_words stage) 0 0) (f : o ≡ get_or (stage_words stage) 1 0) where
  row : (p k : List ℕ)
      → joined (get_or ws 0 0) (get_or ws 1 0) (get_or ws 2 0) count at (s ∷ o ∷ []) p k
      ≡ joined (receiver_in ws).size (receiver_in ws).stream (receiver_in ws).limit count at (stage_words stage) p k
  unfolding receiver_in
  row p k =
      let few = streamed ws fit in
      let same : get_or ws 1 0 ≡ get_or ws 1 0 % 256 = sym (mod-eq_of_lt (omega (arith, few))) in
      ap (λ (x : ℕ). joined (get_or ws 0 0) x (get_or ws 2 0) count at (s ∷ o ∷ []) p k) same
      ∙ ap (λ (x : ℕ). joined (get_or ws 0 0) (get_or ws 1 0 % 256) (get_or ws 2 0) count at (x ∷ o ∷ []) p k) e
      ∙ ap (λ (x : ℕ). joined (get_or ws 0 0) (get_or ws 1 0 % 256) (get_or ws 2 0) count at (get_or (stage_words stage) 0 0 ∷ x ∷ []) p k) f

  abbrev Puts : List ℕ → Lane → Type 0
  Puts w l = (w ≡ words_of (in_lane (receiver_in ws) count l stage at)) × Bytes (in_lane (receiver_in ws) count l stage at)

  puts : (l x : Lane) (w : List ℕ) → l ≡ x → w ≡ words_of (in_lane (receiver_in ws) count x stage at) → Bytes (in_lane (receiver_in ws) count x stage at) → Puts w l
  puts l x w q e b = subst (Puts w) (sym q) (e, b)

  pub put_lost : (l : Lane) → l ≡ L.Lost
      → Puts (get_or ws 0 0 ∷ get_or ws 1 0 ∷ get_or ws 2 0 ∷ count ∷ at ∷ s ∷ o ∷ 0 ∷ 0 ∷ 0 ∷ 0 ∷ 0 ∷ 0 ∷ 0 ∷ 0 ∷ 0 ∷ 0 ∷ 0 ∷ 0 ∷ 0 ∷ 0 ∷ 0 ∷ 0 ∷ []) l
  unfolding words_of
  put_lost l q = puts l L.Lost _ q (row (phase_words Lost (receiver_in ws).walk.began) (kept_words None)) (record { phase = omega arith; kept = omega arith })

  pub put_idle : (l : Lane) → l ≡ L.Idle
      → Puts (get_or ws 0 0 ∷ get_or ws 1 0 ∷ get_or ws 2 0 ∷ count ∷ at ∷ s ∷ o ∷ 1 ∷ 0 ∷ 0 ∷ 0 ∷ 0 ∷ 0 ∷ 0 ∷ 0 ∷ 0 ∷ 0 ∷ 0 ∷ 0 ∷ 0 ∷ 0 ∷ 0 ∷ 0 ∷ []) l
  unfolding words_of head_words
  put_idle l q = puts l L.Idle _ q (row (phase_words (Head 0 0) (receiver_in ws).walk.began) (kept_words None)) (record { phase = omega arith; kept = omega arith })

  pub put_cut : (l : Lane) (cap : ℕ) (p : Place) (n w : ℕ) → l ≡ L.Cut p n w → Tidy cap l
      → Puts (get_or ws 0 0 ∷ get_or ws 1 0 ∷ get_or ws 2 0 ∷ count ∷ at ∷ s ∷ o ∷ 1 ∷ n ∷ w ∷ 0 ∷ 0 ∷ 0 ∷ p.stamp.number ∷ p.stamp.byte ∷ p.at ∷ 0 ∷ 0 ∷ 0 ∷ 0 ∷ 0 ∷ 0 ∷ 0 ∷ []) l
  unfolding words_of head_words
  put_cut l cap p n w q y =
      let tidy = tidy_as cap l (L.Cut p n w) q y in
      let z : eqb n 0 ≡ false = ne_eqb n 0 (λ (x : n ≡ 0). omega (arith, x, tidy.0)) in
      puts l (L.Cut p n w) _ q
      (row (1 ∷ n ∷ w ∷ 0 ∷ 0 ∷ 0 ∷ place_words p) (kept_words None)
      ∙ ap (λ (x : Bool). joined (receiver_in ws).size (receiver_in ws).stream (receiver_in ws).limit count at (stage_words stage) (cond x (1 ∷ 0 ∷ w ∷ 0 ∷ 0 ∷ 0 ∷ 0 ∷ 0 ∷ 0 ∷ []) (1 ∷ n ∷ w ∷ 0 ∷ 0 ∷ 0 ∷ place_words p)) (kept_words None)) (sym z))
      (record { phase = omega arith; kept = omega arith })

  pub put_busy : (l : Lane) (p : Place) (left len c x : ℕ) → l ≡ L.Busy p left len c x → c < 256 → x < 256
      → Puts (get_or ws 0 0 ∷ get_or ws 1 0 ∷ get_or ws 2 0 ∷ count ∷ at ∷ s ∷ o ∷ 3 ∷ c ∷ 0 ∷ (len + left) ∷ x ∷ left ∷ p.stamp.number ∷ p.stamp.byte ∷ p.at ∷ 1 ∷ c ∷ x ∷ len ∷ p.stamp.number ∷ p.stamp.byte ∷ p.at ∷ []) l
  unfolding words_of
  put_busy l p left len c x q a b =
      puts l (L.Busy p left len c x) _ q (row (phase_words (Body (complete_of c (len + left) x) left) p) (kept_words (kept_by c x p len)))
      (record { phase = (a, omega arith, b); kept = a })

-- ---- what a call comes to

tidy_met : (b : Receiver) (k : ℕ) (t : Stamp) (g : Gave) (tp m m' : List ℕ) (x : Met) → MetAs x b k t g tp m m' → TidyMet b.limit x
tidy_met b k t g tp m m' M.Other d = omega arith
tidy_met b k t g tp m m' (M.Drops n) d = omega arith
tidy_met b k t g tp m m' (M.Ends l) d = d.1
tidy_met b k t g tp m m' (M.Reads i) d = omega arith
tidy_met b k t g tp m m' (M.Gives c e p n end) d = omega arith

module _ (l : Lane) (tp m : List ℕ) where
  pub due_other : (s : Spot) → DueAs M.Other s l tp m m
  due_other s b k g u d = refl

  pub due_plain : (s : Spot) (i : ℕ) → s ≡ T.Plain i → DueAs (M.Reads i) s l tp m m
  due_plain s i e b k g u d =
      let f : SpotAs (T.Plain i) b k l g tp m = subst (λ (x : Spot). SpotAs x b k l g tp m) e d in
      (refl, f.1, f.0)

  pub due_out : (s : Spot) (o i : ℕ) (q : Met) (m' : List ℕ) → s ≡ T.Due o i → OutAs q l o i tp m m' → DueAs q s l tp m m'
  due_out s o i q m' e a b k g u d =
      let f : SpotAs (T.Due o i) b k l g tp m = subst (λ (x : Spot). SpotAs x b k l g tp m) e d in
      let lends : Lends b i tp m = record { size = u.size; whole = u.whole; full = u.full; within = f.2 } in
      subst (λ (y : Gave). MetAs q b k (own_of k) y tp m m') f.0 (a b k (own_of k) lends f.1 f.3)

pub on_reads : (k : ℕ) (tp m m' : List ℕ) (x q : Met) (i : ℕ) → x ≡ M.Reads i → AheadAs q i (own_of k) tp m m' → OnAs q x k tp m m'
on_reads k tp m m' x q i e a b g m₀ u d =
    let f : MetAs (M.Reads i) b k (own_of k) g tp m₀ m = subst (λ (y : Met). MetAs y b k (own_of k) g tp m₀ m) e d in
    let a₀ : AheadAs q i (own_of k) tp m₀ m' = subst (λ (y : List ℕ). AheadAs q i (own_of k) tp y m') f.0 a in
    let lends : Lends b i tp m₀ = record { size = u.size; whole = u.whole; full = u.full; within = f.1 } in
    subst (λ (y : Gave). MetAs q b k (own_of k) y tp m₀ m') f.2 (a₀ b k lends)

-- ---- and behind it

done : (r : Receiver) (tp m₀ m w : List ℕ) (q : Step) → Gives (call_of r tp m₀) q tp m → w ≡ words_of q.receiver → Bytes q.receiver → Done r tp m₀ q.find q.about w m
done r tp m₀ m w q g e b = record { step = q; gives = g; bytes = b; state = e; find = refl; about = refl }

module _ (r : Receiver) (k len : ℕ) (w₀ w : List ℕ) where
  behind_as : (q : Option Swift) (x y : Met) → x ≡ y → BehindMet q y r k len w₀ w → BehindMet q x r k len w₀ w
  behind_as q x y e d = subst (λ (z : Met). BehindMet q z r k len w₀ w) (sym e) d

  pub behind_ends : (x : Met) (l : Lane) → x ≡ M.Ends l → w ≡ words_of (in_lane r k l Fresh 0) → Bytes (in_lane r k l Fresh 0)
      → BehindMet (told F.Nothing (none_of (start_of (own_of k)))) x r k len w₀ w
  behind_ends x l e f b = behind_as (told F.Nothing (none_of (start_of (own_of k)))) x (M.Ends l) e (λ tp m₀ m z d. done r tp m₀ m w (ends_in (in_lane r k l Fresh 0) (own_of k)) d.0 f b)

  pub behind_gives : (x : Met) (c e : ℕ) (p : Place) (n end : ℕ) → x ≡ M.Gives c e p n end → w ≡ words_of (in_lane r k L.Idle Plain end) → Bytes (in_lane r k L.Idle Plain end)
      → BehindMet (told (F.Ordinary c n) (record { repaired = e; at = p })) x r k len w₀ w
  behind_gives x c e p n end g f b =
      behind_as (told (F.Ordinary c n) (record { repaired = e; at = p })) x (M.Gives c e p n end) g
      (λ tp m₀ m z d. done r tp m₀ m w (step_to (in_lane r k L.Idle Plain end) (F.Ordinary c n) (record { repaired = e; at = p })) d.0 f b)

  drops_behind : (n : ℕ) → (n ≡ 12 → ⊥) → w ≡ words_of (in_lane r k L.Lost Plain len) → Bytes (in_lane r k L.Lost Plain len)
      → BehindMet (told (F.Notice n) (none_of (start_of (own_of k)))) (M.Drops n) r k len w₀ w
  drops_behind n z f b tp m₀ m e d =
      let x = d.1 in
      let place : x.place ≡ 4 = subst (λ (y : Bool). cond y (0 ≤ 0) (x.place ≡ 4)) (ne_eqb n 12 z) (subst (λ (y : Bool). cond y (0 ≤ 0) (cond (eqb n 12) (0 ≤ 0) (x.place ≡ 4))) d.2 x.met) in
      let there : loss_end n x.place (length tp) ≡ len = ap (λ (y : Bool). cond y (x.place + 6) (length tp)) (ne_eqb n 12 z) ∙ sym e in
      let left : x.step.receiver ≡ in_lane r k L.Lost Plain len = x.receiver ∙ ap (in_lane r k L.Lost Plain) there in
      record {
        step = x.step;
        gives = subst (λ (y : List ℕ). Gives (call_of r tp m₀) x.step tp y) (sym d.0) x.gives;
        bytes = subst Bytes (sym left) b;
        state = f ∙ ap words_of (sym left);
        find = sym x.find;
        about = ap (λ (i : ℕ). none_of (place_at (own_of k) i)) (sym place) ∙ sym x.about;
      }

  pub behind_drops : (x : Met) (n : ℕ) → x ≡ M.Drops n → (n ≡ 12 → ⊥) → w ≡ words_of (in_lane r k L.Lost Plain len) → Bytes (in_lane r k L.Lost Plain len)
      → BehindMet (told (F.Notice n) (none_of (start_of (own_of k)))) x r k len w₀ w
  behind_drops x n g z f b = behind_as (told (F.Notice n) (none_of (start_of (own_of k)))) x (M.Drops n) g (drops_behind n z f b)

-- what is left to a call by value
module _ (r : Receiver) (k len : ℕ) (w : List ℕ) (x : Met) where
  pub behind_other : x ≡ M.Other → BehindMet None x r k len w w
  behind_other e = behind_as r k len w w None x M.Other e (λ tp m₀ m z d. (refl, d))

  pub behind_judged : (n : ℕ) → x ≡ M.Drops n → BehindMet None x r k len w w
  behind_judged n e = behind_as r k len w w None x (M.Drops n) e (λ tp m₀ m z d. (refl, d.0))

  pub behind_reads : (i : ℕ) → x ≡ M.Reads i → BehindMet None x r k len w w
  behind_reads i e = behind_as r k len w w None x (M.Reads i) e (λ tp m₀ m z d. (refl, d.0))

pub ends_tidy : (cap : ℕ) (x : Met) (l : Lane) → x ≡ M.Ends l → TidyMet cap x → Tidy cap l
ends_tidy cap x l e d = subst (TidyMet cap) e d

-- ---- before ordinary bytes

module _ (r : Receiver) (k : ℕ) (l : Lane) (o at : ℕ) (tp w₀ w : List ℕ) (size : 16 ≤ r.size) (tidy : Tidy r.limit l) (whole : length tp ≡ r.size) (payload : 4 ≤ at) (within : at ≤ length tp)
    (small : o < 2048) where
  lends : (m : List ℕ) → length m ≡ r.limit → Lends r at tp m
  lends m full = record { size = size; whole = whole; full = full; within = within }

  low : (x : Lows) → lows_of tp at ≡ x → (m : List ℕ) → length m ≡ r.limit → call_by (own_of k) (in_lane r k l (Low o) at) tp m ≡ call_of r tp m
      → LowAs x r k l o (own_of k) (call_of r tp m) tp m
  low x e m full c =
      subst (λ (g : Gave). LowAs x r k l o (own_of k) g tp m) c
      (subst (λ (y : Lows). LowAs y r k l o (own_of k) (call_by (own_of k) (in_lane r k l (Low o) at) tp m) tp m) e (low_as r k l o at (own_of k) tp m (lends m full) tidy payload small))

  pub low_ends : (i : ℕ) → lows_of tp at ≡ W.End i → LowPartAs (P.On (T.Due o i)) r k l o at tp w₀ w₀
  low_ends i e m full c =
      let inside = low_in_lem true tp at (W.End i) within e in
      (refl, (low (W.End i) e m full c, omega (arith, inside.0, payload), inside.1, small))

  pub low_gives : (f : Find) (n from : ℕ) (more : Bool) (end : ℕ) → lows_of tp at ≡ W.Gives f n from more end
      → w ≡ words_of (in_lane r k l (cond more (Low o) (Due o)) end) → Bytes (in_lane r k l (cond more (Low o) (Due o)) end)
      → LowPartAs (P.Told (told f (record { repaired = n; at = place_at (own_of k) from }))) r k l o at tp w₀ w
  low_gives f n from more end e s b m full c =
      done r tp m m w (step_to (in_lane r k l (cond more (Low o) (Due o)) end) f (record { repaired = n; at = place_at (own_of k) from })) (low (W.Gives f n from more end) e m full c).0 s b

  pub low_drops : (i : ℕ) → lows_of tp at ≡ W.Broken i → w ≡ words_of (in_lane r k L.Lost Plain (length tp)) → Bytes (in_lane r k L.Lost Plain (length tp))
      → LowPartAs (P.Told (told (F.Notice 11) (none_of (place_at (own_of k) i)))) r k l o at tp w₀ w
  low_drops i e s b m full c =
      let y = low_broken r k l o at (own_of k) tp m (lends m full) i e in
      let x = y.0 in
      let left : x.step.receiver ≡ in_lane r k L.Lost Plain (length tp) = x.receiver in
      record {
        step = x.step;
        gives = subst (λ (g : Gave). Gives g x.step tp m) c x.gives;
        bytes = subst Bytes (sym left) b;
        state = s ∙ ap words_of (sym left);
        find = sym x.find;
        about = ap (λ (j : ℕ). none_of (place_at (own_of k) j)) (sym y.1) ∙ sym x.about;
      }

module _ (r : Receiver) (k : ℕ) (l : Lane) (tp w₀ w : List ℕ) (s : Spot) (count : k ≡ count_by r) (goes : GoesAs s r l tp) where
  spotted : (x : Spot) → s ≡ x → (m : List ℕ) → length m ≡ r.limit → SpotAs x r k l (call_of r tp m) tp m
  spotted x e m full =
      subst (λ (n : ℕ). SpotAs x r n l (call_of r tp m) tp m) (sym count) (subst (λ (y : Spot). SpotAs y r (count_by r) l (call_of r tp m) tp m) e (goes m full))

  pub part_other : PartAs (P.Told None) r k l tp w₀ w₀
  part_other m full = (refl, refl)

  pub part_gone : (n : ℕ) → s ≡ T.Gone n → w ≡ words_of (in_lane r k L.Lost Fresh 0) → Bytes (in_lane r k L.Lost Fresh 0)
      → PartAs (P.Told (told (F.Notice n) (none_of (start_of (own_of k))))) r k l tp w₀ w
  part_gone n e f b m full = done r tp m m w (step_to (in_lane r k L.Lost Fresh 0) (F.Notice n) (none_of (start_of (own_of k)))) (spotted (T.Gone n) e m full) f b

  pub part_over : s ≡ T.Over → w ≡ words_of (in_lane r k L.Lost Fresh 0) → Bytes (in_lane r k L.Lost Fresh 0)
      → PartAs (P.Told (told F.Nothing (none_of (start_of (own_of k))))) r k l tp w₀ w
  part_over e f b m full = done r tp m m w (ends_in (in_lane r k L.Lost Fresh 0) (own_of k)) (spotted T.Over e m full) f b

  pub part_on : PartAs (P.On s) r k l tp w₀ w₀
  part_on m full = (refl, spotted s refl m full)

  pub part_low : (o i : ℕ) → s ≡ T.Low o i → (q : Part) → LowPartAs q r k l o i tp w₀ w → PartAs q r k l tp w₀ w
  part_low o i e q f m full = f m full (spotted (T.Low o i) e m full).0

  pub low_bounds : (o i : ℕ) → s ≡ T.Low o i → (4 ≤ i) × (i ≤ length tp) × (o < 2048)
  low_bounds o i e = let f = spotted (T.Low o i) e (replicate r.limit 0) (length-replicate {A = ℕ} r.limit 0) in (f.1, f.2, f.3)

-- a low-latency part that is gone on with
pub again_gives : (ws : List ℕ) (l : Lane) (tp w : List ℕ) → fitb ws ≡ true → get_or ws 5 0 ≡ 1 → length tp ≡ (receiver_in ws).size → Stands l (receiver_in ws)
    → (f : Find) (n from : ℕ) (more : Bool) (end : ℕ) → lows_of tp (get_or ws 4 0) ≡ W.Gives f n from more end
    → w ≡ words_of (in_lane (receiver_in ws) (get_or ws 3 0) l (cond more (Low (get_or ws 6 0)) (Due (get_or ws 6 0))) end)
    → Bytes (in_lane (receiver_in ws) (get_or ws 3 0) l (cond more (Low (get_or ws 6 0)) (Due (get_or ws 6 0))) end)
    → ToldAs (told f (record { repaired = n; at = place_at (own_of (get_or ws 3 0)) from })) (receiver_in ws) tp ws w
again_gives ws l tp w fit z whole s f n from more end e p b =
    let r = receiver_in ws in
    let k = get_or ws 3 0 in
    let o = get_or ws 6 0 in
    let at = get_or ws 4 0 in
    let count = count_later ws (λ (x : get_or ws 5 0 ≡ 0). omega (arith, x, z)) in
    let goes = goes_low ws l tp fit s whole z in
    let bounds = low_bounds r k l tp ws w (T.Low o at) count goes o at refl in
    part_low r k l tp ws w (T.Low o at) count goes o at refl (P.Told (told f (record { repaired = n; at = place_at (own_of k) from })))
    (low_gives r k l o at tp ws w (fits ws fit).able.size s.1 whole bounds.0 bounds.1 bounds.2 f n from more end e p b)

-- with the room that is lent
pub told_as : (r : Receiver) (tp m w₀ w : List ℕ) → length m ≡ r.limit → (q x : Option Swift) → q ≡ x → ToldAs q r tp w₀ w → SwiftAs x r w₀ tp m w m
told_as r tp m w₀ w full q x e t = subst (λ (y : Option Swift). SwiftAs y r w₀ tp m w m) e (t m full)

pub told_same : (r : Receiver) (tp m w₀ w : List ℕ) → length m ≡ r.limit → (q : Option Swift) → q ≡ None → ToldAs q r tp w₀ w → w ≡ w₀
told_same r tp m w₀ w full q e t = (told_as r tp m w₀ w full q None e t).0

-- a call on the same words
pub swift_on : (ws v : List ℕ) → v ≡ ws → (q : Option Swift) (tp m₀ w m : List ℕ) → SwiftAs q (receiver_in v) v tp m₀ w m → SwiftAs q (receiver_in ws) ws tp m₀ w m
swift_on ws v e q tp m₀ w m d = subst (λ (x : List ℕ). SwiftAs q (receiver_in x) x tp m₀ w m) e d

-- ---- all of it

module _ (ws w : List ℕ) (k : ℕ) (l : Lane) (tp m₀ m₁ m₂ : List ℕ) (fit : fitb ws ≡ true) (whole : length tp ≡ (receiver_in ws).size) (full : length m₀ ≡ (receiver_in ws).limit) (p : Part)
    (part : PartAs p (receiver_in ws) k l tp ws w) where
  pub laned_told : (q : Option Swift) → p ≡ P.Told q → SwiftAs q (receiver_in ws) ws tp m₀ w m₀
  laned_told q e = subst (λ (x : Part). PartBy x (receiver_in ws) k l tp m₀ ws w) e (part m₀ full)

  module _ (s : Spot) (e : p ≡ P.On s) (x y : Met) (due : DueAs x s l tp m₀ m₁) (on : OnAs y x k tp m₁ m₂) where
    goes : (w ≡ ws) × SpotAs s (receiver_in ws) k l (call_of (receiver_in ws) tp m₀) tp m₀
    goes = subst (λ (x : Part). PartBy x (receiver_in ws) k l tp m₀ ws w) e (part m₀ full)

    meets : MetAs y (receiver_in ws) k (own_of k) (call_of (receiver_in ws) tp m₀) tp m₀ m₂
    meets =
        let r = receiver_in ws in
        let suits : Suits r tp m₀ = record { size = (fits ws fit).able.size; whole = whole; full = full } in
        on r (call_of r tp m₀) m₀ suits (due r k (call_of r tp m₀) suits goes.1)

    pub laned_tidy : (fitb w ≡ true) × TidyMet (receiver_in w).limit y
    laned_tidy =
        subst (λ (v : List ℕ). (fitb v ≡ true) × TidyMet (receiver_in v).limit y) (sym goes.0)
        (fit, tidy_met (receiver_in ws) k (own_of k) (call_of (receiver_in ws) tp m₀) tp m₀ m₂ y meets)

    pub laned_behind : (q : Option Swift) (len : ℕ) (w' : List ℕ) → len ≡ length tp → BehindMet q y (receiver_in w) k len w w' → SwiftAs q (receiver_in ws) ws tp m₀ w' m₂
    laned_behind q len w' z d = subst (λ (v : List ℕ). BehindMet q y (receiver_in v) k len v w') goes.0 d tp m₀ m₂ z meets
