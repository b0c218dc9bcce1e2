-- Where a call takes a TP up: which clause of its definition a test of the TP's header, or the stage, chooses. Assumes nothing.
use mathlib.Core.Path.{ap, refl, subst, sym, ◌∙◌, ◌≡◌}
use mathlib.Core.Bool.{Bool, cond, false, true}
use mathlib.Core.List.{List}
use Prim.Native.Nat.{ℕ, ◌%◌, ◌/◌, ◌<◌, ◌≤◌}
use native.Mathlib.Omega.{arith}
use lib.Dec.{eqb}
use lib.ListN.{drop, get_or, length, take}
use borrow.Author.Tests.{eq-eqb, ne_eqb}
use Rattle.std.specs.Prelude.{None, Option, Some}
use Rattle.digits.specs.Digits.{number}
use Rattle.wire.specs.Reading.{stream_of, tp_number_in, tp_word_from, tp_word_of, version_of}
use Rattle.wire.specs.declared.TpWord.{TpWord}
use Rattle.receiver.specs.declared.Receiver.{Receiver}
use Rattle.receiver.specs.declared.Stamp.{Stamp}
use Rattle.receiver.specs.declared.stages.Stamps.{Stamps}
use Rattle.receiver.specs.Place.{start_of}
use Rattle.receiver.specs.declared.Stage.{Stage}
use Rattle.receiver.specs.declared.Stage.TheVariants.{Due, Fresh, Low, Plain}
use Rattle.receiver.specs.declared.Step.{Step}
use Rattle.receiver.specs.declared.entry.Begun.{Begun}
use Rattle.receiver.specs.declared.entry.Top.{Top}
use Rattle.receiver.specs.declared.entry.Top.TheVariants.{Dropped, Elsewhere, Says}
use Rattle.receiver.specs.declared.stages.Course.{Course}
use Rattle.receiver.specs.declared.walk.Phase.TheVariants.{Lost}
use Rattle.receiver.specs.Call.{Gave, counted_of, word_call, payload_call, first_call, gone, stage_call, unchanged}
use Rattle.receiver.specs.State.{Able, Staged}
use Rattle.receiver.specs.Pieces.{same_of, says_of, step_of, top_of}
use Rattle.receiver.specs.InStages.{Begins, Leads, Lent, PartAt, part_call}
use Rattle.receiver.proofs.Calling.{gone_gives, same_gives}
use Rattle.receiver.proofs.Parting.{leads_by}
use Rattle.receiver.specs.declared.Find.TheVariants as F
use Rattle.receiver.specs.declared.entry.Begun.TheVariants as B
use Rattle.receiver.specs.declared.stages.Course.TheVariants as C

-- where a call takes a TP up

begins_by : (g h : List ℕ → Gave) (r : Receiver) (t : Stamp) (tp : List ℕ) (x : Begun) → ((m : List ℕ) → h m ≡ g m) → Begins h r t tp x → Begins g r t tp x
unfolding Begins
begins_by g h r t tp (B.Gives s) e l = leads_by g h r t tp (C.Gives s) e l
begins_by g h r t tp (B.Part low o at) e l = record { same = λ m. l.same m ∙ e m; small = l.small; lent = l.lent }
begins_by g h r t tp B.Plain e l = leads_by g h r t tp (C.Reads r.walk) e l

-- what a TP's header says

module _ (stream : ℕ) (tp : List ℕ) where
  abbrev word : Option ℕ
  word = tp_number_in (number 0 (take 3 (drop 1 tp)))

  pub top_eight : (get_or tp 0 0 / 16 ≡ stream → ⊥) → Elsewhere ≡ top_of stream tp
  unfolding top_of
  top_eight f = rw (ne_eqb (get_or tp 0 0 / 16) stream f)

  pub top_seven : get_or tp 0 0 / 16 ≡ stream → (get_or tp 0 0 % 4 ≡ 0 → ⊥) → Dropped 7 ≡ top_of stream tp
  unfolding top_of
  top_seven f v = rw (eq-eqb (get_or tp 0 0 / 16) stream f, ne_eqb (get_or tp 0 0 % 4) 0 v)

  top_word : get_or tp 0 0 / 16 ≡ stream → get_or tp 0 0 % 4 ≡ 0 → says_of word ≡ top_of stream tp
  unfolding top_of
  top_word f v = rw (eq-eqb (get_or tp 0 0 / 16) stream f, eq-eqb (get_or tp 0 0 % 4) 0 v)

  pub top_nine : get_or tp 0 0 / 16 ≡ stream → get_or tp 0 0 % 4 ≡ 0 → tp_word_of word ≡ None → Dropped 9 ≡ top_of stream tp
  top_nine f v e = by word e ∙ top_word f v
    where
      by : (o : Option ℕ) → tp_word_of o ≡ None → Dropped 9 ≡ says_of o
      by None e = refl
      by (Some w) e = cc

  pub top_says : (low : Bool) (n : ℕ) → get_or tp 0 0 / 16 ≡ stream → get_or tp 0 0 % 4 ≡ 0 → tp_word_of word ≡ Some (record { low = low; offset = n }) → Says low n ≡ top_of stream tp
  top_says low n f v e = by word e ∙ top_word f v
    where
      by : (o : Option ℕ) → tp_word_of o ≡ Some (record { low = low; offset = n }) → Says low n ≡ says_of o
      by None e = let z : ◌≡◌ {A = ℕ} 0 1 = cc in absurd (omega arith)
      by (Some w) e = let q : tp_word_from w ≡ record { low = low; offset = n } = cc in ap (λ (x : TpWord). Says x.low x.offset) (sym q)

  pub says_small : (low : Bool) (n : ℕ) → top_of stream tp ≡ Says low n → n < 2048
  unfolding top_of
  says_small low n e = by (eqb (stream_of (get_or tp 0 0)) stream) (eqb (version_of (get_or tp 0 0)) 0) word e
    where
      by : (a b : Bool) (o : Option ℕ) → cond a (cond b (says_of o) (Dropped 7)) Elsewhere ≡ Says low n → n < 2048
      by true true None e = let z : ◌≡◌ {A = ℕ} 0 1 = cc in omega arith
      by true true (Some w) e = let q : w % 2048 ≡ n = cc in omega arith
      by true false o e = let z : ◌≡◌ {A = ℕ} 0 1 = cc in omega arith
      by false b o e = let z : ◌≡◌ {A = ℕ} 0 1 = cc in omega arith

  pub drops_small : (n : ℕ) → top_of stream tp ≡ Dropped n → n ≤ 9
  unfolding top_of
  drops_small n e = by (eqb (stream_of (get_or tp 0 0)) stream) (eqb (version_of (get_or tp 0 0)) 0) word e
    where
      by : (a b : Bool) (o : Option ℕ) → cond a (cond b (says_of o) (Dropped 7)) Elsewhere ≡ Dropped n → n ≤ 9
      by true true None e = let q : 9 ≡ n = cc in omega arith
      by true true (Some w) e = let z : ◌≡◌ {A = ℕ} 0 1 = cc in omega arith
      by true false o e = let q : 7 ≡ n = cc in omega arith
      by false b o e = let z : ◌≡◌ {A = ℕ} 0 1 = cc in omega arith

pub counted_lent : (r : Receiver) (at : ℕ) (tp : List ℕ) → Lent r at tp → Lent (counted_of r) at tp
counted_lent r at tp l = record { size = l.size; whole = l.whole; payload = l.payload; walk = l.walk; settled = l.settled }

-- a TP's first call, by what its header says

abbrev pub fresh_by : Top → Receiver → Stamps → List ℕ → List ℕ → Gave
fresh_by Elsewhere r n tp m = unchanged r n.before (F.Notice 8) 8 m
fresh_by (Dropped k) r n tp m = gone (counted_of r) n.now k m
fresh_by (Says low o) r n tp m = payload_call low (counted_of r) n.now o tp m

pub fresh_top : (r : Receiver) (n : Stamps) (tp m : List ℕ) → fresh_by (top_of r.stream tp) r n tp m ≡ first_call r (counted_of r) n tp m
unfolding top_of first_call
fresh_top r n tp m = by (eqb (stream_of (get_or tp 0 0)) r.stream) (eqb (version_of (get_or tp 0 0)) 0) (word 0 tp)
  where
    by : (a b : Bool) (o : Option ℕ)
        → fresh_by (cond a (cond b (says_of o) (Dropped 7)) Elsewhere) r n tp m
        ≡ cond a (cond b (word_call o (counted_of r) n.now tp m) (gone (counted_of r) n.now 7 m)) (unchanged r n.before (F.Notice 8) 8 m)
    by true true None = refl
    by true true (Some w) = refl
    by true false o = refl
    by false b o = refl

abbrev pub first_by : Top → Receiver → Stamps → Begun
first_by Elsewhere r n = B.Gives (same_of r (F.Notice 8) (start_of n.before))
first_by (Dropped k) r n = B.Gives (step_of (counted_of r) Fresh 0 Lost None (F.Notice k) (start_of n.now))
first_by (Says low o) r n = B.Part low o 4

module _ (r : Receiver) (n : Stamps) (tp : List ℕ) where
  abbrev c : Receiver
  c = counted_of r

  gone_begins : (k : ℕ) → 16 ≤ r.size → length tp ≡ r.size → Begins (gone c n.now k) c n.now tp (B.Gives (step_of c Fresh 0 Lost None (F.Notice k) (start_of n.now)))
  unfolding Begins
  gone_begins k size whole = λ m f. gone_gives c n.now tp m size whole f k

  part_begins : (low : Bool) (o : ℕ) → o < 2048 → Lent r 4 tp → Begins (payload_call low c n.now o tp) c n.now tp (B.Part low o 4)
  unfolding Begins
  part_begins low o s l = record { same = λ m. same low m; small = s; lent = counted_lent r 4 tp l }
    where
      same : (low : Bool) (m : List ℕ) → part_call low c n.now o 4 tp m ≡ payload_call low c n.now o tp m
      same true m = refl
      same false m = refl

  top_by : (x : Top) → top_of r.stream tp ≡ x → Able r → Lent r 4 tp → Begins (fresh_by x r n tp) c n.now tp (first_by x r n)
  unfolding Begins
  top_by Elsewhere e a l = λ m u. same_gives r n.before tp m 8 a
  top_by (Dropped k) e a l = gone_begins k l.size l.whole
  top_by (Says low o) e a l = part_begins low o (says_small r.stream tp low o e) l

  pub top_begins : (x : Top) → top_of r.stream tp ≡ x → Able r → Lent r 4 tp → Begins (first_call r c n tp) c n.now tp (first_by x r n)
  top_begins x e a l =
      begins_by (first_call r c n tp) (fresh_by x r n tp) c n.now tp (first_by x r n) (λ m. ap (λ (x : Top). fresh_by x r n tp m) (sym e) ∙ fresh_top r n tp m) (top_by x e a l)

  staged_by : (x : Begun) (g : Stage) (h : List ℕ → Gave) → r.stage ≡ g → ((m : List ℕ) → h m ≡ stage_call g r c n tp m) → Begins h c n.now tp x
      → Begins (stage_call r.stage r c n tp) c n.now tp x
  staged_by x g h e s l = begins_by (stage_call r.stage r c n tp) h c n.now tp x (λ m. s m ∙ ap (λ (g : Stage). stage_call g r c n tp m) (sym e)) l

  pub first_begins : (x : Begun) → r.stage ≡ Fresh → Begins (first_call r c n tp) c n.now tp x → Begins (stage_call r.stage r c n tp) c n.now tp x
  first_begins x e g = staged_by x Fresh (first_call r c n tp) e (λ m. refl) g

  pub first_lent : Able r → length tp ≡ r.size → r.stage ≡ Fresh → Lent r 4 tp
  first_lent a w e =
      let z = a.size in
      let g : Staged Fresh r.walk = subst (λ (g : Stage). Staged g r.walk) e a.stage in
      record { size = a.size; whole = w; payload = omega arith; walk = record { at = omega arith; phase = a.walk.phase }; settled = g }

  pub low_begins : (o : ℕ) → Able r → length tp ≡ r.size → r.stage ≡ Low o → Begins (stage_call r.stage r c n tp) c n.now tp (B.Part true o r.walk.at)
  unfolding Begins
  low_begins o a w e =
      let g : Staged (Low o) r.walk = subst (λ (g : Stage). Staged g r.walk) e a.stage in
      record {
        same = λ m. ap (λ (g : Stage). stage_call g r c n tp m) (sym e);
        small = g.0;
        lent = record { size = a.size; whole = w; payload = g.1; walk = a.walk; settled = g.2 };
      }

  pub due_begins : (o : ℕ) → Able r → length tp ≡ r.size → r.stage ≡ Due o → Begins (stage_call r.stage r c n tp) c n.now tp (B.Part false o r.walk.at)
  unfolding Begins
  due_begins o a w e =
      let g : Staged (Due o) r.walk = subst (λ (g : Stage). Staged g r.walk) e a.stage in
      record {
        same = λ m. ap (λ (g : Stage). stage_call g r c n tp m) (sym e);
        small = g.0;
        lent = record { size = a.size; whole = w; payload = g.1; walk = a.walk; settled = g.2 };
      }

  pub plain_begins : Able r → r.stage ≡ Plain → Begins (stage_call r.stage r c n tp) c n.now tp B.Plain
  unfolding Begins
  plain_begins a e = record { same = λ m f. ap (λ (g : Stage). stage_call g r c n tp m) (sym e); sound = a.walk }

-- and where that leads

module _ (g : List ℕ → Gave) (r : Receiver) (t : Stamp) (tp : List ℕ) (x : Begun) (b : Begins g r t tp x) where
  pub find_leads : (s : Step) → x ≡ B.Gives s → Leads g r t tp (C.Gives s)
  unfolding Begins
  find_leads s e = subst (Begins g r t tp) e b

  pub part_at : (low : Bool) (o at : ℕ) → x ≡ B.Part low o at → PartAt g r t tp low o at
  unfolding Begins
  part_at low o at e = subst (Begins g r t tp) e b

  pub part_leads : (low : Bool) (o at : ℕ) (q : Course) → x ≡ B.Part low o at → Leads (part_call low r t o at tp) r t tp q → Leads g r t tp q
  part_leads low o at q e l = leads_by g (part_call low r t o at tp) r t tp q (part_at low o at e).same l

  pub plain_leads : x ≡ B.Plain → Leads g r t tp (C.Reads r.walk)
  unfolding Begins
  plain_leads e = subst (Begins g r t tp) e b
