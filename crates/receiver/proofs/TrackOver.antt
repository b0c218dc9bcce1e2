-- What a track asks of a TP at once: whether an LLEP is a packet; out of step, whether no EP begins in the TP; between two EPs, whether fill takes
-- all of it. Assumes nothing.
use mathlib.Core.Path.{◌≡◌, refl, sym, subst, ap, ◌∙◌}
use mathlib.Core.Bool.{Bool, true, false}
use mathlib.Core.List.{List, [], ◌∷◌}
use mathlib.Core.Logic.{inl, inr}
use Prim.Native.Nat.{ℕ, ◌+◌, ◌-◌, ◌*◌, ◌≤◌, ◌<◌}
use native.Mathlib.Omega.{arith}
use lib.Count.{ones_in}
use lib.Dec.{eqb, lit<}
use lib.ListN.{drop, get_or, length, take}
use borrow.Author.Tests.{eq-eqb, eqb-true, le-leb, lt-leb, ne_eqb}
use Rattle.std.specs.Prelude.{Err, None, Ok, Option, Some, is_some}
use Rattle.digits.specs.Digits.{number}
use Rattle.golay.specs.Answers.{end_flips, end_of}
use Rattle.golay.specs.Golay.{code_word}
use Rattle.golay.specs.declared.End.{End}
use Rattle.golay.specs.declared.End.TheVariants.{Ones, Zeros}
use Rattle.wire.specs.Reading.{header_in, tp_number_in, tp_word_of}
use Rattle.wire.specs.declared.Header.{Header}
use Rattle.wire.specs.declared.TpWord.{TpWord}
use Rattle.wire.proofs.Laws.{no_start, no_start_is}
use Rattle.receiver.specs.declared.Find.TheVariants as F
use Rattle.receiver.specs.declared.Receiver.{Receiver}
use Rattle.receiver.specs.declared.Stage.TheVariants.{Fresh}
use Rattle.receiver.specs.declared.Stamp.{Stamp}
use Rattle.receiver.specs.declared.entry.Top.{Top}
use Rattle.receiver.specs.declared.entry.Top.TheVariants.{Dropped, Says}
use Rattle.receiver.specs.declared.kind.Kind.{Kind}
use Rattle.receiver.specs.declared.lane.Lane.{Lane}
use Rattle.receiver.specs.declared.lane.Lane.TheVariants as L
use Rattle.receiver.specs.declared.low.Lows.TheVariants as W
use Rattle.receiver.specs.declared.track.Brief.{Brief}
use Rattle.receiver.specs.Call.{Gave, Gives}
use Rattle.receiver.specs.InLanes.{FitsIf}
use Rattle.receiver.specs.InOver.{six_of}
use Rattle.receiver.specs.Lanes.{Drops, FirstAs, Lends, Tidy, call_by, ends_in, in_lane, top_in}
use Rattle.receiver.specs.Low.{counting, ended, llep}
use Rattle.receiver.specs.Lows.{and_then, lows, lows_of, one_of, passed_of}
use Rattle.receiver.specs.Outset.{place_of}
use Rattle.receiver.specs.Pieces.{top_of}
use Rattle.receiver.specs.Place.{count_of}
use Rattle.receiver.specs.State.{Able}
use Rattle.receiver.specs.Tracks.{BriefAs, DroppedAs, FilledIf, PassesOver}
use Rattle.receiver.proofs.Heading.{Bytes}
use Rattle.receiver.proofs.LaneAhead.{ahead_idle}
use Rattle.receiver.proofs.LaneFirst.{first_as, low_broken}
use Rattle.receiver.proofs.LaneOut.{idle_reads, lost_stays, out_outside}
use Rattle.receiver.proofs.PassingOver.{fill_all, starts_at_once, three_at}
use Rattle.receiver.proofs.Standing.{complete_kind}
use Rattle.receiver.proofs.TakingUp.{says_small, top_nine, top_says}
use Rattle.receiver.proofs.Walking.{closed_in, item_whole}

-- ---- an LLEP that is a packet

pub unfound : (q : Brief) (tp : List ℕ) (at : ℕ) → q.found ≡ false → BriefAs q.found q tp at
unfound q tp at e = subst (λ (x : Bool). BriefAs x q tp at) (sym e) (omega arith)

-- the end byte's answer, by whether another LLEP follows
abbrev pub end_by : Bool → End
end_by true = Ones
end_by false = Zeros

pub zero_ends : (b : ℕ) → b ≡ 0 → end_of b ≡ end_by false
unfolding end_of ones_in
zero_ends b e = rw e refl

pub full_goes_on : (b : ℕ) → b ≡ 255 → end_of b ≡ end_by true
unfolding end_of ones_in
full_goes_on b e = rw e refl

module _ (tp : List ℕ) (at : ℕ) (h : Header) (long : 7 ≤ length tp - at) (read : header_in (number 0 (take 6 (drop at tp))) ≡ Some h)
    (within : h.size ≤ length tp - at - 7) (fits : FitsIf true h 65535) where
  abbrev last : ℕ
  last = get_or tp (at + 6 + h.size) 0

  whole_llep : (more : Bool) → end_of last ≡ end_by more → llep (drop at tp) ≡ Some (counting last h, more)
  whole_llep more e =
      sym (item_whole tp at (number 0 (take 6 (drop at tp))) h long refl read) ∙ sym (closed_in tp at h (omega arith) within)
      ∙ ap (λ (x : End). ended x (counting last h)) e
      ∙ by more
    where
      by : (more : Bool) → ended (end_by more) (counting last h) ≡ Some (counting last h, more)
      by true = refl
      by false = refl

  low_given : (more : Bool) → end_of last ≡ end_by more
      → lows_of tp at ≡ W.Gives (F.Low h.content (at + 6) h.size) (h.flips + end_flips last) at more (at + 7 + h.size)
  unfolding lows_of lows
  low_given more e =
      ap (λ (l : Option (Header × Bool)). and_then (one_of l at) (λ i. lows (length tp) tp i)) (whole_llep more e)
      ∙ ap (λ (d : Kind). and_then (passed_of d (counting last h) more at) (λ i. lows (length tp) tp i)) (complete_kind (counting last h) fits.3 fits.4 fits.2)

  pub brief_as : (q : Brief) (more : Bool) → end_of last ≡ end_by more
      → (q.found ≡ true) × (q.more ≡ more) × (q.content ≡ h.content) × (q.size ≡ h.size) → BriefAs q.found q tp at
  brief_as q more e is =
      subst (λ (x : Bool). BriefAs x q tp at) (sym is.0)
      (omega (arith, is.3), omega (arith, is.2, fits.4), (h.flips + end_flips last, rw (is.1, is.2, is.3) (low_given more e)))

-- ---- a TP of a receiver's length and stream, and of version 0

-- nothing is said
pub undropped : (r : Receiver) (tp : List ℕ) → DroppedAs 0 r tp
undropped r tp = record { over = λ e. absurd (omega (arith, e)); told = λ l. absurd (omega (arith, l)); small = omega arith }

module _ (r : Receiver) (tp : List ℕ) (able : Able r) (whole : length tp ≡ r.size) (first : get_or tp 0 0 ≡ 16 * r.stream) where
  says_word : (low : Bool) (o : ℕ) → tp_word_of (tp_number_in (number 0 (take 3 (drop 1 tp)))) ≡ Some (record { low = low; offset = o }) → Says low o ≡ top_of r.stream tp
  says_word low o e = top_says r.stream tp low o (omega (arith, first)) (omega (arith, first)) e

  lends : (m : List ℕ) → length m ≡ r.limit → Lends r 4 tp m
  lends m full = record { size = able.size; whole = whole; full = full; within = omega (arith, able.size, whole) }

  -- a TP's first call, by its word
  begins : (l : Lane) → Tidy r.limit l → (q : Top) → q ≡ top_of r.stream tp → (k : ℕ) (t : Stamp) (m : List ℕ) → length m ≡ r.limit
      → FirstAs q r k l t (call_by t (in_lane r k l Fresh 0) tp m) tp m
  begins l y q e k t m full =
      let is : top_in r tp ≡ q = rw (eq-eqb (length tp) r.size whole) (sym e) in
      subst (λ (x : Top). FirstAs x r k l t (call_by t (in_lane r k l Fresh 0) tp m) tp m) is (first_as r k l t tp m able.size full y)

  -- ---- out of step

  -- no EP begins in it
  startless : Says false 2047 ≡ top_of r.stream tp → PassesOver L.Lost r tp
  unfolding place_of
  startless e k t m full =
      let d = lends m full in
      let s = lost_stays (length tp - 4) 4 tp m (omega (arith, d.within)) (omega arith) r (count_of k) t 2047 d (omega arith) (lit< tt) refl in
      subst (λ (g : Gave). Gives g (ends_in (in_lane r (count_of k) L.Lost Fresh 0) t) tp m) (begins L.Lost (omega arith) (Says false 2047) e k t m full) s.0

  passed_over : Says false 2047 ≡ top_of r.stream tp → DroppedAs 1 r tp
  passed_over e = record { over = λ z. startless e; told = λ l. absurd (omega (arith, l)); small = lit< tt }

  pub word_over : (w : ℕ) → w ≡ number 0 (take 3 (drop 1 tp)) → w ≡ 0x7FF38A → DroppedAs 1 r tp
  word_over w e z = passed_over (says_word false 2047 (ap (λ (n : ℕ). tp_word_of (tp_number_in n)) (sym e) ∙ ap tp_word_of (no_start w (z ∙ no_start_is))))

  module _ (w : ℕ) (e : w ≡ number 0 (take 3 (drop 1 tp))) (q : Option TpWord) (reads : q ≡ tp_word_of (tp_number_in w)) where
    word : q ≡ tp_word_of (tp_number_in (number 0 (take 3 (drop 1 tp))))
    word = reads ∙ ap (λ (n : ℕ). tp_word_of (tp_number_in n)) e

    pub beyond_told : q ≡ None → DroppedAs 9 r tp
    beyond_told z =
        let top = top_nine r.stream tp (omega (arith, first)) (omega (arith, first)) (sym word ∙ z) in
        record {
          over = λ x. absurd (omega (arith, x));
          told = λ l k t m full. inl (refl, (begins L.Lost (omega arith) (Dropped 9) top k t m full).0);
          small = lit< tt;
        }

    module _ (low : Bool) (o : ℕ) (says : q ≡ Some (record { low = low; offset = o })) where
      top : Says low o ≡ top_of r.stream tp
      top = says_word low o (sym word ∙ says)

      pub offset_small : o < 2048
      offset_small = says_small r.stream tp low o (sym top)

      pub none_begins : low ≡ false → o ≡ 2047 → DroppedAs 1 r tp
      none_begins f z = passed_over (ap (λ (x : Bool). Says x 2047) (sym f) ∙ ap (Says low) (sym z) ∙ top)

      pub outside_told : low ≡ false → (o ≡ 2047 → ⊥) → length tp ≤ o + 4 → DroppedAs 10 r tp
      unfolding place_of
      outside_told f other far =
          let place : Err 10 ≡ place_of o 4 (length tp) = rw (ne_eqb o 2047 other, le-leb (length tp) (o + 4) far) refl in
          let says = ap (λ (x : Bool). Says x o) (sym f) ∙ top in
          record {
            over = λ x. absurd (omega (arith, x));
            told = λ l k t m full. inr (subst (λ (g : Gave). Drops r (count_of k) t 10 g tp m) (begins L.Lost (omega arith) (Says false o) says k t m full)
                (out_outside L.Lost o 4 10 tp m (omega arith) place r (count_of k) t (lends m full) (omega arith) offset_small).1);
            small = lit< tt;
          }

      pub broken_told : low ≡ true → (b : Option (Header × Bool)) → b ≡ llep (drop 4 tp) → is_some b ≡ false → DroppedAs 11 r tp
      unfolding lows_of lows
      broken_told f (Some x) is z = let q : ◌≡◌ {A = ℕ} 0 1 = cc in absurd (omega arith)
      broken_told f None is z =
          let says = ap (λ (x : Bool). Says x o) (sym f) ∙ top in
          let none : lows_of tp 4 ≡ W.Broken 4 = ap (λ (l : Option (Header × Bool)). and_then (one_of l 4) (λ i. lows (length tp) tp i)) (sym is) in
          record {
            over = λ x. absurd (omega (arith, x));
            told = λ l k t m full. inr (subst (λ (g : Gave). Drops r (count_of k) t 11 g tp m) (begins L.Lost (omega arith) (Says true o) says k t m full)
                (low_broken r (count_of k) L.Lost o 4 t tp m (lends m full) 4 none).0);
            small = lit< tt;
          }

  -- ---- between two EPs

  -- one fill EP takes all of it
  all_fill : six_of tp ≡ 0 → length tp - 10 ≤ 4095 → Bytes tp → number 0 (take 3 (drop 7 tp)) ≡ code_word (length tp - 10) → PassesOver L.Idle r tp
  unfolding place_of
  all_fill zeros short bytes size k t m full =
      let d = lends m full in
      let long : 10 ≤ length tp = omega (arith, able.size, whole) in
      let place : place_of 0 4 (length tp) ≡ Ok 0 = rw (lt-leb (length tp) 4 (omega (arith, long))) in
      let says = says_word false 0 (ap tp_word_of (starts_at_once tp long zeros)) in
      let between = (idle_reads 0 4 tp m refl r (count_of k) t 0 d (omega arith) (lit< tt) place).2 in
      let ended = (ahead_idle 4 (length tp) t tp m bytes (fill_all tp long zeros short size bytes) (omega arith) r (count_of k) d).0 in
      subst (λ (g : Gave). Gives g (ends_in (in_lane r (count_of k) L.Idle Fresh 0) t) tp m) (between ∙ begins L.Idle (omega arith) (Says false 0) says k t m full) ended

  pub filled_if : six_of tp ≡ 0 → length tp - 10 ≤ 4095 → Bytes tp
      → FilledIf (eqb (number 0 (get_or tp 7 0 ∷ get_or tp 8 0 ∷ get_or tp 9 0 ∷ [])) (code_word (length tp - 10))) r tp
  filled_if zeros short bytes = by (eqb (number 0 (get_or tp 7 0 ∷ get_or tp 8 0 ∷ get_or tp 9 0 ∷ [])) (code_word (length tp - 10))) refl
    where
      by : (x : Bool) → eqb (number 0 (get_or tp 7 0 ∷ get_or tp 8 0 ∷ get_or tp 9 0 ∷ [])) (code_word (length tp - 10)) ≡ x → FilledIf x r tp
      by false f = omega arith
      by true f =
          all_fill zeros short bytes
          (sym (three_at 7 tp (omega (arith, able.size, whole))) ∙ eqb-true (number 0 (get_or tp 7 0 ∷ get_or tp 8 0 ∷ get_or tp 9 0 ∷ [])) (code_word (length tp - 10)) f)
