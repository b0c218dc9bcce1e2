-- A TP that one call is done with: no EP begins in it, out of step; fill takes all of it, between two EPs; or all of it is data of the EP under
-- way. The call says none, and one TP more is counted. Assumes nothing.
use mathlib.Core.Path.{◌≡◌, refl, sym, subst, ap, ◌∙◌}
use mathlib.Core.Bool.{Bool, true, false}
use mathlib.Core.List.{List, [], ◌∷◌}
use Prim.Native.Nat.{ℕ, ◌+◌, ◌-◌, ◌%◌, ◌/◌, ◌^◌, ◌≤◌, ◌<◌, min}
use native.Mathlib.Omega.{arith}
use lib.Dec.{eqb, leb, lit<}
use lib.ListN.{drop, get_or, length, length-drop, take}
use lib.Seq.{drop-drop, get_or-drop, take-add}
use borrow.Author.Tests.{eq-eqb, eqb-true, le-ltb, lt-leb}
use Rattle.std.specs.Prelude.{Ok, Some, None, Option}
use Rattle.digits.specs.Digits.{number}
use Rattle.digits.proofs.Laws.{number_append}
use Rattle.golay.specs.Golay.{chosen, code_word, distance}
use Rattle.queue.specs.Ring.{copied}
use Rattle.wire.specs.declared.Header.{Header}
use Rattle.wire.specs.Reading.{header_in, stream_of, tp_number_in, version_of}
use Rattle.wire.specs.Wire.{first_number}
use Rattle.wire.proofs.Laws.{code_lt, header_back, header_flips, near_itself, no_start, number_back}
use Rattle.receiver.specs.declared.Place.{Place}
use Rattle.receiver.specs.declared.Receiver.{Receiver}
use Rattle.receiver.specs.declared.Stage.{Stage}
use Rattle.receiver.specs.declared.Stage.TheVariants.{Fresh}
use Rattle.receiver.specs.declared.entry.Top.TheVariants.{Says}
use Rattle.receiver.specs.declared.kind.Kind.TheVariants.{Fill}
use Rattle.receiver.specs.declared.outset.Fore.TheVariants.{At, Off}
use Rattle.receiver.specs.declared.stages.Course.TheVariants as C
use Rattle.receiver.specs.declared.walk.Gain.TheVariants.{Nothing}
use Rattle.receiver.specs.declared.walk.Kept.{Kept}
use Rattle.receiver.specs.declared.walk.Phase.{Phase}
use Rattle.receiver.specs.declared.walk.Phase.TheVariants.{Lost, Head, Judged, Body}
use Rattle.receiver.specs.declared.walk.Walk.{Walk}
use Rattle.receiver.specs.Call.{Gives, call_of, count_in, counted_of, stage_call, stamps_of, stepped, walk_to}
use Rattle.receiver.specs.InOutset.{ahead_of}
use Rattle.receiver.specs.InOver.{FillIf, FillsAll, Startless, StartlessIf, Void, VoidIf, six_of, word_at}
use Rattle.receiver.specs.InStages.{Leads}
use Rattle.receiver.specs.InStride.{EpAt, Skips, between}
use Rattle.receiver.specs.InSwift.{Lent, made_of}
use Rattle.receiver.specs.InWalk.{Carries, Ends, pasted, room_of}
use Rattle.receiver.specs.Lanes.{ends_in}
use Rattle.receiver.specs.Outset.{fore_of, place_of, upon_of}
use Rattle.receiver.specs.Over.{DataIf, InData, Keeping, LeftOver, OverIf, less_by, over_of, put_of, taken_of}
use Rattle.receiver.specs.Pieces.{top_of}
use Rattle.receiver.specs.Place.{count_of, own_of, place_at}
use Rattle.receiver.specs.State.{Able, Fine, Sound, kept_by}
use Rattle.receiver.specs.Turns.{advance_of, body_turn, grown_by, walk_at}
use Rattle.receiver.proofs.Advancing.{body_cut}
use Rattle.receiver.proofs.Bodies.{advance_carries, lost_turned, room_length}
use Rattle.receiver.proofs.Foretelling.{ahead_fore, body_fore}
use Rattle.receiver.proofs.Gather.{put_is}
use Rattle.receiver.proofs.Heading.{Bytes}
use Rattle.receiver.proofs.LaneAhead.{cut_ends}
use Rattle.receiver.proofs.SettingOut.{set_by}
use Rattle.receiver.proofs.Standing.{fill_kind}
use Rattle.receiver.proofs.Striding.{fill_skips}
use Rattle.receiver.proofs.Swiftly.{fresh_by_lem, fresh_leads, reads_gives}

-- ---- a receiver before a TP of its length

module _ (r : Receiver) (tp : List ℕ) (able : Able r) (whole : length tp ≡ r.size) (s : r.stage ≡ Fresh) where
  abbrev lent : Lent r tp
  lent = record { able = able; whole = whole }

  -- the course that its call takes
  abbrev Takes : Walk → Type 0
  Takes x = Leads (stage_call r.stage r (counted_of r) (stamps_of r) tp) (counted_of r) (stamps_of r).now tp (C.Reads x)

  -- none
  told : (m m' : List ℕ) → length m ≡ r.limit → length m' ≡ length m → (x : Walk) (j : ℕ) (p : Phase) (g : Place) (k : Option Kept) → Takes x
      → Ends (length m) (stamps_of r).now x tp m (record { walk = walk_at j p g k; gain = Nothing }) m'
      → Gives (call_of r tp m) (ends_in (made_of r (count_of r.count) Fresh (walk_at 0 p g k)) (own_of (count_of r.count))) tp m'
  told m m' full same x j p g k l e =
      subst (λ (n : ℕ). Gives (call_of r tp m) (ends_in (made_of r n Fresh (walk_at 0 p g k)) (own_of n)) tp m') (ap (λ (x : Stage). count_in x r.count) s)
      (reads_gives r tp lent m m' tp full same x (record { walk = walk_at j p g k; gain = Nothing }) l e)

  walk_is : (i : ℕ) (p : Phase) (k : Option Kept) → r.walk.phase ≡ p → r.walk.kept ≡ k → walk_at i p r.walk.began k ≡ walk_to r i
  walk_is i p k e f = ap (λ (x : Phase). walk_at i x r.walk.began k) (sym e) ∙ ap (λ (x : Option Kept). walk_at i r.walk.phase r.walk.began x) (sym f)

  module _ (m : List ℕ) (full : length m ≡ r.limit) where
    lost_over : r.walk.phase ≡ Lost → r.walk.kept ≡ None → top_of r.stream tp ≡ Says false 2047
        → Gives (call_of r tp m) (ends_in (over_of r) (own_of (count_of r.count))) tp m
    unfolding fore_of place_of upon_of Carries
    lost_over e f top =
        let size = able.size in
        let n = length tp - 4 in
        let g = r.walk.began in
        let fore : fore_of r.walk.phase (drop 4 tp) ≡ Off = ap (λ (p : Phase). fore_of p (drop 4 tp)) e in
        let x : Walk = record { at = 4 + n; phase = upon_of (4 + n) (length tp); began = g; kept = r.walk.kept } in
        let l = fresh_by_lem r tp lent n 2047 x s top refl (set_by (walk_to (counted_of r) 4) n tp Off fore) in
        let y : upon_of (4 + n) (length tp) ≡ Lost = rw (le-ltb (4 + n) (length tp) (omega arith)) in
        let v = walk_at (4 + n) Lost g None in
        let u : x ≡ v = ap (λ (p : Phase). walk_at (4 + n) p g r.walk.kept) y ∙ ap (walk_at (4 + n) Lost g) f in
        let h = lost_turned (length m) (stamps_of r).now tp m v (record { at = omega arith; phase = omega arith }) refl in
        subst (λ (w : Walk). Gives (call_of r tp m) (ends_in (made_of r (count_of r.count) Fresh w) (own_of (count_of r.count))) tp m) (walk_is 0 Lost None e f)
        (told m m full refl v (length tp) Lost g None (subst Takes u l) h)

    -- nobody looks at where the last EP began
    fill_over : r.walk.phase ≡ Head 0 0 → r.walk.kept ≡ None → top_of r.stream tp ≡ Says false 0 → Bytes tp → Skips tp 4 (length tp)
        → Gives (call_of r tp m) (ends_in (over_of r) (own_of (count_of r.count))) tp m
    unfolding ahead_of place_of stepped
    fill_over e f top bytes skips =
        let size = able.size in
        let g = r.walk.began in
        let fore : fore_of (Head 0 0) (drop 4 tp) ≡ At 0 = sym (ahead_fore tp 4 0 0 (omega arith) (omega arith) (omega arith)) in
        let place : place_of 0 4 (length tp) ≡ Ok 0 = rw (lt-leb (length tp) 4 (omega arith)) in
        let l = fresh_leads r tp lent 0 s (record { offset = 0; top = top; place = place }) (ap (λ (p : Phase). fore_of p (drop 4 tp)) e ∙ fore) in
        let t = (stamps_of r).now in
        let d = cut_ends 4 (length tp) t tp m bytes skips g 0 (omega arith) (omega arith) in
        let q = told m m full refl (between 4 g None) (length tp + 0) (Head 0 0) (place_at t (length tp)) None (subst Takes (sym (walk_is 4 (Head 0 0) None e f)) l) d in
        subst (λ (w : Walk). Gives (call_of r tp m) (ends_in (made_of r (count_of r.count) Fresh w) (own_of (count_of r.count))) tp m) (walk_is 0 (Head 0 0) None e f)
        (record { same = q.same; able = record { size = able.size; walk = record { at = omega arith; phase = q.able.walk.phase }; stage = q.able.stage } })

    data_taken : (h : Header) (left c e : ℕ) (g : Place) (len : ℕ) → r.walk.phase ≡ Body h left → r.walk.kept ≡ kept_by c e g len → length tp - 4 < left
        → top_of r.stream tp ≡ Says false 2047 → Bytes tp
        → Gives (call_of r tp m) (ends_in (taken_of r (length tp - 4)) (own_of (count_of r.count))) tp (put_of r tp m)
    unfolding place_of Carries advance_of room_of
    data_taken h left c e g len p k more top bytes =
        let size = able.size in
        let n = length tp - 4 in
        let t = (stamps_of r).now in
        let b = r.walk.began in
        let x = walk_at 4 (Body h left) b (kept_by c e g len) in
        let least : min left n ≡ n = omega arith in
        let fore : fore_of r.walk.phase (drop 4 tp) ≡ At n =
        ap (λ (q : Phase). fore_of q (drop 4 tp)) p ∙ sym (body_fore h left n (drop 4 tp) (length-drop 4 tp)) ∙ ap At least in
        let l = fresh_leads r tp lent n s (record { offset = 2047; top = top; place = refl }) fore in
        let fine : Fine r.limit (Body h left) (kept_by c e g len) = rw (p, k) at able.walk.phase in
        let sound : Sound (length m) (length tp) x = record { at = omega arith; phase = rw full fine } in
        let put = pasted (kept_by c e g len) m (drop 4 tp) n in
        let same : length put ≡ length m = rw least at (room_length (length m) x tp m refl sound) in
        let carried : Carries (length m) t x tp m (body_turn tp 4 h left b (kept_by c e g len)) put = rw least at (advance_carries (length m) t tp m refl bytes x sound) in
        let d = rw (sym (body_cut tp 4 left h b (kept_by c e g len) more)) at carried in
        let q = told m put full same x (4 + n) (Body h (left - n)) b (kept_by c e g (len + n)) (subst Takes (sym (walk_is 4 (Body h left) (kept_by c e g len) p k)) l) d in
        subst (λ (y : Phase). Gives (call_of r tp m) (ends_in (made_of r (count_of r.count) Fresh (walk_at 0 (less_by n y) b (grown_by n r.walk.kept))) (own_of (count_of r.count))) tp (put_of r tp m)) (sym p)
        (subst (λ (y : Option Kept). Gives (call_of r tp m) (ends_in (made_of r (count_of r.count) Fresh (walk_at 0 (Body h (left - n)) b (grown_by n y))) (own_of (count_of r.count))) tp (pasted y m (drop 4 tp) n)) (sym k) q)

-- ---- the words of a TP that is all fill

pub three_at : (at : ℕ) (tp : List ℕ) → at + 3 ≤ length tp → number 0 (get_or tp (at + 0) 0 ∷ get_or tp (at + 1) 0 ∷ get_or tp (at + 2) 0 ∷ []) ≡ word_at at tp
three_at at tp l =
    rw (← get_or-drop at tp 0 0, ← get_or-drop at tp 1 0, ← get_or-drop at tp 2 0) (first (drop at tp) (omega (arith, length-drop at tp)))
  where
    first : (l : List ℕ) → 3 ≤ length l → number 0 (get_or l 0 0 ∷ get_or l 1 0 ∷ get_or l 2 0 ∷ []) ≡ number 0 (take 3 l)
    first [] h = absurd (omega arith)
    first (a ∷ []) h = absurd (omega arith)
    first (a ∷ b ∷ []) h = absurd (omega arith)
    first (a ∷ b ∷ c ∷ l) h = refl

near_zero : distance 0 (code_word 0) ≤ 3
unfolding code_word chosen
near_zero = near_itself 0

module _ (tp : List ℕ) (long : 10 ≤ length tp) (zeros : six_of tp ≡ 0) where
  zero_word : (i : ℕ) → i + 3 ≤ length tp → get_or tp (i + 0) 0 ≡ 0 → get_or tp (i + 1) 0 ≡ 0 → get_or tp (i + 2) 0 ≡ 0 → word_at i tp ≡ 0
  zero_word i l a b c = sym (three_at i tp l) ∙ rw (a, b, c) refl

  -- no low-latency part, and an EP begins at once
  pub starts_at_once : tp_number_in (word_at 1 tp) ≡ Some 0
  unfolding tp_number_in
  starts_at_once =
      rw (zero_word 1 (omega arith) (omega (arith, zeros)) (omega (arith, zeros)) (omega (arith, zeros))) (number_back 0 0 (lit< tt) near_zero)

  module _ (short : length tp - 10 ≤ 4095) (size : word_at 7 tp ≡ code_word (length tp - 10)) where
    abbrev n : ℕ
    n = length tp - 10

    abbrev w : ℕ
    w = number 0 (take 6 (drop 4 tp))

    word_is : w ≡ code_word n
    word_is =
        ap (number 0) (take-add 3 3 (drop 4 tp)) ∙ number_append 0 (take 3 (drop 4 tp)) (take 3 (drop 3 (drop 4 tp)))
        ∙ ap (λ (l : List ℕ). number (word_at 4 tp) (take 3 l)) (drop-drop 3 4 tp)
        ∙ ap (λ (k : ℕ). number k (take 3 (drop 7 tp))) (zero_word 4 (omega arith) (omega (arith, zeros)) (omega (arith, zeros)) (omega (arith, zeros)))
        ∙ size

    fill_header : header_in w ≡ Some (record { content = 0; fragment = 0; size = n; flips = header_flips 0 0 n w })
    unfolding first_number
    fill_header =
        let small = code_lt n in
        let upper : w / 2 ^ 24 % 2 ^ 24 ≡ 0 = omega (arith, word_is) in
        let lower : w % 2 ^ 24 ≡ code_word n = omega (arith, word_is) in
        let none : first_number 0 0 n ≡ 0 = omega arith in
        let all : n % 4096 ≡ n = omega arith in
        header_back 0 0 n (lit< tt) (lit< tt) (omega arith) w (rw (upper, none) near_zero) (rw (lower, all) (near_itself (code_word n)))

    pub fill_all : Bytes tp → Skips tp 4 (length tp)
    fill_all bytes =
        let h : Header = record { content = 0; fragment = 0; size = n; flips = header_flips 0 0 n w } in
        let e : EpAt Fill tp 4 h = record { stands = record { six = omega arith; read = fill_header }; kind = fill_kind h refl } in
        fill_skips tp bytes 4 (length tp) h e (omega arith) (omega arith)

-- ---- the answers

pub fill_if : (p : Phase) (n w : ℕ) (tp : List ℕ) → p ≡ Head n w → n ≡ 0 → 10 ≤ length tp → length tp - 10 ≤ 4095
    → FillIf (eqb (number 0 (get_or tp 7 0 ∷ get_or tp 8 0 ∷ get_or tp 9 0 ∷ [])) (code_word (length tp - 10))) p tp
fill_if p n w tp e z long short = by (eqb (number 0 (get_or tp 7 0 ∷ get_or tp 8 0 ∷ get_or tp 9 0 ∷ [])) (code_word (length tp - 10))) refl
  where
    by : (x : Bool) → eqb (number 0 (get_or tp 7 0 ∷ get_or tp 8 0 ∷ get_or tp 9 0 ∷ [])) (code_word (length tp - 10)) ≡ x → FillIf x p tp
    by false f = omega arith
    by true f =
        subst (λ (q : Phase). FillsAll q tp) (sym e)
        (z, short, sym (three_at 7 tp (omega arith)) ∙ eqb-true (number 0 (get_or tp 7 0 ∷ get_or tp 8 0 ∷ get_or tp 9 0 ∷ [])) (code_word (length tp - 10)) f)

pub startless_if : (p : Phase) (tp : List ℕ) → p ≡ Lost → StartlessIf (eqb (word_at 1 tp) (code_word 2047)) p tp
startless_if p tp e = by (eqb (word_at 1 tp) (code_word 2047)) refl
  where
    by : (x : Bool) → eqb (word_at 1 tp) (code_word 2047) ≡ x → StartlessIf x p tp
    by false f = omega arith
    by true f = subst (λ (q : Phase). Startless q tp) (sym e) (eqb-true (word_at 1 tp) (code_word 2047) f)

pub fill_void : (x : Bool) (p : Phase) (tp : List ℕ) → six_of tp ≡ 0 → FillIf x p tp → VoidIf x p tp
fill_void false p tp z f = omega arith
fill_void true p tp z f = by p f
  where
    by : (p : Phase) → FillsAll p tp → Void p tp
    by Lost f = absurd (omega (arith, f))
    by (Head n w) f = (z, f)
    by (Judged h) f = f
    by (Body h n) f = f

pub startless_void : (x : Bool) (p : Phase) (tp : List ℕ) → StartlessIf x p tp → VoidIf x p tp
startless_void false p tp f = omega arith
startless_void true p tp f = by p f
  where
    by : (p : Phase) → Startless p tp → Void p tp
    by Lost f = f
    by (Head n w) f = absurd (omega (arith, f))
    by (Judged h) f = f
    by (Body h n) f = f

-- what a TP's header says whose version is 0
says : (stream : ℕ) (tp : List ℕ) (w : ℕ) → stream_of (get_or tp 0 0) ≡ stream → eqb (version_of (get_or tp 0 0)) 0 ≡ true → tp_number_in (word_at 1 tp) ≡ Some w
    → top_of stream tp ≡ Says (leb 2048 w) (w % 2048)
unfolding top_of
says stream tp w e v f = rw (eq-eqb (stream_of (get_or tp 0 0)) stream e, v, f) refl

pub over_if : (r : Receiver) (tp : List ℕ) (room : ℕ) (x : Bool) → Able r → Bytes tp → 10 ≤ length tp → VoidIf x r.walk.phase tp → x ≡ true
    → r.stage ≡ Fresh → r.walk.kept ≡ None → length tp ≡ r.size → room ≡ r.limit → stream_of (get_or tp 0 0) ≡ r.stream
    → OverIf (eqb (version_of (get_or tp 0 0)) 0) r tp room
over_if r tp room x able bytes long void told-so s k whole full stream = by (eqb (version_of (get_or tp 0 0)) 0) refl
  where
    in_phase : (p : Phase) → r.walk.phase ≡ p → Void p tp → eqb (version_of (get_or tp 0 0)) 0 ≡ true → (m : List ℕ) → length m ≡ r.limit
        → Gives (call_of r tp m) (ends_in (over_of r) (own_of (count_of r.count))) tp m
    in_phase Lost e v zero m f = lost_over r tp able whole s m f e k (says r.stream tp 2047 stream zero (no_start (word_at 1 tp) v))
    in_phase (Head n w) e v zero m f =
        let a : (n ≤ 5) × (w < 256 ^ n) × (0 ≤ 0) = rw (e, k) at able.walk.phase in
        let b : w < 256 ^ 0 = subst (λ (i : ℕ). w < 256 ^ i) v.1.0 a.1 in
        let z : w ≡ 0 = omega (arith, b) in
        fill_over r tp able whole s m f (e ∙ ap (λ (i : ℕ). Head i w) v.1.0 ∙ ap (Head 0) z) k (says r.stream tp 0 stream zero (starts_at_once tp long v.0)) bytes
        (fill_all tp long v.0 v.1.1 v.1.2 bytes)
    in_phase (Judged h) e v zero m f = absurd (omega (arith, v))
    in_phase (Body h n) e v zero m f = absurd (omega (arith, v))

    by : (y : Bool) → eqb (version_of (get_or tp 0 0)) 0 ≡ y → OverIf y r tp room
    by false e = omega arith
    by true e = (full, λ m f. in_phase r.walk.phase refl (subst (λ (y : Bool). VoidIf y r.walk.phase tp) told-so void) e m (f ∙ full))

pub data_if : (r : Receiver) (tp : List ℕ) (room : ℕ) (h : Header) (left c e : ℕ) (g : Place) (len : ℕ) → Able r → Bytes tp → 10 ≤ length tp
    → r.walk.phase ≡ Body h left → r.walk.kept ≡ kept_by c e g len → length tp - 4 < left → eqb (word_at 1 tp) (code_word 2047) ≡ true
    → r.stage ≡ Fresh → length tp ≡ r.size → room ≡ r.limit → stream_of (get_or tp 0 0) ≡ r.stream → DataIf (eqb (version_of (get_or tp 0 0)) 0) r tp room
data_if r tp room h left c e g len able bytes long p k more said s whole full stream = by (eqb (version_of (get_or tp 0 0)) 0) refl
  where
    by : (y : Bool) → eqb (version_of (get_or tp 0 0)) 0 ≡ y → DataIf y r tp room
    by false z = omega arith
    by true z = (
      full,
      record { payload = omega arith; more = subst (LeftOver (length tp - 4)) (sym p) more; kept = subst Keeping (sym k) (omega arith) },
      λ m f. data_taken r tp able whole s m (f ∙ full) h left c e g len p k more (says r.stream tp 2047 stream z (no_start (word_at 1 tp) (eqb-true (word_at 1 tp) (code_word 2047) said))) bytes,
    )

-- ---- data that are taken

module _ (r : Receiver) (tp m : List ℕ) (able : Able r) (full : length m ≡ r.limit) (i : InData r (length tp)) where
  pub has_left : ((h : Header) (left : ℕ) → r.walk.phase ≡ Body h left → ⊥) → ⊥
  has_left = by r.walk.phase i.more
    where
      by : (p : Phase) → LeftOver (length tp - 4) p → ((h : Header) (left : ℕ) → p ≡ Body h left → ⊥) → ⊥
      by Lost l o = omega (arith, l)
      by (Head n w) l o = omega (arith, l)
      by (Judged h) l o = omega (arith, l)
      by (Body h left) l o = o h left refl

  pub has_kept : r.walk.kept ≡ None → ⊥
  has_kept e = let l = subst Keeping e i.kept in omega (arith, l)

  module _ (h : Header) (left c e : ℕ) (g : Place) (len : ℕ) (p : r.walk.phase ≡ Body h left) (k : r.walk.kept ≡ kept_by c e g len) where
    pub taken_less : length tp - 4 < left
    taken_less = subst (LeftOver (length tp - 4)) p i.more

    pub taken_fits : len + left ≤ length m
    taken_fits = let f : len + left ≤ r.limit = rw (p, k) at able.walk.phase in omega (arith, full, f)

    pub taken_is : (n count : ℕ) → count ≡ count_of r.count → made_of r count Fresh (walk_at 0 (Body h (left - n)) r.walk.began (kept_by c e g (len + n))) ≡ taken_of r n
    taken_is n count q =
        rw q (ap (λ (q : Phase). made_of r (count_of r.count) Fresh (walk_at 0 (less_by n q) r.walk.began (kept_by c e g (len + n)))) (sym p)
        ∙ ap (λ (q : Option Kept). made_of r (count_of r.count) Fresh (walk_at 0 (less_by n r.walk.phase) r.walk.began (grown_by n q))) (sym k))

    pub taken_put : (m' : List ℕ) → m' ≡ copied m len (take (length tp - 4) (drop 4 tp)) → m' ≡ put_of r tp m
    taken_put m' q =
        let a = i.payload in
        let z : length tp - 4 ≡ 4 + (length tp - 4) - 4 = omega arith in
        put_is tp 4 (length tp - 4) c e g len r.walk.kept m m' k (omega arith) (omega (arith, taken_fits, taken_less)) (q ∙ ap (λ (j : ℕ). copied m len (take j (drop 4 tp))) z)

-- ---- what a yes tells

module _ (r : Receiver) (tp : List ℕ) (answer : Bool) (is : answer ≡ true) where
  pub over_gives : (m : List ℕ) → OverIf answer r tp (length m) → Gives (call_of r tp m) (ends_in (over_of r) (own_of (count_of r.count))) tp m
  over_gives m o = (subst (λ (x : Bool). OverIf x r tp (length m)) is o).1 m refl

  module _ (m : List ℕ) (d : DataIf answer r tp (length m)) where
    yes_data : DataIf true r tp (length m)
    yes_data = subst (λ (x : Bool). DataIf x r tp (length m)) is d

    -- what `receiver::over::taken` asks for
    pub data_asked : Able r → Able r × (length m ≡ r.limit) × InData r (length tp)
    data_asked able = (able, yes_data.0, yes_data.1)

    pub data_gives : Gives (call_of r tp m) (ends_in (taken_of r (length tp - 4)) (own_of (count_of r.count))) tp (put_of r tp m)
    data_gives = yes_data.2 m refl

    pub data_able : (q : Receiver) → q ≡ taken_of r (length tp - 4) → Able q
    data_able q e = subst Able (sym e) data_gives.able
