-- A TP in a track: what its header makes of its first call, and what of it is left then. Assumes nothing.
use Prim.Native.Nat.{ℕ, ◌+◌, ◌≤◌, ◌<◌, min}
use mathlib.Core.Path.{◌≡◌, refl, ap, sym, subst, subst⁻¹, ◌∙◌}
use mathlib.Core.Bool.{Bool, true, false, cond}
use mathlib.Core.Logic.{⊎_elim}
use mathlib.Core.List.{List, [], append-nil}
use native.Mathlib.Omega.{arith}
use lib.Dec.{eqb}
use lib.ListN.{length, take, length-take, length-append}
use borrow.Author.Tests.{eq-eqb, eqb-true, lt-ltb}
use Rattle.block.specs.Block.{Block, put}
use Rattle.listing.specs.Hearing.{nothing, then, Ends, last}
use Rattle.listing.specs.Lines.{line_of}
use Rattle.listing.specs.Tens.{Kept}
use Rattle.listing.specs.declared.Ten.{Ten}
use Rattle.receiver.specs.Call.{Gave, Gives, call_as, call_of, always, counted_of, first_call, lasts, stepped, unchanged}
use Rattle.receiver.specs.Lanes.{Drops, FirstAs, Lends, call_by, ends_in, in_lane, step_to, top_in}
use Rattle.receiver.specs.Pieces.{none_of, top_of}
use Rattle.receiver.specs.Place.{count_of, own_of, start_of}
use Rattle.receiver.specs.State.{Able}
use Rattle.receiver.specs.Tracks.{DropsWith, Kempt, PassesOver, lane_in}
use Rattle.receiver.specs.declared.Find.TheVariants as F
use Rattle.receiver.specs.declared.Receiver.{Receiver}
use Rattle.receiver.specs.declared.Stage.TheVariants.{Fresh, Plain}
use Rattle.receiver.specs.declared.Stamp.{Stamp}
use Rattle.receiver.specs.declared.Step.{Step}
use Rattle.receiver.specs.declared.entry.Top.{Top}
use Rattle.receiver.specs.declared.entry.Top.TheVariants.{Elsewhere, Says}
use Rattle.receiver.specs.declared.lane.Lane.{Lane}
use Rattle.receiver.specs.declared.lane.Lane.TheVariants as L
use Rattle.receiver.specs.declared.track.Track.{Track}
use Rattle.listing.proofs.Laws.{line_held, no_less}
use Rattle.receiver.proofs.LaneFirst.{first_as, own_first, own_later, part_counts}
use Rattle.receiver.proofs.TakingUp.{fresh_top, fresh_by, says_small}
use Rattle.list_loop.specs.Lanes.{Holds, LeavesBy, LeftAs, LeftBy, PassesBy, Steady, start_stage}
use Rattle.list_loop.specs.declared.lanes.Left.{Left}
use Rattle.list_loop.specs.declared.lanes.Left.TheVariants.{All, Done, From}
use Rattle.list_loop.specs.declared.lanes.Passed.{Passed}
use Rattle.list_loop.proofs.Alike.{ends_from, hears_from}

-- ---- what a TP's header says

pub says : (r : Receiver) (tp : List ℕ) (low : Bool) (o : ℕ) → top_in r tp ≡ Says low o → (length tp ≡ r.size) × (o < 2048)
says r tp low o e = by (eqb (length tp) r.size) refl e
  where
    by : (x : Bool) → eqb (length tp) r.size ≡ x → cond x (top_of r.stream tp) Elsewhere ≡ Says low o → (length tp ≡ r.size) × (o < 2048)
    by true q e = (eqb-true (length tp) r.size q, says_small r.stream tp low o e)
    by false q e = let z : ◌≡◌ {A = ℕ} 0 1 = cc in (omega arith, omega arith)

-- of another length or stream it is refused: 6 or 8
elsewhere_told : (b : Receiver) (k : ℕ) (l : Lane) (t : Stamp) (tp m : List ℕ) (q : Step) (m' : List ℕ) → top_in b tp ≡ Elsewhere → length m ≡ b.limit
    → Gives (call_by t (in_lane b k l Fresh 0) tp m) q tp m' → (i : ℕ) × ((q.find ≡ F.Notice i) × (i < 9))
unfolding call_as stepped
elsewhere_told b k l t tp m q m' e full g = by (eqb (length tp) b.size) refl e
  where
    r : Receiver
    r = in_lane b k l Fresh 0

    find_of_lem : (x : Gave) → call_by t r tp m ≡ x → q.find ≡ x.said.find
    find_of_lem x is = ap (λ (y : Gave). y.said.find) (g.same ∙ is)

    refused : eqb (length tp) b.size ≡ false → call_by t r tp m ≡ unchanged r t (F.Notice 6) 6 m
    refused w = rw (eq-eqb (length m) b.limit full, w) refl

    first : eqb (length tp) b.size ≡ true → call_by t r tp m ≡ first_call r (counted_of r) (always t) tp m
    first w = rw (eq-eqb (length m) b.limit full, w) refl

    by : (x : Bool) → eqb (length tp) b.size ≡ x → cond x (top_of b.stream tp) Elsewhere ≡ Elsewhere → (i : ℕ) × ((q.find ≡ F.Notice i) × (i < 9))
    by false w z = (6, (find_of_lem (unchanged r t (F.Notice 6) 6 m) (refused w), omega arith))
    by true w z =
        (8, (find_of_lem (unchanged r t (F.Notice 8) 8 m) (first w ∙ sym (fresh_top r (always t) tp m) ∙ ap (λ (x : Top). fresh_by x r (always t) tp m) z), omega arith))

-- no such number is the find's, so the first call is by the receiver's own count
module _ (b : Receiver) (k : ℕ) (l : Lane) (tp m : List ℕ) (q : Step) (m' : List ℕ) (full : length m ≡ b.limit)
    (other : (i : ℕ) → q.find ≡ F.Notice i → i < 9 → ⊥) (g : Gives (call_by (own_of (count_of k)) (in_lane b k l Fresh 0) tp m) q tp m') where
  own_gives : Gives (call_of (in_lane b k l Fresh 0) tp m) q tp m'
  own_gives =
      let here : (top_in b tp ≡ Elsewhere → ⊥) =
      λ e. (let f = elsewhere_told b k l (own_of (count_of k)) tp m q m' e full g in other f.0 f.1.0 f.1.1) in
      subst⁻¹ (λ (x : Gave). Gives x q tp m') (own_first b k l tp m here full) g

-- ---- the calls of a TP out of step that is dropped: 9 ends it, behind another number stands none

module _ (b : Receiver) (k n : ℕ) (tp m : List ℕ) (full : length m ≡ b.limit) (x : ℕ) where
  abbrev Dropped : Type 0
  Dropped = Ends tp n (in_lane b k L.Lost Fresh 0) m (line_of n (F.Notice x)) (in_lane b (count_of k) L.Lost Fresh 0) m

  abbrev own : Stamp
  own = own_of (count_of k)

  nine_ends : (x ≡ 9) × Gives (call_by own (in_lane b k L.Lost Fresh 0) tp m) (step_to (in_lane b (count_of k) L.Lost Fresh 0) (F.Notice 9) (none_of (start_of own))) tp m → Dropped
  nine_ends h =
      let q = step_to (in_lane b (count_of k) L.Lost Fresh 0) (F.Notice 9) (none_of (start_of own)) in
      let other : (i : ℕ) → q.find ≡ F.Notice i → i < 9 → ⊥ = λ i e s. (let z : i ≡ 9 = cc in omega (arith, z, s)) in
      let g = own_gives b k L.Lost tp m q m full other h.1 in
      subst⁻¹ (λ (i : ℕ). Ends tp n (in_lane b k L.Lost Fresh 0) m (line_of n (F.Notice i)) (in_lane b (count_of k) L.Lost Fresh 0) m) h.0 (last nothing g refl)

  notice_ends : Drops b (count_of k) own x (call_by own (in_lane b k L.Lost Fresh 0) tp m) tp m → Dropped
  notice_ends d =
      let q = d.step in
      let is = d.find in
      let other : (i : ℕ) → q.find ≡ F.Notice i → i < 9 → ⊥ = λ i e s. (let z : i ≡ x = cc in omega (arith, z, s, d.large)) in
      let g = own_gives b k L.Lost tp m q m full other d.gives in
      let later : call_of q.receiver tp m ≡ call_by own q.receiver tp m =
      subst⁻¹ (λ (r : Receiver). call_of r tp m ≡ call_by own r tp m) d.receiver (own_later b (count_of k) L.Lost Plain _ tp m refl) in
      let ended = subst⁻¹ (λ (y : Gave). Gives y (ends_in (in_lane b (count_of k) L.Lost Fresh 0) own) tp m) later d.ends in
      subst (λ (ls : List ℕ). Ends tp n (in_lane b k L.Lost Fresh 0) m ls (in_lane b (count_of k) L.Lost Fresh 0) m) (append-nil (line_of n q.find) ∙ ap (line_of n) is)
      (last (then nothing g (ap lasts is ∙ lt-ltb 9 x d.large)) ended refl)

  dropped_ends : DropsWith x b tp → Dropped
  dropped_ends d = ⊎_elim nine_ends notice_ends (d k own m full)

-- the line of its notice
pub told_put : (n x : ℕ) (out : List ℕ) (at : ℕ) (out' : List ℕ) (at' : ℕ) → at + 80 ≤ length out
    → ◌≡◌ {A = Block} (record { bytes = out'; at = at' }) (put out at (line_of n (F.Notice x))) → Holds out at (line_of n (F.Notice x)) out' at' × (at ≤ at')
told_put n x out at out' at' room is = (line_held n (F.Notice x) out out' at at' room is, no_less n (F.Notice x) out out' at at' room is)

-- ---- what of a TP is left

abbrev pub left_at : Left → Track → Ten → ℕ → Passed
left_at left t ten at = record { left = left; track = t; held = record { ten = ten; at = at } }

-- lines that were put behind what was held
some_lines : (a a' : ℕ) (out out' ls : List ℕ) → Holds out a ls out' a' → a < a' → a < length out → length out' ≡ length out → ls ≡ [] → ⊥
some_lines a a' out out' ls h more inside same e =
    let n : min a' (length out') ≡ min a (length out) + length ls =
    sym (length-take a' out') ∙ ap length h ∙ length-append (take a out) ls ∙ ap (λ (i : ℕ). i + length ls) (length-take a out) in
    let z : length ls ≡ 0 = ap length e in
    omega (arith, n, z, more, inside, same)

module _ (t : Track) (b : Receiver) (k n : ℕ) (tp m out : List ℕ) (at : ℕ) (full : length m ≡ b.limit) (kempt : Kempt b.limit t) where
  abbrev fresh : Receiver
  fresh = in_lane b k (lane_in t) Fresh 0

  all_left : (ten : Ten) → LeftAs (left_at All t ten at) t b (count_of k) fresh n tp m out at m out
  all_left ten = record { left = (refl, refl, refl, refl); kempt = kempt }

  done_left : (ten : Ten) (out' : List ℕ) (at' : ℕ) (ls : List ℕ) → Ends tp n fresh m ls (in_lane b (count_of k) (lane_in t) Fresh 0) m → Holds out at ls out' at'
      → LeftAs (left_at Done t ten at') t b (count_of k) fresh n tp m out at m out'
  done_left ten out' at' ls ends held =
      record { left = record { lines = ls; ends = ends; held = held }; kempt = kempt }

  -- passed over: no line
  over_left : (ten : Ten) (l : Lane) → lane_in t ≡ l → PassesOver l b tp → LeftAs (left_at Done t ten at) t b (count_of k) fresh n tp m out at m out
  over_left ten l is p =
      let q = ends_in (in_lane b (count_of k) l Fresh 0) (own_of (count_of k)) in
      let other : (i : ℕ) → q.find ≡ F.Notice i → i < 9 → ⊥ = λ i e s. (let z : ◌≡◌ {A = ℕ} 0 1 = cc in omega (arith, z)) in
      let g = own_gives b k l tp m q m full other (p k (own_of (count_of k)) m full) in
      done_left ten out at []
      (subst⁻¹ (λ (x : Lane). Ends tp n (in_lane b k x Fresh 0) m [] (in_lane b (count_of k) x Fresh 0) m) is (last nothing g refl)) (sym (append-nil (take at out)))

  -- dropped with a notice
  told_left : (ten : Ten) (x : ℕ) (out' : List ℕ) (at' : ℕ) → lane_in t ≡ L.Lost → DropsWith x b tp → Holds out at (line_of n (F.Notice x)) out' at'
      → LeftAs (left_at Done t ten at') t b (count_of k) fresh n tp m out at m out'
  told_left ten x out' at' is d held =
      done_left ten out' at' (line_of n (F.Notice x))
      (subst⁻¹ (λ (l : Lane). Ends tp n (in_lane b k l Fresh 0) m (line_of n (F.Notice x)) (in_lane b (count_of k) l Fresh 0) m) is (dropped_ends b k n tp m full x d)) held

  -- its first call is that at its payload's start
  module _ (able : Able b) (low : Bool) (o : ℕ) (e : top_in b tp ≡ Says low o) where
    first_alike : call_of (in_lane b (count_of k) (lane_in t) (start_stage low o) 4) tp m ≡ call_of fresh tp m
    first_alike =
        let own = own_of (count_of k) in
        let here : (top_in b tp ≡ Elsewhere → ⊥) = λ z. (let y : ◌≡◌ {A = ℕ} 0 1 = cc in omega (arith, y)) in
        own_later b (count_of k) (lane_in t) (start_stage low o) 4 tp m (part_counts low o (count_of k))
        ∙ subst (λ (x : Top). FirstAs x b k (lane_in t) own (call_by own fresh tp m) tp m) e (first_as b k (lane_in t) own tp m able.size full kempt.tidy)
        ∙ sym (own_first b k (lane_in t) tp m here full)

    says_left : (q : Passed) (s : Stamp) (m' out' : List ℕ) → s ≡ own_of (count_of k) → at < length out → length out' ≡ length out
        → LeavesBy q t s (start_stage low o) 4 n tp m out at m' out' → LeftAs q t b (count_of k) fresh n tp m out at m' out'
    says_left q s m' out' own inside same v =
        let w = (says b tp low o e).0 in
        let lent : Lends b 4 tp m = record { size = able.size; whole = w; full = full; within = omega (arith, w, able.size) } in
        let h = v b (count_of k) lent own kempt in
        record { left = by q.left h.left; kempt = h.kempt }
      where
        by : (l : Left) → LeftBy l q t b (count_of k) (in_lane b (count_of k) (lane_in t) (start_stage low o) 4) n tp m out at m' out' → LeftBy l q t b (count_of k) fresh n tp m out at m' out'
        by All h = h
        by Done h = record { lines = h.lines; ends = ends_from first_alike h.ends; held = h.held }
        by (From g i) h =
            let d = h.0 in
            (record { lines = d.lines; hears = hears_from first_alike d.hears (some_lines at q.held.at out out' d.lines d.held h.1 inside same); held = d.held; able = d.able }, h.1)

pub steady_left : (q : Passed) (left : Left) (t : Track) (ten : Ten) (at at' : ℕ) → q ≡ left_at left t ten at' → Kept ten → at ≤ at' → t.sort ≤ 3 → Steady q at
steady_left q left t ten at at' is kept more sort = subst⁻¹ (λ (x : Passed). Steady x at) is (record { ten = kept; at = more; sort = sort })

module _ (q : Passed) (t : Track) (b : Receiver) (s : Stamp) (n : ℕ) (tp m out : List ℕ) (at : ℕ) where
  passes : (z : Passed) (m' out' : List ℕ) → q ≡ z → PassesBy z t b s n tp m out at m' out' → PassesBy q t b s n tp m out at m' out'
  passes z m' out' is h = subst⁻¹ (λ (x : Passed). PassesBy x t b s n tp m out at m' out') is h

  pub passes_all : (ten : Ten) → q ≡ left_at All t ten at → PassesBy q t b s n tp m out at m out
  passes_all ten is = passes (left_at All t ten at) m out is (λ k own y f. all_left t b k n tp m out at f y ten)

  pub passes_over : (ten : Ten) (l : Lane) → q ≡ left_at Done t ten at → lane_in t ≡ l → PassesOver l b tp → PassesBy q t b s n tp m out at m out
  passes_over ten l is same p = passes (left_at Done t ten at) m out is (λ k own y f. over_left t b k n tp m out at f y ten l same p)

  pub passes_told : (ten : Ten) (x : ℕ) (out' : List ℕ) (at' : ℕ) → q ≡ left_at Done t ten at' → lane_in t ≡ L.Lost → DropsWith x b tp → Holds out at (line_of n (F.Notice x)) out' at'
      → PassesBy q t b s n tp m out at m out'
  passes_told ten x out' at' is same d held = passes (left_at Done t ten at') m out' is (λ k own y f. told_left t b k n tp m out at f y ten x out' at' same d held)

  pub passes_says : (low : Bool) (o : ℕ) (m' out' : List ℕ) → Able b → top_in b tp ≡ Says low o → at < length out → length out' ≡ length out
      → LeavesBy q t s (start_stage low o) 4 n tp m out at m' out' → PassesBy q t b s n tp m out at m' out'
  passes_says low o m' out' able e inside same v = λ k own y f. says_left t b k n tp m out at f y able low o e q s m' out' own inside same v
