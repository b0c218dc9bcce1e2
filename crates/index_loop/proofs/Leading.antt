-- In lanes, what is met leads on by calls: the steps from a TP's header to what of it is left, each a call's or the equation with the call that
-- follows. Assumes nothing.
use Prim.Native.Nat.{ℕ, ◌≤◌, ◌<◌}
use mathlib.Core.Path.{◌≡◌, refl, ap, sym, subst, subst⁻¹, ◌∙◌}
use mathlib.Core.Bool.{Bool, true, false, cond}
use mathlib.Core.List.{List, []}
use native.Mathlib.Omega.{arith}
use lib.Dec.{ltb}
use lib.ListN.{length}
use borrow.Author.Tests.{lt-ltb, le-ltb}
use Rattle.block.specs.Block.{Block, put}
use Rattle.block.proofs.Laws as Block
use Rattle.indexing.specs.Lines.{find_text, new_text}
use Rattle.receiver.specs.Call.{Gives, lasts}
use Rattle.receiver.specs.Lanes.{Tidy, Lends, Drops, FirstAs, LowAs, MetAs, call_by, ends_in, in_lane, step_to, top_in}
use Rattle.receiver.specs.Lows.{lows_of}
use Rattle.receiver.specs.Pieces.{none_of}
use Rattle.receiver.specs.Place.{count_of, start_of}
use Rattle.receiver.specs.declared.Find.{Find}
use Rattle.receiver.specs.declared.Find.TheVariants.{Notice}
use Rattle.receiver.specs.declared.Place.{Place}
use Rattle.receiver.specs.declared.Receiver.{Receiver}
use Rattle.receiver.specs.declared.Stage.TheVariants.{Fresh, Low, Due, Plain}
use Rattle.receiver.specs.declared.Stamp.{Stamp}
use Rattle.receiver.specs.declared.Step.{Step}
use Rattle.receiver.specs.declared.entry.Top.{Top}
use Rattle.receiver.specs.declared.entry.Top.TheVariants.{Dropped, Says}
use Rattle.receiver.specs.declared.lane.Lane.{Lane}
use Rattle.receiver.specs.declared.lane.Lane.TheVariants as L
use Rattle.receiver.specs.declared.lane.Met.{Met}
use Rattle.receiver.specs.declared.lane.Met.TheVariants as M
use Rattle.receiver.specs.declared.low.Lows.{Lows}
use Rattle.receiver.specs.declared.low.Lows.TheVariants as W
use Rattle.receiver.proofs.LaneFirst.{first_as, low_as}
use Rattle.index_loop.specs.declared.Task.TheVariants.{Index}
use Rattle.index_loop.specs.declared.lanes.Left.{Left}
use Rattle.index_loop.specs.declared.lanes.Left.TheVariants.{Nothing, All, From}
use Rattle.index_loop.specs.declared.lanes.Noted.{Noted}
use Rattle.index_loop.specs.declared.lanes.Part.{Part}
use Rattle.index_loop.specs.declared.lanes.Part.TheVariants.{Within, Broken, Behind}
use Rattle.std.specs.declared.ops.ControlFlow.{ControlFlow}
use Rattle.std.specs.declared.ops.ControlFlow.TheVariants.{Continue, Break}
use Rattle.index_loop.specs.Lanes.{met_text, low_text, Looked, SetOut, LeftBy, PartBy, BegunBy, start_stage, way_by, plain_at, part_by}
use Rattle.index_loop.specs.Walking.{Ends, Pauses, block_of, puts}
use Rattle.index_loop.proofs.Hearing.{pauses_none, pauses_as, pauses_then, pauses_last, pauses_on, pauses_ends}
use Rattle.index_loop.proofs.Passing.{Lent, lends_on}

-- ---- a find that has no line

no_line : (covered n : ℕ) (p : Place) (f : Find) → find_text p f ≡ [] → new_text covered n p f ≡ []
no_line covered n p f e = go (ltb n covered)
  where
    go : (x : Bool) → cond x [] (find_text p f) ≡ []
    go true = refl
    go false = e

same_block : (covered : ℕ) (t : Stamp) (tp : List ℕ) (q : Step) (m : List ℕ) (o : Block) → find_text q.about.at q.find ≡ [] → puts (Index covered) t tp q m o ≡ o
same_block covered t tp q m o e = ap (put o.bytes o.at) (no_line covered t.number q.about.at q.find e) ∙ sym (Block.nothing o.bytes o.at)

module _ (covered : ℕ) (t : Stamp) (tp : List ℕ) (b : Receiver) (k : ℕ) (r : Receiver) (m : List ℕ) (o : Block) where
  -- none
  ends_so : (r' : Receiver) (m' : List ℕ) (o' : Block) (x : Receiver) (m'' : List ℕ) → Pauses (Index covered) t tp r m o r' m' o' → Gives (call_by t r' tp m') (ends_in x t) tp m''
      → Ends (Index covered) t tp r m o x m'' o'
  ends_so r' m' o' x m'' p g =
      subst (Ends (Index covered) t tp r m o x m'') (same_block covered t tp (ends_in x t) m'' o' refl) (pauses_last p g refl)

  -- a loss of step
  drops_so : (r' : Receiver) (m' : List ℕ) (o' : Block) (n : ℕ) → Pauses (Index covered) t tp r m o r' m' o' → Drops b k t n (call_by t r' tp m') tp m'
      → Ends (Index covered) t tp r m o (in_lane b k L.Lost Fresh 0) m' o'
  drops_so r' m' o' n p d =
      let q = d.step in
      let told = pauses_then p d.gives (ap lasts d.find ∙ lt-ltb 9 n d.large) in
      subst (Ends (Index covered) t tp r m o (in_lane b k L.Lost Fresh 0) m') (same_block covered t tp q m' o' (ap (find_text q.about.at) d.find))
      (ends_so q.receiver m' (puts (Index covered) t tp q m' o') (in_lane b k L.Lost Fresh 0) m' told d.ends)

  -- ---- what is met

  abbrev WayBy : ControlFlow Left ℕ → List ℕ → Block → Type 0
  WayBy (Continue i) m' o' = Pauses (Index covered) t tp r m o (in_lane b k L.Idle Plain i) m' o'
  WayBy (Break l) m' o' = LeftBy covered t tp b k r m o l m' o'

  pub by_met : (q : Met) (here : Left) (r' : Receiver) (m' m'' : List ℕ) (o' o'' : Block) → Pauses (Index covered) t tp r m o r' m' o' → LeftBy covered t tp b k r m o here m' o'
      → MetAs q b k t (call_by t r' tp m') tp m' m'' → o'' ≡ put o'.bytes o'.at (met_text covered t.number q) → WayBy (way_by q here) m'' o''
  by_met M.Other here r' m' m'' o' o'' p h a e =
      subst⁻¹ (λ (x : List ℕ). LeftBy covered t tp b k r m o here x o'') a (subst⁻¹ (LeftBy covered t tp b k r m o here m') (e ∙ sym (Block.nothing o'.bytes o'.at)) h)
  by_met (M.Drops n) here r' m' m'' o' o'' p h a e =
      subst⁻¹ (λ (x : List ℕ). Ends (Index covered) t tp r m o (in_lane b k L.Lost Fresh 0) x o'') a.0
      (subst⁻¹ (Ends (Index covered) t tp r m o (in_lane b k L.Lost Fresh 0) m') (e ∙ sym (Block.nothing o'.bytes o'.at)) (drops_so r' m' o' n p a.1))
  by_met (M.Ends l) here r' m' m'' o' o'' p h a e =
      subst⁻¹ (Ends (Index covered) t tp r m o (in_lane b k l Fresh 0) m'') (e ∙ sym (Block.nothing o'.bytes o'.at)) (ends_so r' m' o' (in_lane b k l Fresh 0) m'' p a.0)
  by_met (M.Reads i) here r' m' m'' o' o'' p h a e =
      subst⁻¹ (λ (x : List ℕ). Pauses (Index covered) t tp r m o (in_lane b k L.Idle Plain i) x o'') a.0
      (subst⁻¹ (Pauses (Index covered) t tp r m o (in_lane b k L.Idle Plain i) m') (e ∙ sym (Block.nothing o'.bytes o'.at)) (pauses_as p a.2))
  by_met (M.Gives c f g n i) here r' m' m'' o' o'' p h a e =
      subst⁻¹ (Pauses (Index covered) t tp r m o (in_lane b k L.Idle Plain i) m'') e (pauses_then p a.0 refl)

  -- behind calls, what is left by those that follow
  pub left_on : (r' : Receiver) (m' : List ℕ) (o' : Block) (x : Left) (m'' : List ℕ) (o'' : Block) → Pauses (Index covered) t tp r m o r' m' o'
      → LeftBy covered t tp b k r' m' o' x m'' o'' → LeftBy covered t tp b k r m o x m'' o''
  left_on r' m' o' (Nothing l) m'' o'' p h = pauses_ends p h
  left_on r' m' o' All m'' o'' p h = h
  left_on r' m' o' (From l s i) m'' o'' p h = pauses_on p h

-- ---- between two EPs

-- from EP to EP, from this place on to that
abbrev pub Ran : ℕ → Stamp → ℕ → List ℕ → List ℕ → List ℕ → ℕ → ℕ → List ℕ → List ℕ → ℕ → Type 0
Ran covered t begin tp m₀ out₀ held at m out n =
    (b : Receiver) (k : ℕ) → Lends b begin tp m₀ → Pauses (Index covered) t tp (in_lane b k L.Idle Plain begin) m₀ (block_of out₀ held) (in_lane b k L.Idle Plain at) m (block_of out n)

-- what is left then
abbrev pub RanTo : ℕ → Stamp → ℕ → List ℕ → List ℕ → List ℕ → ℕ → Left → List ℕ → List ℕ → ℕ → Type 0
RanTo covered t begin tp m₀ out₀ held l m out n =
    (b : Receiver) (k : ℕ) → Lends b begin tp m₀ → LeftBy covered t tp b k (in_lane b k L.Idle Plain begin) m₀ (block_of out₀ held) l m (block_of out n)

module _ (covered : ℕ) (t : Stamp) (begin : ℕ) (tp m₀ out₀ : List ℕ) (held at : ℕ) (m out : List ℕ) (n : ℕ) (r : Noted) (m' out' : List ℕ) (here : Left) (w : ControlFlow Left ℕ)
    (lent : Lent begin tp m₀ at m) (ran : Ran covered t begin tp m₀ out₀ held at m out n) (a : Looked covered at t tp m out n r m' out') (h : here ≡ plain_at at)
    (is : w ≡ way_by r.met here) where
  way_ran : (b : Receiver) (k : ℕ) → Lends b begin tp m₀ → WayBy covered t tp b k (in_lane b k L.Idle Plain begin) m₀ (block_of out₀ held) w m' (block_of out' r.at)
  way_ran b k d =
      let p = ran b k d in
      subst⁻¹ (λ (x : ControlFlow Left ℕ). WayBy covered t tp b k (in_lane b k L.Idle Plain begin) m₀ (block_of out₀ held) x m' (block_of out' r.at)) (is ∙ ap (way_by r.met) h)
      (by_met covered t tp b k (in_lane b k L.Idle Plain begin) m₀ (block_of out₀ held) r.met (plain_at at) (in_lane b k L.Idle Plain at) m m' (block_of out n) (block_of out' r.at) p p (a.met b k (lent b d)) a.text)

  pub ran_on : (i : ℕ) → w ≡ Continue i → Ran covered t begin tp m₀ out₀ held i m' out' r.at
  ran_on i g b k d =
      subst (λ (x : ControlFlow Left ℕ). WayBy covered t tp b k (in_lane b k L.Idle Plain begin) m₀ (block_of out₀ held) x m' (block_of out' r.at)) g (way_ran b k d)

  pub ran_off : (l : Left) → w ≡ Break l → RanTo covered t begin tp m₀ out₀ held l m' out' r.at
  ran_off l g b k d =
      subst (λ (x : ControlFlow Left ℕ). WayBy covered t tp b k (in_lane b k L.Idle Plain begin) m₀ (block_of out₀ held) x m' (block_of out' r.at)) g (way_ran b k d)

-- ---- behind the low-latency part

-- from a lane with this offset, at this place
abbrev pub OutTo : ℕ → Stamp → Lane → ℕ → ℕ → List ℕ → List ℕ → List ℕ → ℕ → Left → List ℕ → List ℕ → ℕ → Type 0
OutTo covered t l o at tp m out held x m' out' n =
    (b : Receiver) (k : ℕ) → Lends b at tp m → LeftBy covered t tp b k (in_lane b k l (Due o) at) m (block_of out held) x m' (block_of out' n)

module _ (covered : ℕ) (t : Stamp) (l : Lane) (o at : ℕ) (tp m out : List ℕ) (held : ℕ) (r : Noted) (m' out' : List ℕ) (w : ControlFlow Left ℕ) (four : 4 ≤ at) (small : o < 2048)
    (a : SetOut covered l o at t tp m out held r m' out') (is : w ≡ way_by r.met (From l (Due o) at)) where
  way_out : (b : Receiver) (k : ℕ) → Lends b at tp m → WayBy covered t tp b k (in_lane b k l (Due o) at) m (block_of out held) w m' (block_of out' r.at)
  way_out b k d =
      subst⁻¹ (λ (x : ControlFlow Left ℕ). WayBy covered t tp b k (in_lane b k l (Due o) at) m (block_of out held) x m' (block_of out' r.at)) is
      (by_met covered t tp b k (in_lane b k l (Due o) at) m (block_of out held) r.met (From l (Due o) at) (in_lane b k l (Due o) at) m m' (block_of out held) (block_of out' r.at) pauses_none pauses_none (a.met b k t d four small) a.text)

  pub out_off : (x : Left) → w ≡ Break x → OutTo covered t l o at tp m out held x m' out' r.at
  out_off x g b k d = subst (λ (y : ControlFlow Left ℕ). WayBy covered t tp b k (in_lane b k l (Due o) at) m (block_of out held) y m' (block_of out' r.at)) g (way_out b k d)

  pub out_on : (i : ℕ) (x : Left) (m'' out'' : List ℕ) (n : ℕ) → w ≡ Continue i → Lent at tp m i m' → RanTo covered t i tp m' out' r.at x m'' out'' n
      → OutTo covered t l o at tp m out held x m'' out'' n
  out_on i x m'' out'' n g lent ran b k d =
      left_on covered t tp b k (in_lane b k l (Due o) at) m (block_of out held) (in_lane b k L.Idle Plain i) m' (block_of out' r.at) x m'' (block_of out'' n)
      (subst (λ (y : ControlFlow Left ℕ). WayBy covered t tp b k (in_lane b k l (Due o) at) m (block_of out held) y m' (block_of out' r.at)) g (way_out b k d)) (ran b k (lent b d))

-- ---- the low-latency part

-- whatever receiver lends this TP, in a lane, with an offset: from place 4 on to this
abbrev pub RanLow : ℕ → Stamp → List ℕ → List ℕ → ℕ → ℕ → List ℕ → ℕ → Type 0
RanLow covered t tp out₀ held at out n =
    (b : Receiver) (k : ℕ) (l : Lane) (o : ℕ) (m : List ℕ) → Lends b 4 tp m → Tidy b.limit l → o < 2048
    → Pauses (Index covered) t tp (in_lane b k l (Low o) 4) m (block_of out₀ held) (in_lane b k l (Low o) at) m (block_of out n)

abbrev pub PartTo : ℕ → Stamp → Bool → List ℕ → List ℕ → ℕ → Part → List ℕ → ℕ → Type 0
PartTo covered t low tp out held p out' n =
    (b : Receiver) (k : ℕ) (l : Lane) (o : ℕ) (m : List ℕ) → Lends b 4 tp m → Tidy b.limit l → o < 2048
    → PartBy covered t tp b k l o (in_lane b k l (start_stage low o) 4) m (block_of out held) p (block_of out' n)

-- there is one, or none
pub part_of_none : (covered : ℕ) (t : Stamp) (low : Bool) (tp out : List ℕ) (held : ℕ) → low ≡ false → PartTo covered t low tp out held (Behind 4) out held
part_of_none covered t low tp out held e b k l o m d y s =
    subst⁻¹ (λ (x : Bool). PartBy covered t tp b k l o (in_lane b k l (start_stage x o) 4) m (block_of out held) (Behind 4) (block_of out held)) e pauses_none

module _ (covered : ℕ) (t : Stamp) (tp out₀ : List ℕ) (held at : ℕ) (out : List ℕ) (n : ℕ) (w : Lows) (out' : List ℕ) (n' : ℕ) (p : Part) (four : 4 ≤ at) (inside : at ≤ length tp)
    (ran : RanLow covered t tp out₀ held at out n) (is : w ≡ lows_of tp at) (text : block_of out' n' ≡ put out n (low_text covered t w)) (part : p ≡ part_by w) where
  module _ (b : Receiver) (k : ℕ) (l : Lane) (o : ℕ) (m : List ℕ) (d : Lends b 4 tp m) (y : Tidy b.limit l) (s : o < 2048) where
    abbrev By : Part → Block → Type 0
    By = PartBy covered t tp b k l o (in_lane b k l (Low o) 4) m (block_of out₀ held)

    abbrev here : Receiver
    here = in_lane b k l (Low o) at

    open_end : (more : Bool) (i : ℕ) (x : Block) → Pauses (Index covered) t tp (in_lane b k l (Low o) 4) m (block_of out₀ held) (in_lane b k l (cond more (Low o) (Due o)) i) m x
        → By (cond more (Within i) (Behind i)) x
    open_end true i x h = h
    open_end false i x h = h

    by_low : (z : Lows) → LowAs z b k l o t (call_by t here tp m) tp m → block_of out' n' ≡ put out n (low_text covered t z) → By (part_by z) (block_of out' n')
    by_low (W.Broken i) a e =
        subst⁻¹ (By Broken) (e ∙ sym (Block.nothing out n)) (drops_so covered t tp b k (in_lane b k l (Low o) 4) m (block_of out₀ held) here m (block_of out n) 11 (ran b k l o m d y s) a)
    by_low (W.End i) a e = subst⁻¹ (By (Behind i)) (e ∙ sym (Block.nothing out n)) (pauses_as (ran b k l o m d y s) a)
    by_low (W.Gives f c i more end) a e =
        open_end more end (block_of out' n')
        (subst⁻¹ (Pauses (Index covered) t tp (in_lane b k l (Low o) 4) m (block_of out₀ held) (in_lane b k l (cond more (Low o) (Due o)) end) m) e (pauses_then (ran b k l o m d y s) a.0 a.1))

  part_on : PartTo covered t true tp out₀ held p out' n'
  part_on b k l o m d y s =
      let lent = lends_on b 4 at tp m m d refl (omega (arith, inside, d.whole)) in
      subst⁻¹ (λ (z : Part). PartBy covered t tp b k l o (in_lane b k l (Low o) 4) m (block_of out₀ held) z (block_of out' n')) part
      (by_low b k l o m d y s w (subst⁻¹ (λ (z : Lows). LowAs z b k l o t (call_by t (in_lane b k l (Low o) at) tp m) tp m) is (low_as b k l o at t tp m lent y four s)) text)

  pub ran_low : (i : ℕ) → p ≡ Within i → RanLow covered t tp out₀ held i out' n'
  ran_low i g b k l o m d y s = subst (λ (z : Part). PartBy covered t tp b k l o (in_lane b k l (Low o) 4) m (block_of out₀ held) z (block_of out' n')) g (part_on b k l o m d y s)

  pub part_then : (low : Bool) → low ≡ true → PartTo covered t low tp out₀ held p out' n'
  part_then low e = subst⁻¹ (λ (x : Bool). PartTo covered t x tp out₀ held p out' n') e part_on

-- ---- the payload

-- from its start, in a lane with this offset
abbrev pub PayloadTo : ℕ → Stamp → Lane → Bool → ℕ → List ℕ → List ℕ → List ℕ → ℕ → Left → List ℕ → List ℕ → ℕ → Type 0
PayloadTo covered t l low o tp m out held x m' out' n =
    (b : Receiver) (k : ℕ) → Lends b 4 tp m → LeftBy covered t tp b k (in_lane b k l (start_stage low o) 4) m (block_of out held) x m' (block_of out' n)

module _ (covered : ℕ) (t : Stamp) (l : Lane) (low : Bool) (o : ℕ) (tp m out : List ℕ) (held : ℕ) (p : Part) (out' : List ℕ) (n : ℕ) (tidy : Tidy (length m) l) (small : o < 2048)
    (parted : PartTo covered t low tp out held p out' n) where
  part_by_lem : (q : Part) → p ≡ q → (b : Receiver) (k : ℕ) → Lends b 4 tp m → PartBy covered t tp b k l o (in_lane b k l (start_stage low o) 4) m (block_of out held) q (block_of out' n)
  part_by_lem q e b k d =
      subst (λ (z : Part). PartBy covered t tp b k l o (in_lane b k l (start_stage low o) 4) m (block_of out held) z (block_of out' n)) e
      (parted b k l o m d (subst (λ (i : ℕ). Tidy i l) d.full tidy) small)

  pub within_left : (i : ℕ) → p ≡ Within i → PayloadTo covered t l low o tp m out held (From l (Low o) i) m out' n
  within_left i e b k d = part_by_lem (Within i) e b k d

  pub broken_left : p ≡ Broken → PayloadTo covered t l low o tp m out held (Nothing L.Lost) m out' n
  broken_left e b k d = part_by_lem Broken e b k d

  pub behind_left : (i : ℕ) (x : Left) (m'' out'' : List ℕ) (n'' : ℕ) → p ≡ Behind i → Lent 4 tp m i m → OutTo covered t l o i tp m out' n x m'' out'' n''
      → PayloadTo covered t l low o tp m out held x m'' out'' n''
  behind_left i x m'' out'' n'' e lent v b k d =
      left_on covered t tp b k (in_lane b k l (start_stage low o) 4) m (block_of out held) (in_lane b k l (Due o) i) m (block_of out' n) x m'' (block_of out'' n'')
      (part_by_lem (Behind i) e b k d) (v b k (lent b d))

-- ---- a TP, by what its header says

module _ (covered : ℕ) (t : Stamp) (l : Lane) (b : Receiver) (tp m out : List ℕ) (held : ℕ) (size : 16 ≤ b.size) (full : length m ≡ b.limit) (tidy : Tidy b.limit l) where
  abbrev pub BegunTo : Left → List ℕ → List ℕ → ℕ → Type 0
  BegunTo x m' out' n = (k : ℕ) → BegunBy covered t tp b (count_of k) (in_lane b k l Fresh 0) m (block_of out held) x m' (block_of out' n)

  first_by_lem : (q : Top) (k : ℕ) → top_in b tp ≡ q → FirstAs q b k l t (call_by t (in_lane b k l Fresh 0) tp m) tp m
  first_by_lem q k e = subst (λ (x : Top). FirstAs x b k l t (call_by t (in_lane b k l Fresh 0) tp m) tp m) e (first_as b k l t tp m size full tidy)

  -- "TP dropped"
  pub dropped_left : (n : ℕ) → top_in b tp ≡ Dropped n → BegunTo (Nothing L.Lost) m out held
  dropped_left n e k =
      let f = first_by_lem (Dropped n) k e in
      subst (Ends (Index covered) t tp (in_lane b k l Fresh 0) m (block_of out held) (in_lane b (count_of k) L.Lost Fresh 0) m)
      (same_block covered t tp (step_to (in_lane b (count_of k) L.Lost Fresh 0) (Notice n) (none_of (start_of t))) m (block_of out held) refl)
      (pauses_last pauses_none f.0 (le-ltb 9 n f.1))

  begun : (k : ℕ) (x : Left) (m' : List ℕ) (o : Block) → LeftBy covered t tp b (count_of k) (in_lane b k l Fresh 0) m (block_of out held) x m' o
      → BegunBy covered t tp b (count_of k) (in_lane b k l Fresh 0) m (block_of out held) x m' o
  begun k (Nothing z) m' o h = h
  begun k All m' o h = absurd (omega (arith, h))
  begun k (From z s i) m' o h = h

  pub says_left : (low : Bool) (o : ℕ) (x : Left) (m' out' : List ℕ) (n : ℕ) → top_in b tp ≡ Says low o → Lends b 4 tp m → PayloadTo covered t l low o tp m out held x m' out' n → BegunTo x m' out' n
  says_left low o x m' out' n e d v k =
      begun k x m' (block_of out' n)
      (left_on covered t tp b (count_of k) (in_lane b k l Fresh 0) m (block_of out held) (in_lane b (count_of k) l (start_stage low o) 4) m (block_of out held) x m' (block_of out' n)
      (pauses_as pauses_none (first_by_lem (Says low o) k e)) (v b (count_of k) d))
