-- ANY NUMBER OF TPS AND TOLD GAPS, from a fresh TP on: the finds of all calls are those that the definitions list.
-- Assumes nothing.
use mathlib.Core.Path.{ap, refl, sym, ◌∙◌, ◌≡◌}
use mathlib.Core.Bool.{Bool, cond, false, true}
use mathlib.Core.List.{List, [], ◌++◌, ◌∷◌}
use Prim.Native.Nat.{ℕ}
use lib.Dec.{eqb, ltb}
use lib.ListN.{length}
use borrow.Author.Tests.{eqb-false, eqb-true}
use Rattle.std.specs.Prelude.{Some, None}
use Rattle.receiver.specs.declared.Receiver.{Receiver}
use Rattle.receiver.specs.declared.Stage.{Stage}
use Rattle.receiver.specs.declared.Step.{Step}
use Rattle.receiver.specs.declared.stages.Stamps.{Stamps}
use Rattle.receiver.specs.Call.{Answered, Gave, Gives, OpenedAs, call_as, count_in, fresh_of, gap_of, outside, stamps_of, stepped}
use Rattle.receiver.specs.Frame.{lost}
use Rattle.receiver.specs.Join.{Finding, free}
use Rattle.receiver.specs.Low.{wire}
use Rattle.receiver.specs.Place.{own_of}
use Rattle.receiver.specs.State.{Able}
use Rattle.receiver.specs.Tp.{Input, Listing, Setting, Stand, count_after, gap_told, listing_all, listing_of, stamping_of, tp_in}
use Rattle.receiver.proofs.Called.{Calls, gave_room, last, more, own_steady, six_rest, told_on, told_over, whole_tp}
use Rattle.receiver.proofs.Ending.{six_tells_as, tells_as}
use Rattle.receiver.proofs.Lasting.{first_count, lasts_as, later_count}
use Rattle.receiver.proofs.Rest.{before, standing}
use Rattle.receiver.proofs.Whole.{setting_of, stand_of}
use Rattle.receiver.specs.declared.Stage.TheVariants as S

-- what the calls of one TP leave
pub record Leaves (r r' : Receiver) (m m' : List ℕ) : Type 0 where
  pub able : Able r'
  pub fresh : r'.stage ≡ S.Fresh
  pub setting : setting_of r' ≡ setting_of r
  pub room : length m' ≡ length m

module _ (r : Receiver) (n : Stamps) (tp m : List ℕ) (q : Step) (m' : List ℕ) (g : Gives (call_as r n tp m) q tp m') where
  same_setting : setting_of q.receiver ≡ setting_of r
  unfolding stepped
  same_setting =
      let l = lasts_as r n tp m in
      let a : q.receiver.size ≡ r.size = ap (λ (g : Gave). g.size) g.same ∙ l.size in
      let b : q.receiver.stream ≡ r.stream = ap (λ (g : Gave). g.stream) g.same ∙ l.stream in
      let c : q.receiver.limit ≡ r.limit = ap (λ (g : Gave). g.limit) g.same ∙ l.limit in
      ap (λ (n : ℕ). record { size = n; stream = q.receiver.stream; room = q.receiver.limit }) a
      ∙ ap (λ (n : ℕ). record { size = r.size; stream = n; room = q.receiver.limit }) b
      ∙ ap (λ (n : ℕ). record { size = r.size; stream = r.stream; room = n }) c

  -- the count
  counted_first : r.stage ≡ S.Fresh → length m ≡ r.limit → q.receiver.count ≡ count_after (setting_of r) r.count (tp_in tp)
  unfolding stepped
  counted_first e f = ap (λ (g : Gave). g.count) g.same ∙ first_count r n tp m e f

  counted_later : (r.stage ≡ S.Fresh → ⊥) → q.receiver.count ≡ r.count
  unfolding stepped
  counted_later d = ap (λ (g : Gave). g.count) g.same ∙ later_count r n tp m d

calls_leave : {by : Receiver → Stamps} {tp : List ℕ} {r : Receiver} {m : List ℕ} {fs : List (Finding wire)} {r' : Receiver} {m' : List ℕ} → Calls by tp r m fs r' m'
    → length m ≡ r.limit → length tp ≡ r.size → Leaves r r' m m'
calls_leave {by} {tp} {r} {m} (last {q = q} {m' = m'} g e) f w = record {
  able = g.able;
  fresh = told_over r (by r) tp m q m' g (tells_as r (by r) tp m f w) e;
  setting = same_setting r (by r) tp m q m' g;
  room = gave_room r (by r) tp m q m' g;
}
calls_leave {by} {tp} {r} {m} (more {q = q} {m' = m'} g n c) f w =
    let s = same_setting r (by r) tp m q m' g in
    let k = gave_room r (by r) tp m q m' g in
    let l = calls_leave c (k ∙ f ∙ sym (ap (λ (s : Setting). s.room) s)) (w ∙ sym (ap (λ (s : Setting). s.size) s)) in
    record { able = l.able; fresh = l.fresh; setting = l.setting ∙ s; room = l.room ∙ k }

six_leave : {by : Receiver → Stamps} {r : Receiver} {tp m : List ℕ} {fs : List (Finding wire)} {r' : Receiver} {m' : List ℕ} → Calls by tp r m fs r' m'
    → r.stage ≡ S.Fresh → length m ≡ r.limit → (length tp ≡ r.size → ⊥) → Leaves r r' m m'
unfolding stepped
six_leave {by} {r} {tp} {m} (last {q = q} {m' = m'} g e) z f w = record {
  able = g.able;
  fresh = told_over r (by r) tp m q m' g (six_tells_as r (by r) tp m f w z) e;
  setting = same_setting r (by r) tp m q m' g;
  room = gave_room r (by r) tp m q m' g;
}
six_leave {by} {r} {tp} {m} (more {q = q} {m' = m'} g n c) z f w =
    absurd (n (told_on r (by r) tp m q m' g (six_tells_as r (by r) tp m f w z) (ap (λ (g : Gave). g.stage) g.same ∙ (six_rest r (by r) tp m z f w).1)))

pub tp_leaves : {by : Receiver → Stamps} {r : Receiver} {tp m : List ℕ} {fs : List (Finding wire)} {r' : Receiver} {m' : List ℕ} → Calls by tp r m fs r' m'
    → r.stage ≡ S.Fresh → length m ≡ r.limit → Leaves r r' m m'
tp_leaves {by} {r} {tp} {m} {fs} {r'} {m'} c e f = go (eqb (length tp) r.size) refl
  where
    go : (b : Bool) → eqb (length tp) r.size ≡ b → Leaves r r' m m'
    go true w = calls_leave c f (eqb-true (length tp) r.size w)
    go false w = six_leave c e f (eqb-false (length tp) r.size w)

-- THE COUNT: "The count rises at a TP's first call only"
within_counts : {by : Receiver → Stamps} {tp : List ℕ} {r : Receiver} {m : List ℕ} {fs : List (Finding wire)} {r' : Receiver} {m' : List ℕ} → Calls by tp r m fs r' m'
    → (r.stage ≡ S.Fresh → ⊥) → length m ≡ r.limit → length tp ≡ r.size → r'.count ≡ r.count
within_counts {by} {tp} {r} {m} (last {q = q} {m' = m'} g e) d f w = counted_later r (by r) tp m q m' g d
within_counts {by} {tp} {r} {m} (more {q = q} {m' = m'} g n c) d f w =
    let s = same_setting r (by r) tp m q m' g in
    within_counts c (λ e. n (told_on r (by r) tp m q m' g (tells_as r (by r) tp m f w) e)) (gave_room r (by r) tp m q m' g ∙ f ∙ sym (ap (λ (s : Setting). s.room) s))
    (w ∙ sym (ap (λ (s : Setting). s.size) s))
    ∙ counted_later r (by r) tp m q m' g d

pub tp_counts : {by : Receiver → Stamps} {r : Receiver} {tp m : List ℕ} {fs : List (Finding wire)} {r' : Receiver} {m' : List ℕ} → Calls by tp r m fs r' m'
    → r.stage ≡ S.Fresh → length m ≡ r.limit → r'.count ≡ count_after (setting_of r) r.count (tp_in tp)
unfolding stepped
tp_counts {by} {r} {tp} {m} (last {q = q} {m' = m'} g e) z f = counted_first r (by r) tp m q m' g z f
tp_counts {by} {r} {tp} {m} {fs} {r'} (more {q = q} {m' = m'} g n c) z f = go (eqb (length tp) r.size) refl
  where
    s : setting_of q.receiver ≡ setting_of r
    s = same_setting r (by r) tp m q m' g

    go : (b : Bool) → eqb (length tp) r.size ≡ b → r'.count ≡ count_after (setting_of r) r.count (tp_in tp)
    go true x =
        let w = eqb-true (length tp) r.size x in
        within_counts c (λ e. n (told_on r (by r) tp m q m' g (tells_as r (by r) tp m f w) e)) (gave_room r (by r) tp m q m' g ∙ f ∙ sym (ap (λ (s : Setting). s.room) s))
        (w ∙ sym (ap (λ (s : Setting). s.size) s))
        ∙ counted_first r (by r) tp m q m' g z f
    go false x =
        let w = eqb-false (length tp) r.size x in
        absurd (n (told_on r (by r) tp m q m' g (six_tells_as r (by r) tp m f w z) (ap (λ (g : Gave). g.stage) g.same ∙ (six_rest r (by r) tp m z f w).1)))

-- a life of the receiver: TPs, each called until it ends, and told gaps; with all finds
pub data Life : Receiver → List ℕ → List Input → List (Finding wire) → Receiver → List ℕ → Type 0 where
  over : {r : Receiver} {m : List ℕ} → Life r m [] [] r m
  tp_on : {r : Receiver} {m tp : List ℕ} {fs : List (Finding wire)} {r' : Receiver} {m' : List ℕ} {xs : List Input} {gs : List (Finding wire)} {r'' : Receiver} {m'' : List ℕ}
      → Calls stamps_of tp r m fs r' m' → Life r' m' xs gs r'' m'' → Life r m (tp_in tp ∷ xs) (fs ++ gs) r'' m''
  gap_on : {r q : Receiver} {m : List ℕ} {xs : List Input} {gs : List (Finding wire)} {r'' : Receiver} {m'' : List ℕ}
      → (q ≡ gap_of r) × Able q → Life q m xs gs r'' m'' → Life r m (gap_told ∷ xs) gs r'' m''

-- between two TPs, the stamps of the next one are those of the count
pub own_stamps : (r : Receiver) → r.stage ≡ S.Fresh → stamps_of r ≡ stamping_of r.count
own_stamps r e = ap (λ (g : Stage). record { before = own_of r.count; now = own_of (count_in g r.count) }) e

-- LISTENING
pub listening : {r : Receiver} {m : List ℕ} {xs : List Input} {fs : List (Finding wire)} {r' : Receiver} {m' : List ℕ} → Life r m xs fs r' m'
    → Able r → r.stage ≡ S.Fresh → length m ≡ r.limit → listing_all (setting_of r) r.count (stand_of r m) xs ≡ (fs, stand_of r' m')
listening over a e f = refl
listening {r} {m} (tp_on {tp = tp} {fs = fs} {r' = r'} {m' = m'} {xs = xs} c l) a e f =
    let w : listing_of (setting_of r) (stamping_of r.count) (stand_of r m) (tp_in tp) ≡ (fs, stand_of r' m') =
    ap (λ (n : Stamps). listing_of (setting_of r) n (stand_of r m) (tp_in tp)) (sym (own_stamps r e)) ∙ whole_tp c own_steady a e f in
    let v = tp_leaves c e f in
    let k : length m' ≡ r'.limit = v.room ∙ f ∙ sym (ap (λ (s : Setting). s.room) v.setting) in
    let n = count_after (setting_of r) r.count (tp_in tp) in
    ap (λ (x : Listing). (x.0 ++ (listing_all (setting_of r) n x.1 xs).0, (listing_all (setting_of r) n x.1 xs).1)) w
    ∙ ap (λ (n : ℕ). before fs (listing_all (setting_of r) n (stand_of r' m') xs)) (sym (tp_counts c e f))
    ∙ ap (λ (s : Setting). before fs (listing_all s r'.count (stand_of r' m') xs)) (sym v.setting)
    ∙ ap (before fs) (listening l v.able v.fresh k)
listening {r} {m} (gap_on {q = q} {xs = xs} g l) a e f =
    let s : stand_of q m ≡ standing lost free = ap (λ (q : Receiver). stand_of q m) g.0 in
    let t : setting_of q ≡ setting_of r = ap setting_of g.0 in
    let n : q.count ≡ r.count = ap (λ (q : Receiver). q.count) g.0 in
    let k : length m ≡ q.limit = f ∙ sym (ap (λ (s : Setting). s.room) t) in
    let z : q.stage ≡ S.Fresh = ap (λ (q : Receiver). q.stage) g.0 in
    ap (λ (x : Stand). listing_all (setting_of r) r.count x xs) (sym s)
    ∙ ap (λ (n : ℕ). listing_all (setting_of r) n (stand_of q m) xs) (sym n)
    ∙ ap (λ (x : Setting). listing_all x q.count (stand_of q m) xs) (sym t)
    ∙ listening l g.1 z k

-- what is opened is fresh
pub opened_fresh : (size stream limit : ℕ) (r : Receiver) → OpenedAs size stream limit (Some r) → r ≡ fresh_of size stream limit 0
opened_fresh size stream limit r o =
    by (ltb size 16) (ltb 2051 size) (ltb 15 stream) (ltb 131072 limit) (ap (λ (x : Answered). x.opened) o.same)
  where
    by : (a b c d : Bool) → Some r ≡ (cond a outside (cond b outside (cond c outside (cond d outside (record { opened = Some (fresh_of size stream limit 0); number = None }))))).opened
        → r ≡ fresh_of size stream limit 0
    by true b c d e = cc
    by false true c d e = cc
    by false false true d e = cc
    by false false false true e = cc
    by false false false false e = cc

-- from an opening on
pub opening_listed : (size stream : ℕ) (m : List ℕ) (r : Receiver) {xs : List Input} {fs : List (Finding wire)} {r' : Receiver} {m' : List ℕ}
    → OpenedAs size stream (length m) (Some r) → Life r m xs fs r' m'
    → listing_all (record { size = size; stream = stream; room = length m }) 0 (standing lost free) xs ≡ (fs, stand_of r' m')
opening_listed size stream m r {xs} {fs} {r'} {m'} o l =
    let e = opened_fresh size stream (length m) r o in
    let s : setting_of r ≡ record { size = size; stream = stream; room = length m } = ap setting_of e in
    let t : stand_of r m ≡ standing lost free = ap (λ (r : Receiver). stand_of r m) e in
    let n : r.count ≡ 0 = ap (λ (r : Receiver). r.count) e in
    ap (λ (x : Setting). listing_all x 0 (standing lost free) xs) (sym s)
    ∙ ap (λ (x : Stand). listing_all (setting_of r) 0 x xs) (sym t)
    ∙ ap (λ (n : ℕ). listing_all (setting_of r) n (stand_of r m) xs) (sym n)
    ∙ listening l o.able (ap (λ (r : Receiver). r.stage) e) (sym (ap (λ (r : Receiver). r.limit) e))

pub from_opening : (size stream : ℕ) (m : List ℕ) (r : Receiver) {xs : List Input} {fs : List (Finding wire)} {r' : Receiver} {m' : List ℕ}
    → OpenedAs size stream (length m) (Some r) → Life r m xs fs r' m'
    → (listing_all (record { size = size; stream = stream; room = length m }) 0 (standing lost free) xs).0 ≡ fs
from_opening size stream m r o l = ap (λ (x : Listing). x.0) (opening_listed size stream m r o l)

-- a life leaves a receiver that can be called, between two TPs
rests : {r : Receiver} {m : List ℕ} {xs : List Input} {fs : List (Finding wire)} {r' : Receiver} {m' : List ℕ} → Life r m xs fs r' m'
    → Able r → r.stage ≡ S.Fresh → length m ≡ r.limit → Able r' × (r'.stage ≡ S.Fresh)
rests over a e f = (a, e)
rests {r} {m} (tp_on {r' = r'} {m' = m'} c l) a e f =
    let v = tp_leaves c e f in
    rests l v.able v.fresh (v.room ∙ f ∙ sym (ap (λ (s : Setting). s.room) v.setting))
rests {r} {m} (gap_on {q = q} g l) a e f =
    rests l g.1 (ap (λ (q : Receiver). q.stage) g.0) (f ∙ sym (ap (λ (q : Receiver). q.limit) g.0))

pub life_rests : (size stream : ℕ) (m : List ℕ) (r : Receiver) {xs : List Input} {fs : List (Finding wire)} {r' : Receiver} {m' : List ℕ}
    → OpenedAs size stream (length m) (Some r) → Life r m xs fs r' m' → Able r' × (r'.stage ≡ S.Fresh)
life_rests size stream m r o l =
    let e = opened_fresh size stream (length m) r o in
    rests l o.able (ap (λ (r : Receiver). r.stage) e) (sym (ap (λ (r : Receiver). r.limit) e))
