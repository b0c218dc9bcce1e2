-- THE CALLS: whatever keeps the promises of `receiver::next_as`, `receiver::gap` and `receiver::pending`, called over records with their
-- stamps, each TP until it ends, finds what the definitions of the index say. Assumes nothing.
use Prim.Native.Nat.{ℕ, zero, suc, ◌-◌, ◌/◌, ◌%◌, ◌<◌}
use mathlib.Core.Path.{◌≡◌, refl, sym, ap, ◌∙◌, subst}
use mathlib.Core.Bool.{Bool, cond}
use mathlib.Core.List.{List, [], ◌∷◌, ◌++◌, map}
use native.Mathlib.Omega.{arith}
use lib.ListN.{length, take, drop}
use borrow.Author.Tests.{ne_eqb}
use Rattle.std.specs.Prelude.{Option, None, Some}
use Rattle.digits.specs.Digits.{digits}
use Rattle.wire.specs.declared.Header.{Header}
use Rattle.receiver.specs.declared.Place.{Place}
use Rattle.receiver.specs.declared.Receiver.{Receiver}
use Rattle.receiver.specs.declared.Stage.{Stage}
use Rattle.receiver.specs.declared.Stage.TheVariants as S
use Rattle.receiver.specs.declared.Stamp.{Stamp}
use Rattle.receiver.specs.declared.walk.Kept.{Kept}
use Rattle.receiver.specs.declared.walk.Phase.{Phase}
use Rattle.receiver.specs.declared.walk.Phase.TheVariants.{Lost, Head, Judged, Body}
use Rattle.receiver.specs.Join.{Finding}
use Rattle.receiver.specs.Low.{wire}
use Rattle.receiver.specs.Call as C
use Rattle.receiver.specs.Call.{OpenedAs, always, fresh_of, gap_of, pending_of}
use Rattle.receiver.specs.State.{Able, Settled, Staged, headed, frame_of, held_of}
use Rattle.receiver.specs.Tp.{Setting, Stand, Listing, Input, tp_in, gap_told}
use Rattle.receiver.proofs.Called.{Calls, whole_tp, stamped_steady}
use Rattle.receiver.proofs.Listening.{tp_leaves, opened_fresh}
use Rattle.receiver.proofs.Whole.{setting_of, stand_of}
use Rattle.indexed.specs.Index.{start_stamp, behind, behind_all, fresh, record_of, lines_of, stand_at, under_way, unfinished, stamp_in, since_of, index_of, new_lines, new_since}
use Rattle.indexed.specs.Loop.{stamp_by}
use Rattle.indexed.specs.Packets.{Packet, handed, chosen, first}
use Rattle.indexed.specs.Statements.{handed_all, handed_out, line_by, sought}
use Rattle.indexed.proofs.Gives.{handed_append}
use Rattle.indexed.proofs.Records.{lines_are}
use Rattle.indexed.proofs.FromLine.{from_line}

-- the calls over records, the first of them with this stamp: their finds, and what they leave of receiver and room
pub data Reads : Stamp → Receiver → List ℕ → List Input → List (Finding wire) → Receiver → List ℕ → Type 0 where
  over : {p : Stamp} {r : Receiver} {m : List ℕ} → Reads p r m [] [] r m
  tp_on : {p : Stamp} {r : Receiver} {m tp : List ℕ} {fs : List (Finding wire)} {r' : Receiver} {m' : List ℕ} {xs : List Input} {gs : List (Finding wire)} {r'' : Receiver} {m'' : List ℕ}
      → Calls (λ q. always p) tp r m fs r' m' → Reads (behind p (tp_in tp)) r' m' xs gs r'' m'' → Reads p r m (tp_in tp ∷ xs) (fs ++ gs) r'' m''
  gap_on : {p : Stamp} {r q : Receiver} {m : List ℕ} {xs : List Input} {gs : List (Finding wire)} {r'' : Receiver} {m'' : List ℕ}
      → (q ≡ gap_of r) × Able q → Reads (behind p gap_told) q m xs gs r'' m'' → Reads p r m (gap_told ∷ xs) gs r'' m''

-- between two TPs, with the room of the opening
pub record ReadyFor (s : Setting) (r : Receiver) (m : List ℕ) : Type 0 where
  pub able : Able r
  pub stage : r.stage ≡ S.Fresh
  pub room : length m ≡ r.limit
  pub setting : setting_of r ≡ s

pub record Came (s : Setting) (p : Stamp) (t : Stand) (xs : List Input) (fs : List (Finding wire)) (r : Receiver) (m : List ℕ) : Type 0 where
  pub ready : ReadyFor s r m
  pub hands : handed wire fs ≡ handed_all s p t xs
  pub stands : stand_of r m ≡ stand_at s p t xs

pub after_tp : (s : Setting) (p : Stamp) (tp : List ℕ) {r : Receiver} {m : List ℕ} {fs : List (Finding wire)} {r' : Receiver} {m' : List ℕ}
    → ReadyFor s r m → Calls (λ q. always p) tp r m fs r' m' → ReadyFor s r' m' × (record_of s p (stand_of r m) (tp_in tp) ≡ (fs, stand_of r' m'))
after_tp s p tp {r} {m} {fs} {r'} {m'} y c =
    let v = tp_leaves c y.stage y.room in (
      record {
        able = v.able;
        stage = v.fresh;
        room = v.room ∙ y.room ∙ sym (ap (λ (z : Setting). z.room) v.setting);
        setting = v.setting ∙ y.setting;
      },
      ap (λ (z : Setting). record_of z p (stand_of r m) (tp_in tp)) (sym y.setting) ∙ whole_tp c (stamped_steady p) y.able y.stage y.room,
    )

pub after_gap : (s : Setting) (r q : Receiver) (m : List ℕ) → ReadyFor s r m → q ≡ gap_of r → Able q → ReadyFor s q m × (stand_of q m ≡ fresh)
after_gap s r q m y e a = (
  record {
    able = a;
    stage = ap (λ (x : Receiver). x.stage) e;
    room = y.room ∙ sym (ap (λ (x : Receiver). x.limit) e);
    setting = ap setting_of e ∙ y.setting;
  },
  ap (λ (x : Receiver). stand_of x m) e,
)

-- THE FINDS OF A RECORDING
pub reads_are : (s : Setting) {p : Stamp} {r : Receiver} {m : List ℕ} {xs : List Input} {fs : List (Finding wire)} {r' : Receiver} {m' : List ℕ}
    → ReadyFor s r m → Reads p r m xs fs r' m' → Came s p (stand_of r m) xs fs r' m'
reads_are s y over = record { ready = y; hands = refl; stands = refl }
reads_are s {p} {r} {m} y (tp_on {tp = tp} {fs = fs} {r' = r₁} {m' = m₁} {xs = xs} {gs = gs} {r'' = r₂} {m'' = m₂} c l) =
    let a = after_tp s p tp y c in
    let b = reads_are s a.0 l in
    let next : Stamp = behind p (tp_in tp) in
    record {
      ready = b.ready;
      hands = handed_append wire fs gs
          ∙ ap (λ (q : List (Packet wire)). handed wire fs ++ q) b.hands
          ∙ sym (ap (λ (x : Listing). handed wire x.0 ++ handed_all s next x.1 xs) a.1);
      stands = b.stands ∙ sym (ap (λ (x : Listing). stand_at s next x.1 xs) a.1);
    }
reads_are s {p} {r} {m} y (gap_on {q = q} {xs = xs} {gs = gs} g l) =
    let a = after_gap s r q m y g.0 g.1 in
    let b = reads_are s a.0 l in
    let next : Stamp = behind p gap_told in
    record {
      ready = b.ready;
      hands = b.hands ∙ ap (λ (t : Stand). handed_all s next t xs) a.1;
      stands = b.stands ∙ ap (λ (t : Stand). stand_at s next t xs) a.1;
    }

-- ---- what is unfinished

headed_on : (g : Place) (ds : List ℕ) (d : ℕ) → under_way (headed g (ds ++ d ∷ [])) ≡ Some g
headed_on g [] d = refl
headed_on g (x ∷ ds) d = refl

begun_head : (n w : ℕ) (g : Place) → stamp_by (C.under_way (Head n w) g) ≡ stamp_in (under_way (frame_of g (Head n w)))
begun_head zero w g = refl
begun_head (suc k) w g =
    ap (λ (b : Bool). stamp_by (cond b None (Some g))) (ne_eqb (suc k) 0 (λ e. omega arith)) ∙ ap stamp_in (sym (headed_on g (digits k (w / 256)) (w % 256)))

begun_body : (h : Header) (n : ℕ) (g : Place) → 0 < n → stamp_by (C.under_way (Body h n) g) ≡ stamp_in (under_way (frame_of g (Body h n)))
begun_body h zero g l = absurd (omega arith)
begun_body h (suc k) g l = refl

under_way_lem : (p : Phase) (g : Place) → Settled p → stamp_by (C.under_way p g) ≡ stamp_in (under_way (frame_of g p))
under_way_lem Lost g z = refl
under_way_lem (Head n w) g z = begun_head n w g
under_way_lem (Judged h) g z = absurd (omega arith)
under_way_lem (Body h n) g z = begun_body h n g z

pending_is : (k : Option Kept) (p : Phase) (g : Place) (m : List ℕ) → Settled p → stamp_by (C.pending_by k p g) ≡ stamp_in (unfinished (held_of k m) (frame_of g p))
pending_is None p g m z = under_way_lem p g z
pending_is (Some k) p g m z = refl

-- between two TPs `receiver::pending` tells what line 0 names
pub pending_since : (s : Setting) (r : Receiver) (m : List ℕ) → ReadyFor s r m → stamp_by (pending_of r.walk) ≡ since_of (stand_of r m)
pending_since s r m y = pending_is r.walk.kept r.walk.phase r.walk.began m (subst (λ (g : Stage). Staged g r.walk) y.stage y.able.stage)

-- ---- from an opening on

module _ (size stream : ℕ) (m : List ℕ) (r : Receiver) (o : OpenedAs size stream (length m) (Some r)) where
  abbrev set : Setting
  set = record { size = size; stream = stream; room = length m }

  opened : r ≡ fresh_of size stream (length m) 0
  opened = opened_fresh size stream (length m) r o

  starts : stand_of r m ≡ fresh
  starts = ap (λ (x : Receiver). stand_of x m) opened

  ready : ReadyFor set r m
  ready = record { able = o.able; stage = ap (λ (x : Receiver). x.stage) opened; room = sym (ap (λ (x : Receiver). x.limit) opened); setting = ap setting_of opened }

  from_here : {p : Stamp} {xs : List Input} {fs : List (Finding wire)} {r' : Receiver} {m' : List ℕ} → Reads p r m xs fs r' m' → Came set p fresh xs fs r' m'
  from_here {p} {xs} {fs} {r'} {m'} l = subst (λ (t : Stand). Came set p t xs fs r' m') starts (reads_are set ready l)

  -- MADE AFRESH: the lines of what is found, and where what is unfinished began
  pub afresh : {xs : List Input} {fs : List (Finding wire)} {r' : Receiver} {m' : List ℕ} → Reads start_stamp r m xs fs r' m'
      → (map line_by (handed wire fs) ≡ (index_of set xs).lines) × (stamp_by (pending_of r'.walk) ≡ (index_of set xs).since)
  unfolding index_of
  afresh {xs} {fs} {r'} {m'} l =
      let c = from_here l in (
        ap (map line_by) c.hands ∙ sym (lines_are set xs start_stamp fresh),
        pending_since set r' m' c.ready ∙ ap since_of c.stands,
      )

  -- GROWN: the covered records from the one that line 0 names on are only read; the lines are those of the new ones
  pub grown_on : (xs : List Input) {q p : Stamp} {ys : List Input} {fs gs : List (Finding wire)} {r₁ r₂ : Receiver} {m₁ m₂ : List ℕ}
      → Reads q r m (drop (q.number - 1) xs) fs r₁ m₁ → Reads p r₁ m₁ ys gs r₂ m₂
      → (map line_by (handed wire gs) ≡ new_lines set p (Some q) xs ys) × (stamp_by (pending_of r₂.walk) ≡ new_since set p (Some q) xs ys)
  grown_on xs {q} {p} {ys} {fs} {gs} {r₁} {r₂} {m₁} {m₂} l k =
      let c = from_here l in
      let d = reads_are set c.ready k in (
        ap (map line_by) d.hands ∙ sym (lines_are set ys p (stand_of r₁ m₁)) ∙ ap (λ (t : Stand). lines_of set p t ys) c.stands,
        pending_since set r₂ m₂ d.ready ∙ ap since_of d.stands ∙ ap (λ (t : Stand). since_of (stand_at set p t ys)) c.stands,
      )

  -- or all are new ones
  pub grown_afresh : (xs : List Input) {p : Stamp} {ys : List Input} {gs : List (Finding wire)} {r₂ : Receiver} {m₂ : List ℕ} → Reads p r m ys gs r₂ m₂
      → (map line_by (handed wire gs) ≡ new_lines set p None xs ys) × (stamp_by (pending_of r₂.walk) ≡ new_since set p None xs ys)
  grown_afresh xs {p} {ys} {gs} {r₂} {m₂} k =
      let d = from_here k in
      (ap (map line_by) d.hands ∙ sym (lines_are set ys p fresh), pending_since set r₂ m₂ d.ready ∙ ap since_of d.stands)

  -- FROM ANY LINE
  pub finds_it : (xs : List Input) (before after : List (Packet wire)) (q : Packet wire) {fs : List (Finding wire)} {r' : Receiver} {m' : List ℕ}
      → handed_out set xs ≡ before ++ q ∷ after
      → Reads (behind_all start_stamp (take ((line_by q).begun - 1) xs)) r m (drop ((line_by q).begun - 1) xs) fs r' m'
      → first (chosen (sought (line_by q)) (handed wire fs)) ≡ Some q
  finds_it xs before after q e l = ap (λ (qs : List (Packet wire)). first (chosen (sought (line_by q)) qs)) (from_here l).hands ∙ from_line set xs before after q e
