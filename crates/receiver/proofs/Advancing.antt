-- Which clause of a turn's definition a test, or the phase, chooses. Assumes nothing.
use mathlib.Core.Path.{ap, refl, sym, ◌∙◌, ◌≡◌}
use mathlib.Core.Bool.{Bool, cond, false, true}
use mathlib.Core.List.{List}
use Prim.Native.Nat.{ℕ, ◌*◌, ◌+◌, ◌-◌, ◌<◌, ◌≤◌, min}
use native.Mathlib.Omega.{arith}
use lib.Dec.{leb, ltb}
use lib.ListN.{drop, length, take}
use lib.Seq.{paste}
use borrow.Author.Tests.{le-ltb, lt-ltb, ltb-false, ltb-true}
use Rattle.std.specs.Prelude.{None, Option, Some}
use Rattle.digits.specs.Digits.{number}
use Rattle.wire.specs.Reading.{header_in}
use Rattle.wire.specs.declared.Header.{Header}
use Rattle.receiver.specs.declared.walk.Gain.{Gain}
use Rattle.receiver.specs.declared.walk.Gain.TheVariants.{Nothing, Notice, Packet}
use Rattle.receiver.specs.declared.walk.Kept.{Kept}
use Rattle.receiver.specs.declared.walk.Phase.{Phase}
use Rattle.receiver.specs.declared.walk.Phase.TheVariants.{Body, Head, Judged, Lost}
use Rattle.receiver.specs.declared.walk.Turn.{Turn}
use Rattle.receiver.specs.declared.walk.Turn.TheVariants.{More, Stop}
use Rattle.receiver.specs.declared.kind.Kind.{Kind}
use Rattle.receiver.specs.declared.kind.Kind.TheVariants.{Complete, Fill, First, Last, Middle, Reserved}
use Rattle.receiver.specs.declared.walk.Walk.{Walk}
use Rattle.receiver.specs.declared.Place.{Place}
use Rattle.receiver.specs.declared.Stamp.{Stamp}
use Rattle.receiver.specs.Low.{begin_of, ep_at, join_of, Tag, tag_of}
use Rattle.receiver.specs.Kind.{kind_of}
use Rattle.receiver.specs.Turns.{admit_of, advance_by, advance_of, begun_at, body_turn, finish_of, fits_of, further_of, goes, grown_by, handed_of, header_turn, kept_as, meets_of, opened_of, rank, stops, toil, whole_of}
use Rattle.receiver.specs.Pieces.{head_role, read_of, role_of}
use Rattle.receiver.specs.Turn.{Fits, put_by, put_of}
use Rattle.receiver.specs.InWalk.{room_by, room_of}
use Rattle.receiver.specs.State.{Counts, Fine, Roomy, Sound, kept_by}

pub grown_of : (n c sum : ℕ) (b : Place) (l : ℕ) (k : Option Kept) → k ≡ kept_by c sum b l → kept_by c sum b (l + n) ≡ grown_by n k
grown_of n c sum b l k e = sym (ap (grown_by n) e)

pub counts : (cap n : ℕ) (k : Option Kept) → cap ≤ 18446744073709551615 → Roomy cap k n → Counts k n
counts cap n None l r = r
counts cap n (Some k) l r = omega arith

pub less_roomy : (cap n z : ℕ) (k : Option Kept) → Roomy cap k z → n ≤ z → Roomy cap k n
less_roomy cap n z None r l = r
less_roomy cap n z (Some k) r l = omega arith

module _ (tp : List ℕ) (at left : ℕ) (h : Header) (g : Place) (k : Option Kept) where
  pub body_cut : length tp - at < left
      → stops (at + (length tp - at)) (Body h (left - (length tp - at))) g (grown_by (length tp - at) k) Nothing ≡ body_turn tp at h left g k
  unfolding body_turn
  body_cut l = rw (lt-ltb (length tp - at) left l)

  pub body_read : left ≤ length tp - at → finish_of (kind_of h) (at + left) g (grown_by left k) ≡ body_turn tp at h left g k
  unfolding body_turn
  body_read l = rw (le-ltb (length tp - at) left l)

module _ (cap : ℕ) (t : Stamp) (w : Walk) (tp : List ℕ) where
  pub advance_by_lem : (p : Phase) → w.phase ≡ p → advance_by p t w.at w.began w.kept cap tp ≡ advance_of cap t w tp
  unfolding advance_of
  advance_by_lem p e = sym (ap (λ (p : Phase). advance_by p t w.at w.began w.kept cap tp) e)

  pub advance_lost : w.phase ≡ Lost → stops (length tp) w.phase w.began w.kept Nothing ≡ advance_of cap t w tp
  advance_lost e = ap (λ (p : Phase). stops (length tp) p w.began w.kept Nothing) e ∙ advance_by_lem Lost e

  pub fine_by : (p : Phase) → w.phase ≡ p → Sound cap (length tp) w → Fine cap p w.kept
  fine_by p e s = rw e at s.phase

pub room_by_lem : (w : Walk) (tp m : List ℕ) (p : Phase) → w.phase ≡ p → room_by p w.at w.kept tp m ≡ room_of w tp m
unfolding room_of
room_by_lem w tp m p e = sym (ap (λ (p : Phase). room_by p w.at w.kept tp m) e)

-- only data are put there
pub room_else : (w : Walk) (tp m : List ℕ) → ((h : Header) (n : ℕ) → w.phase ≡ Body h n → ⊥) → m ≡ room_of w tp m
unfolding room_of
room_else w tp m f = by w.phase f
  where
    by : (p : Phase) → ((h : Header) (n : ℕ) → p ≡ Body h n → ⊥) → m ≡ room_by p w.at w.kept tp m
    by Lost f = refl
    by (Head n x) f = refl
    by (Judged h) f = refl
    by (Body h n) f = absurd (f h n refl)

-- where a turn ends

abbrev pub walk_of : Turn → Walk
walk_of (More x) = x
walk_of (Stop a) = a.walk

fits_at : (at : ℕ) (h : Header) (g : Place) (c : Tag) (n cap : ℕ) → (walk_of (fits_of at h g c n cap)).at ≡ at
unfolding fits_of
fits_at at h g c n cap = by (leb h.size (cap - n))
  where
    by : (b : Bool) → (walk_of (cond b (goes at (Body h h.size) g (kept_as c n)) (stops at (Body h h.size) g None (Notice 15)))).at ≡ at
    by true = refl
    by false = refl

further_at : (at : ℕ) (h : Header) (g : Place) (k : Option Kept) (cap : ℕ) → (walk_of (further_of at h g k cap)).at ≡ at
further_at at h g None cap = refl
further_at at h g (Some k) cap = fits_at at h g (join_of (tag_of k.content k.repaired k.began) (ep_at g h)) k.len cap

pub admit_at : (d : Kind) (at : ℕ) (h : Header) (g : Place) (k : Option Kept) (cap : ℕ) → (walk_of (admit_of d at h g k cap)).at ≡ at
admit_at Fill at h g k cap = refl
admit_at Reserved at h g k cap = refl
admit_at Complete at h g k cap = fits_at at h g (begin_of (ep_at g h)) 0 cap
admit_at First at h g k cap = fits_at at h g (begin_of (ep_at g h)) 0 cap
admit_at Middle at h g k cap = further_at at h g k cap
admit_at Last at h g k cap = further_at at h g k cap

pub whole_at_lem : (at : ℕ) (o : Option Header) (g : Place) (k : Option Kept) (cap : ℕ) → (walk_of (whole_of at o g k cap)).at ≡ at
unfolding opened_of
whole_at_lem at None g k cap = refl
whole_at_lem at (Some h) g k cap = by (meets_of (kind_of h) k h.content)
  where
    by : (b : Bool) → (walk_of (cond b (admit_of (kind_of h) at h g k cap) (stops at (Judged h) g None (Notice 14)))).at ≡ at
    by true = admit_at (kind_of h) at h g k cap
    by false = refl

handed_at : (at : ℕ) (g : Place) (k : Option Kept) → (walk_of (handed_of at g k)).at ≡ at
handed_at at g None = refl
handed_at at g (Some k) = refl

pub finish_at : (d : Kind) (at : ℕ) (g : Place) (k : Option Kept) → (walk_of (finish_of d at g k)).at ≡ at
finish_at Fill at g k = refl
finish_at Reserved at g k = refl
finish_at Complete at g k = handed_at at g k
finish_at First at g k = refl
finish_at Middle at g k = refl
finish_at Last at g k = handed_at at g k

module _ (tp : List ℕ) (at : ℕ) where
  body_at : (h : Header) (left : ℕ) (g : Place) (k : Option Kept) → (walk_of (body_turn tp at h left g k)).at ≡ at + min left (length tp - at)
  unfolding body_turn
  body_at h left g k = by (ltb (length tp - at) left) refl
    where
      by : (b : Bool) → ltb (length tp - at) left ≡ b
          → (walk_of (cond b (stops (at + (length tp - at)) (Body h (left - (length tp - at))) g (grown_by (length tp - at) k) Nothing) (finish_of (kind_of h) (at + left) g (grown_by left k)))).at
          ≡ at + min left (length tp - at)
      by true e = let l = ltb-true (length tp - at) left e in omega arith
      by false e = let l = ltb-false (length tp - at) left e in finish_at (kind_of h) (at + left) g (grown_by left k) ∙ omega arith

  head_at : (n w : ℕ) (g : Place) (k : Option Kept) (cap : ℕ) → at ≤ (walk_of (header_turn tp at n w g k cap)).at
  unfolding header_turn
  head_at n w g k cap = by (ltb (length tp - at) (6 - n))
    where
      o : Option Header
      o = header_in (number w (take (6 - n) (drop at tp)))

      by : (b : Bool)
          → at ≤ (walk_of (cond b (stops (at + (length tp - at)) (Head (n + (length tp - at)) (number w (take (length tp - at) (drop at tp)))) g k Nothing) (whole_of (at + (6 - n)) o g k cap))).at
      by true = omega arith
      by false = omega (arith, whole_at_lem (at + (6 - n)) o g k cap)

  ahead_by : (p : Phase) (t : Stamp) (g : Place) (k : Option Kept) (cap : ℕ) → at ≤ length tp → at ≤ (walk_of (advance_by p t at g k cap tp)).at
  ahead_by Lost t g k cap l = l
  ahead_by (Head n w) t g k cap l = head_at n w (begun_at t at n g) k cap
  ahead_by (Judged h) t g k cap l = omega (arith, admit_at (kind_of h) at h g k cap)
  ahead_by (Body h left) t g k cap l = omega (arith, body_at h left g k)

module _ (cap : ℕ) (t : Stamp) (w : Walk) (tp : List ℕ) where
  pub advance_ahead : w.at ≤ length tp → w.at ≤ (walk_of (advance_of cap t w tp)).at
  unfolding advance_of
  advance_ahead l = ahead_by tp w.at w.phase t w.began w.kept cap l

  -- the data that a turn reads are those of its piece
  pub put_room : (m : List ℕ) → put_of (read_of w (walk_of (advance_of cap t w tp))) tp m ≡ room_of w tp m
  unfolding put_of room_of advance_of
  put_room m = by w.phase w.kept
    where
      headed : (q : Phase) (from to : ℕ) → put_by (head_role q) from to tp m ≡ m
      headed Lost from to = refl
      headed (Head n x) from to = refl
      headed (Judged h) from to = refl
      headed (Body h n) from to = refl

      by : (p : Phase) (k : Option Kept)
          → put_by (role_of p k (walk_of (advance_by p t w.at w.began k cap tp)).phase) w.at (walk_of (advance_by p t w.at w.began k cap tp)).at tp m ≡ room_by p w.at k tp m
      by Lost k = refl
      by (Head n x) k = headed (walk_of (advance_by (Head n x) t w.at w.began k cap tp)).phase w.at (walk_of (advance_by (Head n x) t w.at w.began k cap tp)).at
      by (Judged h) k = refl
      by (Body h left) None = refl
      by (Body h left) (Some k) =
          let e = body_at tp w.at h left w.began (kept_by k.content k.repaired k.began k.len) in
          let n : (walk_of (body_turn tp w.at h left w.began (kept_by k.content k.repaired k.began k.len))).at - w.at ≡ min left (length tp - w.at) = omega arith in
          ap (λ (n : ℕ). paste m k.len (drop w.at tp) n) n

  pub advance_fits : Sound cap (length tp) w
      → Fits (role_of w.phase w.kept (walk_of (advance_of cap t w tp)).phase) ((walk_of (advance_of cap t w tp)).at - w.at) cap
  unfolding advance_of
  advance_fits s = by w.phase w.kept s.phase
    where
      headed : (q : Phase) (n : ℕ) → Fits (head_role q) n cap
      headed Lost n = omega arith
      headed (Head i x) n = omega arith
      headed (Judged h) n = omega arith
      headed (Body h i) n = omega arith

      by : (p : Phase) (k : Option Kept) → Fine cap p k
          → Fits (role_of p k (walk_of (advance_by p t w.at w.began k cap tp)).phase) ((walk_of (advance_by p t w.at w.began k cap tp)).at - w.at) cap
      by Lost k f = omega arith
      by (Head n x) k f = headed (walk_of (advance_by (Head n x) t w.at w.began k cap tp)).phase ((walk_of (advance_by (Head n x) t w.at w.began k cap tp)).at - w.at)
      by (Judged h) k f = omega arith
      by (Body h left) None f = omega arith
      by (Body h left) (Some k) f =
          let e = body_at tp w.at h left w.began (kept_by k.content k.repaired k.began k.len) in
          let n : (walk_of (body_turn tp w.at h left w.began (kept_by k.content k.repaired k.began k.len))).at - w.at ≡ min left (length tp - w.at) = omega arith in
          omega arith

-- a turn leaves less to do, unless it tells none

abbrev pub LessBy : Gain → ℕ → ℕ → Type 0
LessBy Nothing a b = 0 ≤ 0
LessBy (Notice n) a b = a < b
LessBy (Packet c sum p n) a b = a < b

abbrev pub gain_of : Turn → Gain
gain_of (More x) = Notice 0
gain_of (Stop a) = a.gain

pub rank_in : (p : Phase) → rank p ≤ 2
rank_in Lost = omega arith
rank_in (Head n w) = omega arith
rank_in (Judged h) = omega arith
rank_in (Body h n) = omega arith

less : (g : Gain) (a b : ℕ) → a < b → LessBy g a b
less Nothing a b l = omega arith
less (Notice n) a b l = l
less (Packet c sum p n) a b l = l

fits_rank : (at : ℕ) (h : Header) (g : Place) (c : Tag) (n cap : ℕ) → rank (walk_of (fits_of at h g c n cap)).phase ≡ 1
unfolding fits_of
fits_rank at h g c n cap = by (leb h.size (cap - n))
  where
    by : (b : Bool) → rank (walk_of (cond b (goes at (Body h h.size) g (kept_as c n)) (stops at (Body h h.size) g None (Notice 15)))).phase ≡ 1
    by true = refl
    by false = refl

admit_rank : (d : Kind) (at : ℕ) (h : Header) (g : Place) (k : Option Kept) (cap : ℕ) → rank (walk_of (admit_of d at h g k cap)).phase ≡ 1
admit_rank Fill at h g k cap = refl
admit_rank Reserved at h g k cap = refl
admit_rank Complete at h g k cap = fits_rank at h g (begin_of (ep_at g h)) 0 cap
admit_rank First at h g k cap = fits_rank at h g (begin_of (ep_at g h)) 0 cap
admit_rank Middle at h g None cap = refl
admit_rank Middle at h g (Some k) cap = fits_rank at h g (join_of (tag_of k.content k.repaired k.began) (ep_at g h)) k.len cap
admit_rank Last at h g None cap = refl
admit_rank Last at h g (Some k) cap = fits_rank at h g (join_of (tag_of k.content k.repaired k.began) (ep_at g h)) k.len cap

handed_rank : (at : ℕ) (g : Place) (k : Option Kept) → rank (walk_of (handed_of at g k)).phase ≡ 0
handed_rank at g None = refl
handed_rank at g (Some k) = refl

finish_rank : (d : Kind) (at : ℕ) (g : Place) (k : Option Kept) → rank (walk_of (finish_of d at g k)).phase ≡ 0
finish_rank Fill at g k = refl
finish_rank Reserved at g k = refl
finish_rank Complete at g k = handed_rank at g k
finish_rank First at g k = refl
finish_rank Middle at g k = refl
finish_rank Last at g k = handed_rank at g k

module _ (cap : ℕ) (t : Stamp) (tp : List ℕ) (at : ℕ) (g : Place) (k : Option Kept) (l : at ≤ length tp) where
  abbrev toiled : Turn → ℕ
  toiled x = toil (length tp) (walk_of x)

  less_by : (p : Phase) → Fine cap p k → LessBy (gain_of (advance_by p t at g k cap tp)) (toiled (advance_by p t at g k cap tp)) (3 * (length tp - at) + rank p)
  unfolding header_turn body_turn
  less_by Lost f = omega arith
  less_by (Head n w) f = by (ltb (length tp - at) (6 - n)) refl
    where
      o : Option Header
      o = header_in (number w (take (6 - n) (drop at tp)))

      whole : Turn
      whole = whole_of (at + (6 - n)) o (begun_at t at n g) k cap

      by : (b : Bool) → ltb (length tp - at) (6 - n) ≡ b
          → LessBy (gain_of (cond b (stops (at + (length tp - at)) (Head (n + (length tp - at)) (number w (take (length tp - at) (drop at tp)))) (begun_at t at n g) k Nothing) whole))
          (toiled (cond b (stops (at + (length tp - at)) (Head (n + (length tp - at)) (number w (take (length tp - at) (drop at tp)))) (begun_at t at n g) k Nothing) whole))
          (3 * (length tp - at) + 0)
      by true e = omega arith
      by false e =
          let u = ltb-false (length tp - at) (6 - n) e in
          let x = f.0 in
          let v = whole_at_lem (at + (6 - n)) o (begun_at t at n g) k cap in
          let r = rank_in (walk_of whole).phase in
          less (gain_of whole) (toiled whole) (3 * (length tp - at) + 0) (omega arith)
  less_by (Judged h) f =
      less (gain_of (admit_of (kind_of h) at h g k cap)) (toiled (admit_of (kind_of h) at h g k cap)) (3 * (length tp - at) + 2)
      (omega (arith, admit_at (kind_of h) at h g k cap, admit_rank (kind_of h) at h g k cap))
  less_by (Body h left) f = by (ltb (length tp - at) left)
    where
      by : (b : Bool)
          → LessBy (gain_of (cond b (stops (at + (length tp - at)) (Body h (left - (length tp - at))) g (grown_by (length tp - at) k) Nothing) (finish_of (kind_of h) (at + left) g (grown_by left k))))
          (toiled (cond b (stops (at + (length tp - at)) (Body h (left - (length tp - at))) g (grown_by (length tp - at) k) Nothing) (finish_of (kind_of h) (at + left) g (grown_by left k))))
          (3 * (length tp - at) + 1)
      by true = omega arith
      by false =
          less (gain_of (finish_of (kind_of h) (at + left) g (grown_by left k))) (toiled (finish_of (kind_of h) (at + left) g (grown_by left k))) (3 * (length tp - at) + 1)
          (omega (arith, finish_at (kind_of h) (at + left) g (grown_by left k), finish_rank (kind_of h) (at + left) g (grown_by left k)))

pub advance_less : (cap : ℕ) (t : Stamp) (w : Walk) (tp : List ℕ) → Sound cap (length tp) w
    → LessBy (gain_of (advance_of cap t w tp)) (toil (length tp) (walk_of (advance_of cap t w tp))) (toil (length tp) w)
unfolding advance_of
advance_less cap t w tp s = less_by cap t tp w.at w.began w.kept s.at w.phase s.phase
