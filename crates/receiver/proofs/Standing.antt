-- What stands between two EPs: of which kind a header is, what it does to what is kept, and what two intact words that are read
-- say. Assumes nothing.
use mathlib.Core.Path.{ap, refl, subst, sym, ◌∙◌, ◌≡◌}
use mathlib.Core.Bool.{Bool, cond, false, true, ◌&&◌}
use mathlib.Core.List.{List}
use Prim.Native.Nat.{ℕ, ◌+◌, ◌-◌, ◌/◌, ◌%◌, ◌^◌, ◌<◌, ◌≤◌, min}
use native.Mathlib.Omega.{arith}
use lib.ListN.{drop, length, take}
use lib.Dec.{eqb, leb}
use borrow.Author.Tests.{eq-eqb, le-leb, ne_eqb}
use Rattle.std.specs.Prelude.{None, Option, Some}
use Rattle.digits.specs.Digits.{number}
use Rattle.golay.specs.Golay.{high, syndrome}
use Rattle.queue.specs.Ring.{copied}
use Rattle.wire.specs.Reading.{fields_of, header_in, intact_in, sort_of}
use Rattle.wire.specs.declared.Header.{Header}
use Rattle.wire.specs.declared.Sort.TheVariants as S
use Rattle.receiver.specs.declared.Place.{Place}
use Rattle.receiver.specs.declared.kind.Kind.TheVariants.{Complete, Fill, Middle}
use Rattle.receiver.specs.declared.walk.Gain.TheVariants.{Nothing, Packet}
use Rattle.receiver.specs.declared.walk.Phase.TheVariants.{Body, Head}
use Rattle.receiver.specs.Kind.{kind_by, kind_of, piece_of}
use Rattle.receiver.specs.Low.{total_of}
use Rattle.receiver.specs.Turns.{body_turn, fits_of, goes, opened_of, stops}
use Rattle.receiver.specs.InWalk.{pasted}
use Rattle.receiver.specs.InStride.{CompleteAt, EpAt, FillAt, HeaderAt, MiddleAt, Stands}
use Rattle.receiver.specs.State.{kept_by}
use Rattle.wire.proofs.Answers.{intact-is}
use Rattle.receiver.proofs.Advancing.{body_cut, body_read}
use Rattle.receiver.proofs.Gather.{put_is}

-- ---- which kind a header is of, and what it does to what is kept

pub fill_kind : (h : Header) → h.content ≡ 0 → kind_of h ≡ Fill
unfolding kind_of sort_of
fill_kind h e = rw e refl

pub middle_kind : (h : Header) → 1 ≤ h.content → h.fragment ≡ 2 → kind_of h ≡ Middle
unfolding kind_of sort_of piece_of
middle_kind h l e = rw (ne_eqb h.content 0 (λ (z : h.content ≡ 0). omega (arith, z, l)), e) (by (leb h.content 6))
  where
    by : (b : Bool) → kind_by (cond b S.Known S.Reserved) 2 ≡ Middle
    by true = refl
    by false = refl

pub complete_kind : (h : Header) → 1 ≤ h.content → h.content ≤ 6 → h.fragment ≡ 0 → kind_of h ≡ Complete
unfolding kind_of sort_of piece_of
complete_kind h l u e = rw (ne_eqb h.content 0 (λ (z : h.content ≡ 0). omega (arith, z, l)), le-leb h.content 6 u, e) refl

module _ (at : ℕ) (h : Header) (b : Place) (cap : ℕ) where
  pub fill_opened : kind_of h ≡ Fill → opened_of at h b None cap ≡ goes at (Body h h.size) b None
  unfolding opened_of
  fill_opened e = rw e refl

  pub complete_opened : kind_of h ≡ Complete → h.size ≤ cap → opened_of at h b None cap ≡ goes at (Body h h.size) b (kept_by h.content h.flips b 0)
  unfolding opened_of fits_of
  complete_opened e l = let u : h.size ≤ cap - 0 = omega arith in rw (e, le-leb h.size (cap - 0) u) refl

  pub middle_opened : (c e : ℕ) (p : Place) (n : ℕ) → kind_of h ≡ Middle → h.content ≡ c → h.flips ≡ 0 → e ≤ 4294967295 → h.size ≤ cap - n
      → opened_of at h b (kept_by c e p n) cap ≡ goes at (Body h h.size) b (kept_by c e p n)
  unfolding opened_of fits_of
  middle_opened c e p n k same intact most l =
      let total : total_of e h.flips ≡ e = omega (arith, intact) in
      rw (k, eq-eqb c h.content (sym same), le-leb h.size (cap - n) l, total) refl

-- two intact words that are read have no flip
pub header_stands : (tp : List ℕ) (at w : ℕ) (r : Option Header) → 6 ≤ length tp - at → w ≡ number 0 (take 6 (drop at tp)) → r ≡ intact_in w → HeaderAt tp at r
unfolding intact_in
header_stands tp at w None six q e = omega arith
header_stands tp at w (Some h) six q e =
    (record { six = six; read = ap header_in (sym q) ∙ intact-is w h (sym e) }, ap flips_in e ∙ unflipped)
  where
    flips_in : Option Header → ℕ
    flips_in None = 0
    flips_in (Some g) = g.flips

    none_flipped : (b : Bool) (x y : ℕ) → flips_in (cond b (Some (fields_of x y 0)) None) ≡ 0
    none_flipped true x y = refl
    none_flipped false x y = refl

    unflipped : flips_in (intact_in w) ≡ 0
    unflipped = none_flipped (eqb (syndrome (w / 2 ^ 24 % 2 ^ 24)) 0 && eqb (syndrome (w % 2 ^ 24)) 0) (high (w / 2 ^ 24 % 2 ^ 24)) (high (w % 2 ^ 24))

-- a header that can be read
pub read_stands : (tp : List ℕ) (at : ℕ) (r : Option Header) (h : Header) → 6 ≤ length tp - at → r ≡ header_in (number 0 (take 6 (drop at tp))) → r ≡ Some h → Stands tp at h
read_stands tp at r h six e f = record { six = six; read = sym e ∙ f }

-- what stands there, by the answer
module _ (tp : List ℕ) (at : ℕ) (r : Option Header) (h : Header) where
  pub stands_of : HeaderAt tp at r → r ≡ Some h → Stands tp at h
  stands_of f e = (subst (HeaderAt tp at) e f).0

  pub intact_of : HeaderAt tp at r → r ≡ Some h → h.flips ≡ 0
  intact_of f e = (subst (HeaderAt tp at) e f).1

  pub fill_of : FillAt tp at r → r ≡ Some h → EpAt Fill tp at h × (6 + h.size ≤ length tp - at)
  fill_of f e = subst (FillAt tp at) e f

  pub middle_of : (c most : ℕ) → MiddleAt tp at c most r → r ≡ Some h
      → EpAt Middle tp at h × (h.content ≡ c) × (h.size ≤ most) × (6 + h.size ≤ length tp - at) × (h.flips ≡ 0)
  middle_of c most f e = subst (MiddleAt tp at c most) e f

  pub complete_of_lem : (most : ℕ) → CompleteAt tp at most r → r ≡ Some h → EpAt Complete tp at h × (h.size ≤ most)
  complete_of_lem most f e = subst (CompleteAt tp at most) e f

-- a complete EP's data, cut by the TP's end or not
module _ (tp : List ℕ) (from n : ℕ) (h : Header) (g : Place) (q : n ≡ min h.size (length tp - from)) where
  pub taken_cut : n < h.size → stops (from + n) (Body h (h.size - n)) g (kept_by h.content h.flips g n) Nothing ≡ body_turn tp from h h.size g (kept_by h.content h.flips g 0)
  taken_cut l =
      let e : length tp - from ≡ n = omega arith in
      let z : 0 + n ≡ n = omega arith in
      rw (e, z) at (body_cut tp from h.size h g (kept_by h.content h.flips g 0) (omega arith))

  pub taken_whole : kind_of h ≡ Complete → h.size ≤ n
      → stops (from + n) (Head 0 0) g None (Packet h.content h.flips g h.size) ≡ body_turn tp from h h.size g (kept_by h.content h.flips g 0)
  taken_whole k l =
      let e : h.size ≡ n = omega arith in
      let z : 0 + h.size ≡ h.size = omega arith in
      let y : from + h.size ≡ from + n = omega arith in
      rw (k, z, y) at (body_read tp from h.size h g (kept_by h.content h.flips g 0) (omega arith))

  pub taken_put : (m m' : List ℕ) → from ≤ length tp → h.size ≤ length m → m' ≡ copied m 0 (take (from + n - from) (drop from tp))
      → m' ≡ pasted (kept_by h.content h.flips g 0) m (drop from tp) (min h.size (length tp - from))
  taken_put m m' l fits e = rw (sym q) (put_is tp from n h.content h.flips g 0 (kept_by h.content h.flips g 0) m m' refl (omega arith) (omega arith) e)
