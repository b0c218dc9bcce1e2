-- Strides: an EP whose header stands whole and intact is a turn of its header and a turn of its data, so the call that is asked
-- for stays the same. Assumes nothing.
use mathlib.Core.Path.{ap, refl, subst, sym, ◌∙◌, ◌≡◌}
use mathlib.Core.List.{List}
use Prim.Native.Nat.{ℕ, ◌+◌, ◌-◌, ◌≤◌, min}
use native.Mathlib.Omega.{arith}
use lib.ListN.{drop, length, take}
use lib.Seq.{paste}
use borrow.Author.Tests.{le-ltb}
use Rattle.std.specs.Prelude.{None, Option}
use Rattle.queue.specs.Ring.{copied}
use Rattle.wire.specs.declared.Header.{Header}
use Rattle.receiver.specs.declared.Place.{Place}
use Rattle.receiver.specs.declared.Stamp.{Stamp}
use Rattle.receiver.specs.declared.kind.Kind.{Kind}
use Rattle.receiver.specs.declared.kind.Kind.TheVariants.{Complete, Fill, Middle}
use Rattle.receiver.specs.declared.walk.Answer.{Answer}
use Rattle.receiver.specs.declared.walk.Kept.{Kept}
use Rattle.receiver.specs.declared.walk.Phase.{Phase}
use Rattle.receiver.specs.declared.walk.Phase.TheVariants.{Body, Head}
use Rattle.receiver.specs.declared.walk.Turn.{Turn}
use Rattle.receiver.specs.declared.walk.Turn.TheVariants.{More, Stop}
use Rattle.receiver.specs.declared.walk.Walk.{Walk}
use Rattle.receiver.specs.Kind.{kind_of}
use Rattle.receiver.specs.Place.{place_at}
use Rattle.receiver.specs.State.{Roomy, Sound, pull_of, kept_by}
use Rattle.receiver.specs.Turns.{advance_of, body_turn, finish_of, goes, grown_by, header_turn, opened_of, walk_at}
use Rattle.receiver.specs.InWalk.{Carries, Ends, On, pasted, room_of}
use Rattle.receiver.specs.InStride.{EpAt, Joins, Reaches, Skips, Stands, Strides, between}
use Rattle.receiver.proofs.Advancing.{body_read}
use Rattle.receiver.proofs.Gather.{put_is}
use Rattle.receiver.proofs.Bodies.{advance_carries}
use Rattle.receiver.proofs.Heading.{Bytes}
use Rattle.receiver.proofs.Standing.{complete_opened, fill_opened, middle_opened}

-- ---- turns, one behind the other

module _ (cap : ℕ) (t : Stamp) (tp : List ℕ) where
  pub then_on : (w x y : Walk) (m m' m'' : List ℕ) → On cap t w tp m x m' → On cap t x tp m' y m'' → On cap t w tp m y m''
  then_on w x y m m' m'' a b = record { same = b.same ∙ a.same; sound = b.sound; less = omega (arith, a.less, b.less) }

  pub then_ends : (w x : Walk) (a : Answer) (m m' m'' : List ℕ) → On cap t w tp m x m' → Ends cap t x tp m' a m'' → Ends cap t w tp m a m''
  then_ends w x a m m' m'' o e = record { same = e.same ∙ o.same; sound = e.sound; gained = e.gained }

  pub then_carries : (w x : Walk) (r : Turn) (m m' m'' : List ℕ) → On cap t w tp m x m' → Carries cap t x tp m' r m'' → Carries cap t w tp m r m''
  unfolding Carries
  then_carries w x (More y) m m' m'' o c = then_on w x y m m' m'' o c
  then_carries w x (Stop a) m m' m'' o c = then_ends w x a m m' m'' o c

  -- where an EP between two others began is looked at by nobody
  pub began_free : (at : ℕ) (g g' : Place) (k : Option Kept) (m : List ℕ) → pull_of cap t (between at g k) tp m ≡ pull_of cap t (between at g' k) tp m
  unfolding pull_of
  began_free at g g' k m = refl

  module _ (m : List ℕ) (full : length m ≡ cap) (bytes : Bytes tp) (at : ℕ) (g : Place) (k : Option Kept) (h : Header) (s : Stands tp at h) (roomy : Roomy cap k 0) where
    -- the header's turn, where it gets none of 14 to 16
    header_on : (k' : Option Kept) → opened_of (at + 6) h (place_at t at) k cap ≡ goes (at + 6) (Body h h.size) (place_at t at) k'
        → On cap t (between at g k) tp m (walk_at (at + 6) (Body h h.size) (place_at t at) k') m
    unfolding Carries advance_of header_turn room_of
    header_on k' o =
        let six = s.six in
        let sound : Sound cap (length tp) (between at g k) = record { at = omega arith; phase = (omega arith, omega arith, roomy) } in
        let c = advance_carries cap t tp m full bytes (between at g k) sound in
        let e = le-ltb (length tp - at) 6 six in
        rw (e, s.read, o) at c

    -- header and data
    pub ep_carries : (k' : Option Kept) → opened_of (at + 6) h (place_at t at) k cap ≡ goes (at + 6) (Body h h.size) (place_at t at) k'
        → Carries cap t (between at g k) tp m (body_turn tp (at + 6) h h.size (place_at t at) k') (pasted k' m (drop (at + 6) tp) (min h.size (length tp - (at + 6))))
    unfolding advance_of room_of
    ep_carries k' o =
        let a = header_on k' o in
        let b = advance_carries cap t tp m full bytes (walk_at (at + 6) (Body h h.size) (place_at t at) k') a.sound in
        then_carries (between at g k) (walk_at (at + 6) (Body h h.size) (place_at t at) k') _ m m _ a b

-- an EP read whole, of a kind behind which reading goes on
whole_on : (cap : ℕ) (t : Stamp) (tp : List ℕ) (w : Walk) (from b : ℕ) (h : Header) (g : Place) (k : Option Kept) (m m' : List ℕ) {kind : Kind} → kind_of h ≡ kind
    → ((at : ℕ) (g : Place) (k : Option Kept) → finish_of kind at g k ≡ goes at (Head 0 0) g k) → h.size ≤ length tp - from → b ≡ from + h.size
    → Carries cap t w tp m (body_turn tp from h h.size g k) m' → On cap t w tp m (between b g (grown_by h.size k)) m'
unfolding Carries
whole_on cap t tp w from b h g k m m' kind-is goes_on l q c =
    let e = sym (body_read tp from h.size h g k l) in
    rw (sym q) at (rw (e, kind-is, goes_on (from + h.size) g (grown_by h.size k)) at c)

pub carries_strides : (cap : ℕ) (t : Stamp) (tp : List ℕ) (w : Walk) (r : Turn) (m m' : List ℕ) → Carries cap t w tp m r m' → Strides cap t w tp m r m'
unfolding Carries Strides
carries_strides cap t tp w (More x) m m' c = record { same = c.same; sound = c.sound; less = omega (arith, c.less) }
carries_strides cap t tp w (Stop a) m m' c = c

-- ---- fill

module _ (tp : List ℕ) where
  pub skips_none : (a : ℕ) → a ≤ length tp → Skips tp a a
  skips_none a l = record { on = omega arith; within = l; same = λ cap t g m full. refl }

  pub skips_on : (a b c : ℕ) → Skips tp a b → Skips tp b c → Skips tp a c
  skips_on a b c x y =
      record { on = omega (arith, x.on, y.on); within = y.within; same = λ cap t g m full. y.same cap t g m full ∙ x.same cap t g m full }

  pub fill_skips : (bytes : Bytes tp) (at b : ℕ) (h : Header) → EpAt Fill tp at h → 6 + h.size ≤ length tp - at → b ≡ at + (6 + h.size) → Skips tp at b
  fill_skips bytes at b h s l q =
      let six = s.stands.six in
      record { on = omega arith; within = omega arith; same = λ cap t g m full. on cap t g m full }
    where
      on : (cap : ℕ) (t : Stamp) (g : Place) (m : List ℕ) → length m ≡ cap → pull_of cap t (between b g None) tp m ≡ pull_of cap t (between at g None) tp m
      on cap t g m full =
          let six = s.stands.six in
          let c = ep_carries cap t tp m full bytes at g None h s.stands (omega arith) None (fill_opened (at + 6) h (place_at t at) cap s.kind) in
          let o : On cap t (between at g None) tp m (between b (place_at t at) None) m = whole_on cap t tp (between at g None) (at + 6) b h (place_at t at) None m m s.kind (λ at g k. refl) (omega arith) (omega arith) c in
          began_free cap t tp b g (place_at t at) None m ∙ o.same

  -- ---- middles

  module _ (cap c : ℕ) where
    pub joins_none : (a n : ℕ) (m : List ℕ) → a ≤ length tp → n ≤ cap → Joins cap tp c a n m a n m
    joins_none a n m l r = record { on = omega arith; within = l; roomy = r; same = λ t g e p u. refl }

    pub joins_on : (a n : ℕ) (m : List ℕ) (b l : ℕ) (m' : List ℕ) (d k : ℕ) (m'' : List ℕ) → Joins cap tp c a n m b l m' → Joins cap tp c b l m' d k m'' → Joins cap tp c a n m d k m''
    joins_on a n m b l m' d k m'' x y =
        record { on = omega (arith, x.on, y.on); within = y.within; roomy = y.roomy; same = λ t g e p u. y.same t g e p u ∙ x.same t g e p u }

    -- a middle's data into the room
    pub middle_put : (m m' : List ℕ) (from size n : ℕ) → from + size ≤ length tp → n + size ≤ length m → m' ≡ copied m n (take (from + size - from) (drop from tp)) → m' ≡ paste m n (drop from tp) size
    middle_put m m' from size n l fits e = put_is tp from size 0 0 nowhere n (kept_by 0 0 nowhere n) m m' refl l fits e
      where
        nowhere : Place
        nowhere = place_at (record { number = 0; byte = 0 }) 0

    pub middle_joins : (bytes : Bytes tp) (m m' : List ℕ) → length m ≡ cap → (at n b l : ℕ) (h : Header) → EpAt Middle tp at h → h.flips ≡ 0 → h.content ≡ c → n ≤ cap → h.size ≤ cap - n
        → 6 + h.size ≤ length tp - at → b ≡ at + 6 + h.size → l ≡ n + h.size → m' ≡ paste m n (drop (at + 6) tp) h.size → Joins cap tp c at n m b l m'
    middle_joins bytes m m' full at n b l h s intact same fits most long q z put =
        record { on = omega arith; within = omega arith; roomy = omega arith; same = λ t g e p u. on t g e p u }
      where
        on : (t : Stamp) (g : Place) (e : ℕ) (p : Place) → e ≤ 4294967295 → pull_of cap t (between b g (kept_by c e p l)) tp m' ≡ pull_of cap t (between at g (kept_by c e p n)) tp m
        on t g e p u =
            let f = ep_carries cap t tp m full bytes at g (kept_by c e p n) h s.stands (omega arith) (kept_by c e p n) (middle_opened (at + 6) h (place_at t at) cap c e p n s.kind same intact u most) in
            let k : min h.size (length tp - (at + 6)) ≡ h.size = omega arith in
            let o : On cap t (between at g (kept_by c e p n)) tp m (between b (place_at t at) (kept_by c e p (n + h.size))) (paste m n (drop (at + 6) tp) h.size) =
            whole_on cap t tp (between at g (kept_by c e p n)) (at + 6) b h (place_at t at) (kept_by c e p n) m _ s.kind (λ at g k. refl) (omega arith) (omega arith) (rw k at f) in
            began_free cap t tp b g (place_at t at) (kept_by c e p l) m' ∙ rw (z, put) o.same

-- ---- a complete EP

pub complete_strides : (cap : ℕ) (t : Stamp) (tp m : List ℕ) → length m ≡ cap → Bytes tp → (at : ℕ) (g : Place) (h : Header) → EpAt Complete tp at h → h.size ≤ cap
    → Strides cap t (between at g None) tp m (body_turn tp (at + 6) h h.size (place_at t at) (kept_by h.content h.flips (place_at t at) 0))
    (pasted (kept_by h.content h.flips (place_at t at) 0) m (drop (at + 6) tp) (min h.size (length tp - (at + 6))))
complete_strides cap t tp m full bytes at g h s l =
    carries_strides cap t tp _ _ m _ (ep_carries cap t tp m full bytes at g None h s.stands (omega arith) (kept_by h.content h.flips (place_at t at) 0) (complete_opened (at + 6) h (place_at t at) cap s.kind l))

-- ---- strides, one behind the other

module _ (cap : ℕ) (t : Stamp) (tp : List ℕ) where
  pub stays : (w : Walk) (m : List ℕ) → Sound cap (length tp) w → Strides cap t w tp m (More w) m
  unfolding Strides
  stays w m s = record { same = refl; sound = s; less = omega arith }

  pub reach_then : (w x : Walk) (r : Turn) (m m' m'' : List ℕ) → Reaches cap t w tp m x m' → Strides cap t x tp m' r m'' → Strides cap t w tp m r m''
  unfolding Strides
  reach_then w x (More y) m m' m'' o c = record { same = c.same ∙ o.same; sound = c.sound; less = omega (arith, o.less, c.less) }
  reach_then w x (Stop a) m m' m'' o c = record { same = c.same ∙ o.same; sound = c.sound; gained = c.gained }

  -- and a turn behind them
  pub reach_carries : (w x : Walk) (r : Turn) (m m' m'' : List ℕ) → Reaches cap t w tp m x m' → Carries cap t x tp m' r m'' → Carries cap t w tp m r m''
  unfolding Carries
  reach_carries w x (More y) m m' m'' o c = record { same = c.same ∙ o.same; sound = c.sound; less = omega (arith, o.less, c.less) }
  reach_carries w x (Stop a) m m' m'' o c = record { same = c.same ∙ o.same; sound = c.sound; gained = c.gained }

  skips_reach : (a b : ℕ) (g : Place) (m : List ℕ) → length m ≡ cap → Skips tp a b → Reaches cap t (between a g None) tp m (between b g None) m
  skips_reach a b g m full s =
      record { same = s.same cap t g m full; sound = record { at = s.within; phase = (omega arith, omega arith, omega arith) }; less = omega (arith, s.on, s.within) }

  pub free_on : (a b : ℕ) (g : Place) (m : List ℕ) → length m ≡ cap → Skips tp a b → Strides cap t (between a g None) tp m (More (between b g None)) m
  unfolding Strides
  free_on a b g m full s = skips_reach a b g m full s

  pub free_complete : (a b : ℕ) (g : Place) (m m' : List ℕ) → length m ≡ cap → Bytes tp → Skips tp a b → (h : Header) → EpAt Complete tp b h → h.size ≤ cap → (r : Turn)
      → r ≡ body_turn tp (b + 6) h h.size (place_at t b) (kept_by h.content h.flips (place_at t b) 0)
      → m' ≡ pasted (kept_by h.content h.flips (place_at t b) 0) m (drop (b + 6) tp) (min h.size (length tp - (b + 6)))
      → Strides cap t (between a g None) tp m r m'
  free_complete a b g m m' full bytes s h e l r q z =
      rw (q, z) (reach_then (between a g None) (between b g None) _ m m _ (skips_reach a b g m full s) (complete_strides cap t tp m full bytes b g h e l))

  module _ (w : Walk) (n x : ℕ) (s : Sound cap (length tp) w) (p : w.phase ≡ Head n x) (z : n ≡ 0) where
    phase_is : w.phase ≡ Head 0 0
    phase_is =
        let f = rw (p, z) at s.phase in
        let y : x ≡ 0 = omega (arith, f.1) in
        p ∙ ap (λ (n : ℕ). Head n x) z ∙ ap (Head 0) y

    pub kept_in_lem : (c e : ℕ) (b : Place) (k : ℕ) → w.kept ≡ kept_by c e b k → k ≤ cap
    kept_in_lem c e b k q = let f = rw (p, q) at s.phase in omega (arith, f.2)

    pub walk_is : (k : Option Kept) → w.kept ≡ k → between w.at w.began k ≡ w
    walk_is k e = ap (λ (p : Phase). walk_at w.at p w.began k) (sym phase_is) ∙ ap (walk_at w.at w.phase w.began) (sym e)

    pub on_free : (r : Turn) (m m' : List ℕ) → w.kept ≡ None → Strides cap t (between w.at w.began None) tp m r m' → Strides cap t w tp m r m'
    on_free r m m' e c = subst (λ (v : Walk). Strides cap t v tp m r m') (walk_is None e) c

    pub on_joined : (c e : ℕ) (b : Place) (k : ℕ) (m m' : List ℕ) (at l : ℕ) → w.kept ≡ kept_by c e b k → e ≤ 4294967295 → Joins cap tp c w.at k m at l m'
        → Strides cap t w tp m (More (walk_at at (Head n x) w.began (kept_by c e b l))) m'
    unfolding Strides
    on_joined c e b k m m' at l q u j =
        let o : Reaches cap t (between w.at w.began (kept_by c e b k)) tp m (between at w.began (kept_by c e b l)) m' =
        record { same = j.same t w.began e b u; sound = record { at = j.within; phase = (omega arith, omega arith, omega (arith, j.roomy)) }; less = omega (arith, j.on, j.within) } in
        let v : between at w.began (kept_by c e b l) ≡ walk_at at (Head n x) w.began (kept_by c e b l) = ap (λ (p : Phase). walk_at at p w.began (kept_by c e b l)) (sym phase_is ∙ p) in
        subst (λ (y : Walk). Reaches cap t w tp m y m') v (subst (λ (y : Walk). Reaches cap t y tp m (between at w.began (kept_by c e b l)) m') (walk_is (kept_by c e b k) q) o)

-- ---- the loop over strides and turns: from w₀ with the room's bytes m₀ it has come to w and m

module _ (cap : ℕ) (t : Stamp) (w : Walk) (tp m m' : List ℕ) (r : Turn) (c : Strides cap t w tp m r m') where
  pub stride_on : (x : Walk) → r ≡ More x → Reaches cap t w tp m x m'
  unfolding Strides
  stride_on x e = subst (λ (y : Turn). Strides cap t w tp m y m') e c

  pub stride_ends : (a : Answer) → r ≡ Stop a → (w₀ : Walk) (m₀ : List ℕ) → pull_of cap t w tp m ≡ pull_of cap t w₀ tp m₀ → Ends cap t w₀ tp m₀ a m'
  unfolding Strides
  stride_ends a e w₀ m₀ p =
      let q : Ends cap t w tp m a m' = subst (λ (y : Turn). Strides cap t w tp m y m') e c in
      record { same = q.same ∙ p; sound = q.sound; gained = q.gained }

module _ (t : Stamp) (tp m m' m'' : List ℕ) (w x : Walk) (r : Turn) (cap : ℕ) (o : Reaches cap t w tp m x m') (full : length m' ≡ cap) (bytes : Bytes tp)
    (d : (r ≡ advance_of (length m') t x tp) × (m'' ≡ room_of x tp m')) where
  both : Carries cap t w tp m r m''
  both = reach_carries cap t tp w x r m m' m'' o (rw (d.0, full, d.1) (advance_carries cap t tp m' full bytes x o.sound))

  pub both_on : (y : Walk) → r ≡ More y → On cap t w tp m y m''
  unfolding Carries
  both_on y e = rw e at both

  pub both_ends : (a : Answer) → r ≡ Stop a → (w₀ : Walk) (m₀ : List ℕ) → pull_of cap t w tp m ≡ pull_of cap t w₀ tp m₀ → Ends cap t w₀ tp m₀ a m''
  unfolding Carries
  both_ends a e w₀ m₀ p = let q : Ends cap t w tp m a m'' = rw e at both in record { same = q.same ∙ p; sound = q.sound; gained = q.gained }
