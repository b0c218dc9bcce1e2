-- The low-latency walk: what its parts read is what the definitions read, and it stays within the TP.
-- Assumes nothing.
use mathlib.Core.Path.{ap, refl, subst, sym, ◌∙◌, ◌≡◌}
use mathlib.Core.Bool.{Bool, cond, false, true}
use mathlib.Core.List.{List}
use Prim.Native.Nat.{suc, zero, ℕ, ◌+◌, ◌-◌, ◌<◌, ◌≤◌}
use native.Mathlib.Omega.{arith}
use lib.Dec.{ltb}
use lib.ListN.{drop, get_or, length, length-drop, take}
use lib.Seq.{get_or-drop}
use borrow.Author.Tests.{le-ltb, lt-ltb, ltb-false}
use Rattle.std.specs.Prelude.{None, Some, Option}
use Rattle.digits.specs.Digits.{number}
use Rattle.golay.specs.Answers.{end_of}
use Rattle.golay.specs.declared.End.{End}
use Rattle.golay.specs.declared.End.TheVariants.{Neither, Ones, Zeros}
use Rattle.wire.specs.Reading.{header_in, header_of}
use Rattle.wire.specs.declared.Header.{Header}
use Rattle.wire.proofs.Laws.{few_flips}
use Rattle.receiver.specs.declared.Find.{Find}
use Rattle.receiver.specs.declared.kind.Kind.{Kind}
use Rattle.receiver.specs.declared.kind.Kind.TheVariants.{Complete, Fill, First, Last, Middle, Reserved}
use Rattle.receiver.specs.declared.low.Lows.{Lows}
use Rattle.receiver.specs.declared.low.One.TheVariants.{More, Stop}
use Rattle.receiver.specs.Kind.{kind_of}
use Rattle.receiver.specs.Low.{begins, counting, ended, ends_by, llep, sized}
use Rattle.receiver.specs.Lows.{and_then, lows, lows_of, one_of, passed_by, passed_of, repaired_of, told_of}
use Rattle.receiver.specs.declared.low.Lows.TheVariants as L

-- one LLEP

pub closed_out : (tp : List ℕ) (at : ℕ) (h : Header) → at + 7 ≤ length tp → length tp - at - 7 < h.size → None ≡ sized h (drop at tp)
unfolding sized
closed_out tp at h b l =
    let q : length (drop at tp) < 7 + h.size = omega (arith, length-drop at tp) in
    rw (lt-ltb (length (drop at tp)) (7 + h.size) q)

pub closed_in : (tp : List ℕ) (at : ℕ) (h : Header) → at + 7 ≤ length tp → h.size ≤ length tp - at - 7
    → ends_by (get_or tp (at + 6 + h.size) 0) h ≡ sized h (drop at tp)
unfolding sized
closed_in tp at h b l =
    let q : 7 + h.size ≤ length (drop at tp) = omega (arith, length-drop at tp) in
    let i : at + 6 + h.size ≡ at + (6 + h.size) = omega arith in
    let e : get_or tp (at + 6 + h.size) 0 ≡ get_or (drop at tp) (6 + h.size) 0 = ap (λ (i : ℕ). get_or tp i 0) i ∙ sym (get_or-drop at tp (6 + h.size) 0) in
    rw (le-ltb (length (drop at tp)) (7 + h.size) q) (ap (λ (b : ℕ). ends_by b h) e)

pub item_short : (tp : List ℕ) (at : ℕ) → length tp - at < 7 → None ≡ llep (drop at tp)
unfolding llep
item_short tp at l =
    let q : length (drop at tp) < 7 = omega (arith, length-drop at tp) in
    rw (lt-ltb (length (drop at tp)) 7 q)

begins_beyond : (o : Option Header) (bs : List ℕ) → o ≡ None → None ≡ begins o bs
begins_beyond None bs e = refl
begins_beyond (Some h) bs e = cc

begins_whole : (h : Header) (o : Option Header) (bs : List ℕ) → o ≡ Some h → sized h bs ≡ begins o bs
begins_whole h None bs e = cc
begins_whole h (Some g) bs e = let q : h ≡ g = cc in ap (λ (y : Header). sized y bs) q

long : (tp : List ℕ) (at : ℕ) → 7 ≤ length tp - at → llep (drop at tp) ≡ begins (header_in (number 0 (take 6 (drop at tp)))) (drop at tp)
unfolding llep header_of
long tp at l =
    let q : 7 ≤ length (drop at tp) = omega (arith, length-drop at tp) in
    rw (le-ltb (length (drop at tp)) 7 q)

pub item_beyond : (tp : List ℕ) (at n : ℕ) → 7 ≤ length tp - at → n ≡ number 0 (take 6 (drop at tp)) → header_in n ≡ None
    → None ≡ llep (drop at tp)
item_beyond tp at n l e r = begins_beyond (header_in n) (drop at tp) r ∙ ap (λ (n : ℕ). begins (header_in n) (drop at tp)) e ∙ sym (long tp at l)

pub item_whole : (tp : List ℕ) (at n : ℕ) (h : Header) → 7 ≤ length tp - at → n ≡ number 0 (take 6 (drop at tp)) → header_in n ≡ Some h
    → sized h (drop at tp) ≡ llep (drop at tp)
item_whole tp at n h l e r = begins_whole h (header_in n) (drop at tp) r ∙ ap (λ (n : ℕ). begins (header_in n) (drop at tp)) e ∙ sym (long tp at l)

pub read_few : (n : ℕ) (h : Header) → header_in n ≡ Some h → h.flips ≤ 8
read_few n h e = by (header_in n) refl e
  where
    by : (o : Option Header) → header_in n ≡ o → o ≡ Some h → h.flips ≤ 8
    by None q e = let z : ◌≡◌ {A = ℕ} 0 1 = cc in absurd (omega arith)
    by (Some g) q e = let z : g ≡ h = cc in few_flips n h (q ∙ ap Some z)

-- an LLEP that is whole lies within the bytes

pub broken_else : (b : Bool) (x : Option (Header × Bool)) (h : Header) (m : Bool) → cond b None x ≡ Some (h, m) → (b ≡ false) × (x ≡ Some (h, m))
broken_else true x h m e = (cc, cc)
broken_else false x h m e = (refl, e)

pub same_header : (g h : Header) (m n : Bool) → ◌≡◌ {A = Option (Header × Bool)} (Some (g, m)) (Some (h, n)) → g ≡ h
same_header g h m n e = let z : ◌≡◌ {A = Header × Bool} (g, m) (h, n) = cc in ap (λ (p : Header × Bool). p.0) z

ended_is : (x : End) (g h : Header) (m : Bool) → ended x g ≡ Some (h, m) → g ≡ h
ended_is Zeros g h m e = same_header g h false m e
ended_is Ones g h m e = same_header g h true m e
ended_is Neither g h m e = cc

begins_in_lem : (o : Option Header) (bs : List ℕ) (h : Header) (m : Bool) → begins o bs ≡ Some (h, m) → 7 + h.size ≤ length bs
unfolding sized
begins_in_lem None bs h m e = let z : ◌≡◌ {A = ℕ} 0 1 = cc in omega arith
begins_in_lem (Some g) bs h m e =
    let b = get_or bs (6 + g.size) 0 in
    let t = broken_else (ltb (length bs) (7 + g.size)) (ends_by b g) h m e in
    let q = ended_is (end_of b) (counting b g) h m t.1 in
    let s : g.size ≡ h.size = ap (λ (h : Header). h.size) q in
    omega (arith, ltb-false (length bs) (7 + g.size) t.0)

pub llep_in : (bs : List ℕ) (h : Header) (m : Bool) → llep bs ≡ Some (h, m) → 7 + h.size ≤ length bs
unfolding llep
llep_in bs h m e = begins_in_lem (header_of (take 6 bs)) bs h m (broken_else (ltb (length bs) 7) (begins (header_of (take 6 bs)) bs) h m e).1

pub inside_at : (tp : List ℕ) (at : ℕ) (h : Header) (m : Bool) → llep (drop at tp) ≡ Some (h, m) → at + 7 + h.size ≤ length tp
inside_at tp at h m e = omega (arith, llep_in (drop at tp) h m e, length-drop at tp)

pub passed_by_lem : (k : Kind) (h : Header) (m : Bool) (at : ℕ) (t u : Option Find) → t ≡ told_of k h at → t ≡ u
    → passed_by u (repaired_of k h) at m (at + 7 + h.size) ≡ passed_of k h m at
passed_by_lem k h m at t u e q = ap (λ (t : Option Find). passed_by t (repaired_of k h) at m (at + 7 + h.size)) (sym q ∙ e)

-- the loop: the walk from `at` says what the walk from `start` says

passed_more : (k : Kind) (h : Header) (m : Bool) (at i : ℕ) → passed_of k h m at ≡ More i → i ≡ at + 7 + h.size
passed_more Fill h true at i e = cc
passed_more Fill h false at i e = cc
passed_more Reserved h m at i e = cc
passed_more Complete h m at i e = cc
passed_more First h m at i e = cc
passed_more Middle h m at i e = cc
passed_more Last h m at i e = cc

pub ahead_at : (tp : List ℕ) (at i : ℕ) → one_of (llep (drop at tp)) at ≡ More i → (at < i) × (i ≤ length tp)
ahead_at tp at i e = by (llep (drop at tp)) refl e
  where
    by : (l : Option (Header × Bool)) → llep (drop at tp) ≡ l → one_of l at ≡ More i → (at < i) × (i ≤ length tp)
    by None q e = let z : ◌≡◌ {A = ℕ} 0 1 = cc in omega arith
    by (Some (h, m)) q e = let s = passed_more (kind_of h) h m at i e in let r = inside_at tp at h m q in omega arith

unfoldable pub Goes : List ℕ → ℕ → ℕ → Type 0
Goes tp start at = (k : ℕ) × ((length tp - at ≤ k) × (lows (suc k) tp at ≡ lows_of tp start))

pub starts : (tp : List ℕ) (start : ℕ) → Goes tp start start
unfolding Goes lows_of
starts tp start = (length tp, (omega arith, refl))

pub goes_on_at : (tp : List ℕ) (start at i : ℕ) → one_of (llep (drop at tp)) at ≡ More i → Goes tp start at → Goes tp start i
unfolding Goes lows
goes_on_at tp start at i e (zero, (h, w)) = let o = ahead_at tp at i e in absurd (omega arith)
goes_on_at tp start at i e (suc k, (h, w)) = let o = ahead_at tp at i e in (k, (omega arith, rw e at w))

pub stops_at : (tp : List ℕ) (start at : ℕ) (r : Lows) → one_of (llep (drop at tp)) at ≡ Stop r → Goes tp start at → r ≡ lows_of tp start
unfolding Goes lows
stops_at tp start at r e (k, (h, w)) = rw e at w

-- a walk comes to a place between its start and the TP's end

abbrev pub place : Lows → ℕ
place (L.Broken i) = i
place (L.End i) = i
place (L.Gives f e b more i) = i

abbrev Between : ℕ → Lows → ℕ → Type 0
Between a r z = (a ≤ place r) × (place r ≤ z)

passed_in : (k : Kind) (h : Header) (m : Bool) (at z : ℕ) (go : ℕ → Lows) → at + 7 + h.size ≤ z → ((i : ℕ) → i ≤ z → Between i (go i) z)
    → Between at (and_then (passed_of k h m at) go) z
passed_in Fill h true at z go l ih = let i = ih (at + 7 + h.size) l in (omega arith, i.1)
passed_in Fill h false at z go l ih = (omega arith, l)
passed_in Reserved h m at z go l ih = (omega arith, l)
passed_in Complete h m at z go l ih = (omega arith, l)
passed_in First h m at z go l ih = (omega arith, l)
passed_in Middle h m at z go l ih = (omega arith, l)
passed_in Last h m at z go l ih = (omega arith, l)

one_in : (tp : List ℕ) (l : Option (Header × Bool)) (at : ℕ) (go : ℕ → Lows) → llep (drop at tp) ≡ l → at ≤ length tp
    → ((i : ℕ) → i ≤ length tp → Between i (go i) (length tp)) → Between at (and_then (one_of l at) go) (length tp)
one_in tp None at go q b ih = (omega arith, b)
one_in tp (Some (h, m)) at go q b ih = passed_in (kind_of h) h m at (length tp) go (inside_at tp at h m q) ih

lows_in_lem : (k : ℕ) (tp : List ℕ) (at : ℕ) → at ≤ length tp → Between at (lows k tp at) (length tp)
unfolding lows
lows_in_lem zero tp at b = (omega arith, b)
lows_in_lem (suc k) tp at b = one_in tp (llep (drop at tp)) at (λ i. lows k tp i) refl b (λ i c. lows_in_lem k tp i c)

walk_in_lem : (tp : List ℕ) (at : ℕ) (r : Lows) → at ≤ length tp → lows_of tp at ≡ r → (at ≤ place r) × (place r ≤ length tp)
unfolding lows_of
walk_in_lem tp at r b e = subst (λ (r : Lows). Between at r (length tp)) e (lows_in_lem (suc (length tp)) tp at b)

pub low_in_lem : (low : Bool) (tp : List ℕ) (at : ℕ) (r : Lows) → at ≤ length tp → cond low (lows_of tp at) (L.End at) ≡ r → (at ≤ place r) × (place r ≤ length tp)
low_in_lem true tp at r b e = walk_in_lem tp at r b e
low_in_lem false tp at r b e = subst (λ (r : Lows). Between at r (length tp)) e (omega arith, b)
