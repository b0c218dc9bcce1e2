-- What the walk over the low-latency part hands out is the data of one whole LLEP. Assumes nothing.
use mathlib.Core.Path.{ap, refl, subst, sym, ◌∙◌, ◌≡◌}
use mathlib.Core.Logic.{inl, inr, ◌⊎◌}
use mathlib.Core.Bool.{Bool, cond, false, true}
use mathlib.Core.List.{List}
use Prim.Native.Nat.{suc, zero, ℕ, ◌+◌, ◌≤◌}
use native.Mathlib.Omega.{arith}
use lib.Dec.{eqb, leb, ltb}
use lib.ListN.{drop, get_or, length, take}
use lib.Seq.{get_or-drop}
use borrow.Author.Tests.{eqb-false, eqb-true, leb-true}
use Rattle.std.specs.Prelude.{None, Some, Option}
use Rattle.golay.specs.Answers.{end_of}
use Rattle.golay.specs.declared.End.{End}
use Rattle.golay.specs.declared.End.TheVariants.{Neither, Ones, Zeros}
use Rattle.wire.specs.Reading.{header_of, sort_of}
use Rattle.wire.specs.declared.Header.{Header}
use Rattle.wire.specs.declared.Sort.{Sort}
use Rattle.receiver.specs.declared.Find.{Find}
use Rattle.receiver.specs.declared.kind.Kind.{Kind}
use Rattle.receiver.specs.declared.kind.Kind.TheVariants.{Complete, Fill, First, Last, Middle, Reserved}
use Rattle.receiver.specs.declared.low.Lows.{Lows}
use Rattle.receiver.specs.Forecast.{start}
use Rattle.receiver.specs.Kind.{kind_by, kind_of, piece_of}
use Rattle.receiver.specs.Low.{begins, counting, ended, ends_by, llep, sized}
use Rattle.receiver.specs.Lows.{and_then, lows, one_of, passed_of}
use Rattle.receiver.proofs.Walking.{broken_else, inside_at, same_header}
use Rattle.wire.specs.declared.Sort.TheVariants as S
use Rattle.receiver.specs.declared.Find.TheVariants as F
use Rattle.receiver.specs.declared.low.Lows.TheVariants as L

abbrev pub EndsWell : ℕ → Type 0
EndsWell b = (end_of b ≡ Zeros) ⊎ (end_of b ≡ Ones)

-- an LLEP with this header at this place of a TP's payload: complete, of content 1 to 6, and all of it there
pub record WholeLlep (tp : List ℕ) (at : ℕ) (h : Header) : Type 0 where
  pub payload : 4 ≤ at
  pub inside : at + 7 + h.size ≤ length tp
  pub header : header_of (take 6 (drop at tp)) ≡ Some h
  pub complete : h.fragment ≡ 0
  pub known : (1 ≤ h.content) × (h.content ≤ 6)
  pub ended : EndsWell (get_or tp (at + 6 + h.size) 0)

-- this content and stretch are those of its data
pub record DataOf (tp : List ℕ) (at : ℕ) (h : Header) (c start n : ℕ) : Type 0 where
  pub llep : WholeLlep tp at h
  pub content : c ≡ h.content
  pub place : start ≡ at + 6
  pub size : n ≡ h.size

-- of one that begins with this byte of the TP
abbrev pub LowRead : List ℕ → ℕ → ℕ → ℕ → ℕ → Type 0
LowRead tp at c start n = (h : Header) × DataOf tp at h c start n

abbrev pub LowOk : List ℕ → ℕ → Find → Type 0
LowOk tp at F.Nothing = 0 ≤ 0
LowOk tp at F.Refused = 0 ≤ 0
LowOk tp at (F.Notice n) = 0 ≤ 0
LowOk tp at (F.Low c start n) = LowRead tp at c start n
LowOk tp at (F.Ordinary c n) = 0 ≤ 0

-- what is read of an LLEP that isn't broken

ended_well : (b : ℕ) (x : End) (g h : Header) (m : Bool) → end_of b ≡ x → ended x g ≡ Some (h, m) → (g ≡ h) × EndsWell b
ended_well b Zeros g h m q e = (same_header g h false m e, inl q)
ended_well b Ones g h m q e = (same_header g h true m e, inr q)
ended_well b Neither g h m q e = (cc, inl cc)

-- the header as it is read, with which the flips of the end byte are counted
pub record ReadAs (bs : List ℕ) (h : Header) : Type 0 where
  pub read : Header
  pub header : header_of (take 6 bs) ≡ Some read
  pub counted : h ≡ counting (get_or bs (6 + read.size) 0) read
  pub ended : EndsWell (get_or bs (6 + read.size) 0)

begins_read : (o : Option Header) (bs : List ℕ) (h : Header) (m : Bool) → header_of (take 6 bs) ≡ o → begins o bs ≡ Some (h, m) → ReadAs bs h
unfolding sized
begins_read None bs h m q e = let z : ◌≡◌ {A = ℕ} 0 1 = cc in absurd (omega arith)
begins_read (Some g) bs h m q e =
    let b = get_or bs (6 + g.size) 0 in
    let t = ended_well b (end_of b) (counting b g) h m refl (broken_else (ltb (length bs) (7 + g.size)) (ends_by b g) h m e).1 in
    record { read = g; header = q; counted = sym t.0; ended = t.1 }

llep_read : (bs : List ℕ) (h : Header) (m : Bool) → llep bs ≡ Some (h, m) → ReadAs bs h
unfolding llep
llep_read bs h m e = begins_read (header_of (take 6 bs)) bs h m refl (broken_else (ltb (length bs) 7) (begins (header_of (take 6 bs)) bs) h m e).1

piece_complete : (f : ℕ) → piece_of f Complete First ≡ Complete → f ≡ 0
unfolding piece_of
piece_complete f e = by (eqb f 0) refl (eqb f 1) (eqb f 2) e
  where
    by : (a : Bool) → eqb f 0 ≡ a → (b c : Bool) → cond a Complete (cond b First (cond c Middle Last)) ≡ Complete → f ≡ 0
    by true q b c e = eqb-true f 0 q
    by false q true c e = cc
    by false q false true e = cc
    by false q false false e = cc

piece_reserved : (f : ℕ) → piece_of f Reserved Reserved ≡ Complete → ◌≡◌ {A = ℕ} 0 1
unfolding piece_of
piece_reserved f e = by (eqb f 0) (eqb f 1) (eqb f 2) e
  where
    by : (a b c : Bool) → cond a Reserved (cond b Reserved (cond c Middle Last)) ≡ Complete → ◌≡◌ {A = ℕ} 0 1
    by true b c e = cc
    by false true c e = cc
    by false false true e = cc
    by false false false e = cc

not_zero : (c : ℕ) → (c ≡ 0 → ⊥) → 1 ≤ c
not_zero zero n = absurd (n refl)
not_zero (suc c) n = omega arith

sort_known : (c : ℕ) → sort_of c ≡ S.Known → (1 ≤ c) × (c ≤ 6)
unfolding sort_of
sort_known c e = by (eqb c 0) refl (leb c 6) refl e
  where
    by : (a : Bool) → eqb c 0 ≡ a → (b : Bool) → leb c 6 ≡ b → cond a S.Fill (cond b S.Known S.Reserved) ≡ S.Known → (1 ≤ c) × (c ≤ 6)
    by true q b l e = let z : ◌≡◌ {A = ℕ} 0 1 = cc in absurd (omega arith)
    by false q true l e = (not_zero c (eqb-false c 0 q), leb-true c 6 l)
    by false q false l e = let z : ◌≡◌ {A = ℕ} 0 1 = cc in absurd (omega arith)

kind_known : (s : Sort) (f c : ℕ) → sort_of c ≡ s → kind_by s f ≡ Complete → (f ≡ 0) × ((1 ≤ c) × (c ≤ 6))
kind_known S.Fill f c q e = let z : ◌≡◌ {A = ℕ} 0 1 = cc in absurd (omega arith)
kind_known S.Known f c q e = (piece_complete f e, sort_known c q)
kind_known S.Reserved f c q e = let z = piece_reserved f e in absurd (omega arith)

complete_known : (h : Header) → kind_of h ≡ Complete → (h.fragment ≡ 0) × ((1 ≤ h.content) × (h.content ≤ 6))
unfolding kind_of
complete_known h e = kind_known (sort_of h.content) h.fragment h.content refl e

-- the walk over the part

abbrev pub LowsOk : List ℕ → Lows → Type 0
LowsOk tp (L.Broken i) = 0 ≤ 0
LowsOk tp (L.End i) = 0 ≤ 0
LowsOk tp (L.Gives f e from more i) = LowOk tp from f

passed_ok : (tp : List ℕ) (k : Kind) (h : Header) (m : Bool) (at : ℕ) (go : ℕ → Lows) → kind_of h ≡ k → 4 ≤ at → llep (drop at tp) ≡ Some (h, m)
    → ((i : ℕ) → 4 ≤ i → LowsOk tp (go i)) → LowsOk tp (and_then (passed_of k h m at) go)
passed_ok tp Fill h true at go q b e ih = ih (at + 7 + h.size) (omega arith)
passed_ok tp Fill h false at go q b e ih = omega arith
passed_ok tp Reserved h m at go q b e ih = omega arith
passed_ok tp Complete h m at go q b e ih =
    let r = llep_read (drop at tp) h m e in
    let g = r.read in
    let k = complete_known h q in
    let c : h.content ≡ g.content = ap (λ (h : Header). h.content) r.counted in
    let f : h.fragment ≡ g.fragment = ap (λ (h : Header). h.fragment) r.counted in
    let n : h.size ≡ g.size = ap (λ (h : Header). h.size) r.counted in
    let i : at + (6 + g.size) ≡ at + 6 + g.size = omega arith in
    let z : get_or (drop at tp) (6 + g.size) 0 ≡ get_or tp (at + 6 + g.size) 0 = get_or-drop at tp (6 + g.size) 0 ∙ ap (λ (i : ℕ). get_or tp i 0) i in
    let x = inside_at tp at h m e in
    let l : WholeLlep tp at g = record {
      payload = b;
      inside = omega arith;
      header = r.header;
      complete = sym f ∙ k.0;
      known = subst (λ (c : ℕ). (1 ≤ c) × (c ≤ 6)) c k.1;
      ended = subst EndsWell z r.ended;
    } in
    (g, record { llep = l; content = c; place = refl; size = n })
passed_ok tp First h m at go q b e ih = omega arith
passed_ok tp Middle h m at go q b e ih = omega arith
passed_ok tp Last h m at go q b e ih = omega arith

one_ok : (tp : List ℕ) (l : Option (Header × Bool)) (at : ℕ) (go : ℕ → Lows) → 4 ≤ at → llep (drop at tp) ≡ l → ((i : ℕ) → 4 ≤ i → LowsOk tp (go i)) → LowsOk tp (and_then (one_of l at) go)
one_ok tp None at go b q ih = omega arith
one_ok tp (Some (h, m)) at go b q ih = passed_ok tp (kind_of h) h m at go refl b q ih

pub lows_ok : (k : ℕ) (tp : List ℕ) (at : ℕ) → 4 ≤ at → LowsOk tp (lows k tp at)
unfolding lows
lows_ok zero tp at b = omega arith
lows_ok (suc k) tp at b = one_ok tp (llep (drop at tp)) at (λ i. lows k tp i) b refl (λ i c. lows_ok k tp i c)
