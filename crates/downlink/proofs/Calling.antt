-- Calls until the TP ends, of any number of TPs, give what the definition of whole TPs lists: the receiver's own theorem on its life,
-- for the calls of the statement. Assumes nothing.
use mathlib.Core.Path.{◌≡◌, refl, sym, ap, ap₂, ◌∙◌, subst, subst⁻¹}
use mathlib.Core.Bool.{Bool, true, false, ◌&&◌}
use mathlib.Core.List.{List, [], ◌∷◌, ◌++◌, append-nil, map, map-append}
use Prim.Native.Nat.{ℕ}
use native.Mathlib.Omega.{arith}
use lib.Dec.{leb}
use borrow.Author.Tests.{le-leb, leb-true}
use Rattle.receiver.specs.declared.About.{About}
use Rattle.receiver.specs.declared.Find.{Find}
use Rattle.receiver.specs.declared.Find.TheVariants as F
use Rattle.receiver.specs.Join.{Finding, notice, low, ordinary}
use Rattle.receiver.specs.Low.{wire, tag_of}
use Rattle.receiver.specs.declared.Receiver.{Receiver}
use Rattle.receiver.specs.State.{Able}
use Rattle.receiver.specs.Call.{data_of, gap_of, stamps_of}
use Rattle.receiver.specs.Tp.{Input, tp_in, gap_told}
use Rattle.receiver.proofs.Ending.{Ended}
use Rattle.receiver.proofs.Rest.{saying}
use Rattle.receiver.proofs.Called as C
use Rattle.receiver.proofs.Listening as N
use Rattle.downlink.specs.Hearing.{Listener, Called, onward, ends, Either, Calls, told_of_gap, Hears, Packet, in_tp, handed_out}
use Rattle.downlink.specs.Hearing as H
use Rattle.downlink.proofs.plain.Low as L
use Rattle.downlink.proofs.Strip.{finding}
use Rattle.downlink.proofs.Joins.{packets, packets_append}
use Rattle.downlink.proofs.Listen.{lows_of, lows_append}

-- a find, as the definition of a whole TP tells it
abbrev finding_of : Find → About → List ℕ → List (Finding wire)
finding_of F.Nothing a d = []
finding_of F.Refused a d = []
finding_of (F.Notice n) a d = notice n a.at ∷ []
finding_of (F.Low c start n) a d = low (tag_of c a.repaired a.at) d ∷ []
finding_of (F.Ordinary c n) a d = ordinary (tag_of c a.repaired a.at) d ∷ []

abbrev pub findings : List ℕ → List Called → List (Finding wire)
findings tp [] = []
findings tp (c ∷ cs) = finding_of c.step.find c.step.about (data_of c.step.find tp c.room) ++ findings tp cs

-- ---- by sort, of plain finds

abbrev lowly : List (Finding wire) → List Packet
lowly fs = lows_of (map finding fs)

abbrev ordinarily : List (Finding wire) → List Packet
ordinarily fs = packets L.wire (map finding fs)

lowly_append : (fs gs : List (Finding wire)) → lowly (fs ++ gs) ≡ lowly fs ++ lowly gs
lowly_append fs gs = ap lows_of (map-append finding fs gs) ∙ lows_append (map finding fs) (map finding gs)

ordinarily_append : (fs gs : List (Finding wire)) → ordinarily (fs ++ gs) ≡ ordinarily fs ++ ordinarily gs
ordinarily_append fs gs = ap (packets L.wire) (map-append finding fs gs) ∙ packets_append L.wire (map finding fs) (map finding gs)

low_of : (f : Find) (a : About) (d : List ℕ) → H.low f d ≡ lowly (finding_of f a d)
low_of F.Nothing a d = refl
low_of F.Refused a d = refl
low_of (F.Notice n) a d = refl
low_of (F.Low c start n) a d = refl
low_of (F.Ordinary c n) a d = refl

ordinary_of_lem : (f : Find) (a : About) (d : List ℕ) → H.ordinary f d ≡ ordinarily (finding_of f a d)
ordinary_of_lem F.Nothing a d = refl
ordinary_of_lem F.Refused a d = refl
ordinary_of_lem (F.Notice n) a d = refl
ordinary_of_lem (F.Low c start n) a d = refl
ordinary_of_lem (F.Ordinary c n) a d = refl

lows_in_lem : (tp : List ℕ) (cs : List Called) → in_tp H.low tp cs ≡ lowly (findings tp cs)
lows_in_lem tp [] = refl
lows_in_lem tp (c ∷ cs) =
    let d = data_of c.step.find tp c.room in
    ap₂ (λ (a b : List Packet). a ++ b) (low_of c.step.find c.step.about d) (lows_in_lem tp cs)
    ∙ sym (lowly_append (finding_of c.step.find c.step.about d) (findings tp cs))

ordinaries_in : (tp : List ℕ) (cs : List Called) → in_tp H.ordinary tp cs ≡ ordinarily (findings tp cs)
ordinaries_in tp [] = refl
ordinaries_in tp (c ∷ cs) =
    let d = data_of c.step.find tp c.room in
    ap₂ (λ (a b : List Packet). a ++ b) (ordinary_of_lem c.step.find c.step.about d) (ordinaries_in tp cs)
    ∙ sym (ordinarily_append (finding_of c.step.find c.step.about d) (findings tp cs))

abbrev pub all_findings : List Input → List (List Called) → List (Finding wire)
all_findings [] css = []
all_findings (tp_in tp ∷ xs) [] = []
all_findings (tp_in tp ∷ xs) (cs ∷ css) = findings tp cs ++ all_findings xs css
all_findings (gap_told ∷ xs) css = all_findings xs css

pub lows_out : (xs : List Input) (css : List (List Called)) → handed_out H.low xs css ≡ lows_of (map finding (all_findings xs css))
lows_out [] css = refl
lows_out (tp_in tp ∷ xs) [] = refl
lows_out (tp_in tp ∷ xs) (cs ∷ css) =
    ap₂ (λ (a b : List Packet). a ++ b) (lows_in_lem tp cs) (lows_out xs css) ∙ sym (lowly_append (findings tp cs) (all_findings xs css))
lows_out (gap_told ∷ xs) css = lows_out xs css

pub ordinaries_out : (xs : List Input) (css : List (List Called)) → handed_out H.ordinary xs css ≡ packets L.wire (map finding (all_findings xs css))
ordinaries_out [] css = refl
ordinaries_out (tp_in tp ∷ xs) [] = refl
ordinaries_out (tp_in tp ∷ xs) (cs ∷ css) =
    ap₂ (λ (a b : List Packet). a ++ b) (ordinaries_in tp cs) (ordinaries_out xs css) ∙ sym (ordinarily_append (findings tp cs) (all_findings xs css))
ordinaries_out (gap_told ∷ xs) css = ordinaries_out xs css

-- ---- the receiver's words for it

saying_is : (cap : ℕ) (f : Find) (a : About) (d : List ℕ) → saying cap f a d ≡ finding_of f a d
saying_is cap F.Nothing a d = refl
saying_is cap F.Refused a d = refl
saying_is cap (F.Notice n) a d = refl
saying_is cap (F.Low c start n) a d = refl
saying_is cap (F.Ordinary c n) a d = refl

both : (a b : Bool) → a && b ≡ true → (a ≡ true) × (b ≡ true)
both true true e = (refl, refl)
both true false e = (refl, e)
both false b e = (e, cc)

ended : (f : Find) → ends f ≡ true → Ended f
ended F.Nothing e = omega arith
ended F.Refused e = omega arith
ended (F.Notice n) e = let p = both (leb 6 n) (leb n 9) e in (leb-true 6 n p.0, leb-true n 9 p.1)
ended (F.Low c start n) e = let z : ◌≡◌ {A = ℕ} 0 1 = cc in omega arith
ended (F.Ordinary c n) e = let z : ◌≡◌ {A = ℕ} 0 1 = cc in omega arith

pub not_ended : (f : Find) → ends f ≡ false → Ended f → ⊥
not_ended F.Nothing e q = let z : ◌≡◌ {A = ℕ} 0 1 = cc in omega arith
not_ended F.Refused e q = let z : ◌≡◌ {A = ℕ} 0 1 = cc in omega arith
not_ended (F.Notice n) e q =
    let t : leb 6 n && leb n 9 ≡ true = rw (le-leb 6 n q.0, le-leb n 9 q.1) in
    let z : ◌≡◌ {A = ℕ} 0 1 = cc in
    omega arith
not_ended (F.Low c start n) e q = omega arith
not_ended (F.Ordinary c n) e q = omega arith

calls_are : (tp : List ℕ) (cs : List Called) (x : Listener) → Calls tp x cs
    → C.Calls stamps_of tp x.receiver x.room (findings tp cs) (onward x cs).receiver (onward x cs).room
calls_are tp [] x calls = absurd calls
calls_are tp (c ∷ cs) x (gives, then) = go (ends c.step.find) refl then (λ z. calls_are tp cs (record { receiver = c.step.receiver; room = c.room }) z)
  where
    x' : Listener
    x' = record { receiver = c.step.receiver; room = c.room }

    d : List ℕ
    d = data_of c.step.find tp c.room

    said : saying x.receiver.limit c.step.find c.step.about d ≡ finding_of c.step.find c.step.about d
    said = saying_is x.receiver.limit c.step.find c.step.about d

    go : (t : Bool) → ends c.step.find ≡ t → Either t (cs ≡ []) (Calls tp x' cs)
        → (Calls tp x' cs → C.Calls stamps_of tp x'.receiver x'.room (findings tp cs) (onward x' cs).receiver (onward x' cs).room)
        → C.Calls stamps_of tp x.receiver x.room (finding_of c.step.find c.step.about d ++ findings tp cs) (onward x' cs).receiver (onward x' cs).room
    go true e none ih =
        subst⁻¹ (λ (ys : List Called). C.Calls stamps_of tp x.receiver x.room (finding_of c.step.find c.step.about d ++ findings tp ys) (onward x' ys).receiver (onward x' ys).room) none
        (subst (λ (fs : List (Finding wire)). C.Calls stamps_of tp x.receiver x.room fs c.step.receiver c.room) (said ∙ sym (append-nil (finding_of c.step.find c.step.about d)))
        (C.last (C.own x.receiver tp x.room c.step c.room gives) (ended c.step.find e)))
    go false e more ih =
        subst (λ (fs : List (Finding wire)). C.Calls stamps_of tp x.receiver x.room (fs ++ findings tp cs) (onward x' cs).receiver (onward x' cs).room) said
        (C.more (C.own x.receiver tp x.room c.step c.room gives) (not_ended c.step.find e) (ih more))

-- the receiver can be called again
pub able_on : (tp : List ℕ) (cs : List Called) (x : Listener) → Calls tp x cs → Able (onward x cs).receiver
able_on tp [] x calls = absurd calls
able_on tp (c ∷ cs) x (gives, then) = go (ends c.step.find) then (λ z. able_on tp cs x' z)
  where
    x' : Listener
    x' = record { receiver = c.step.receiver; room = c.room }

    go : (t : Bool) → Either t (cs ≡ []) (Calls tp x' cs) → (Calls tp x' cs → Able (onward x' cs).receiver) → Able (onward x' cs).receiver
    go true none ih = subst⁻¹ (λ (ys : List Called). Able (onward x' ys).receiver) none gives.able
    go false more ih = ih more

pub able_told : (r : Receiver) → Able r → Able (gap_of r)
able_told r a = record { size = a.size; walk = record { at = omega arith; phase = omega arith }; stage = omega arith }

-- all of it, and where the receiver stands at the end
pub lives : (xs : List Input) (css : List (List Called)) (x : Listener) → Able x.receiver → Hears x xs css
    → (y : Listener) × N.Life x.receiver x.room xs (all_findings xs css) y.receiver y.room
lives [] [] x able hears = (x, N.over)
lives [] (cs ∷ css) x able hears = absurd hears
lives (tp_in tp ∷ xs) [] x able hears = absurd hears
lives (tp_in tp ∷ xs) (cs ∷ css) x able hears =
    let l = lives xs css (onward x cs) (able_on tp cs x hears.0) hears.1 in
    (l.0, N.tp_on (calls_are tp cs x hears.0) l.1)
lives (gap_told ∷ xs) css x able hears =
    let a = able_told x.receiver able in
    let l = lives xs css (told_of_gap x) a hears in
    (l.0, N.gap_on (refl, a) l.1)
