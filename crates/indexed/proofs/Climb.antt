-- THE PLACES OF ONE TP rise: those of its ordinary bytes, and those of its low-latency packets. Assumes nothing.
use Prim.Native.Nat.{ℕ, zero, suc, ◌+◌, ◌-◌, ◌≤◌, ◌%◌}
use mathlib.Core.Path.{◌≡◌, refl, subst}
use mathlib.Core.Bool.{Bool, true, false, cond}
use mathlib.Core.List.{List, [], ◌∷◌, ◌++◌, map}
use native.Mathlib.Omega.{arith}
use lib.Dec.{eqb, leb, ltb}
use lib.ListN.{length, take, drop, get_or}
use Rattle.std.specs.Prelude.{Option, None, Some}
use Rattle.wire.specs.declared.Header.{Header}
use Rattle.wire.specs.Reading.{tp_number_in, stream_of, version_of}
use Rattle.digits.specs.Digits.{number}
use Rattle.receiver.specs.declared.Stamp.{Stamp}
use Rattle.receiver.specs.declared.Place.{Place}
use Rattle.receiver.specs.declared.kind.Kind.{Kind}
use Rattle.receiver.specs.declared.kind.Kind.TheVariants as K
use Rattle.receiver.specs.Place.{place_at, start_of, placed}
use Rattle.receiver.specs.Kind.{kind_of}
use Rattle.receiver.specs.Forecast.{drops, goes, way_at}
use Rattle.receiver.specs.Join.{Finding}
use Rattle.receiver.specs.Low.{wire, llep, given, Part, walked, walk, low_part}
use Rattle.receiver.specs.Tp.{Setting, Brings, refusing, dropping, behind, low_part_if, worded, brings, Input, tp_in, gap_told, way_of}
use Rattle.receiver.specs.Call.{always}
use Rattle.receiver.proofs.Facts.{wired}
use Rattle.indexed.specs.Packets.{Packet, handed, All}
use Rattle.indexed.proofs.Ways.{marks}
use Rattle.indexed.proofs.Inputs.{lows_of}
use Rattle.indexed.proofs.InOrder.{from}

-- of this TP, each behind the one before, from place i on
abbrev pub Climbs : Stamp → ℕ → List Place → Type 0
Climbs t i [] = Unit {0}
Climbs t i (p ∷ ps) = (p.stamp ≡ t) × (i ≤ p.at) × Climbs t (suc p.at) ps

pub climbs_from : (t : Stamp) (i j : ℕ) (ps : List Place) → i ≤ j → Climbs t j ps → Climbs t i ps
climbs_from t i j [] l c = tt
climbs_from t i j (p ∷ ps) l c = let m = c.1 in (c.0, (omega arith), c.2)

-- ---- ordinary bytes

-- a TP's byte 4 is its place 0
climbs_placed : (t : Stamp) (i : ℕ) (bs : List ℕ) → 4 ≤ i → Climbs t (i - 4) (map wire.mark (placed t i bs))
climbs_placed t i [] l = tt
climbs_placed t i (b ∷ bs) l =
    let e : suc i - 4 ≡ suc (i - 4) = omega arith in
    (refl, (omega arith), subst (λ (n : ℕ). Climbs t n (map wire.mark (placed t (suc i) bs))) e (climbs_placed t (suc i) bs (omega arith)))

way_climbs : (t : Stamp) (p : Place) (offset gone : ℕ) (bs : List (Place × ℕ)) → Climbs t 0 (map wire.mark bs)
    → Climbs t 0 (marks wire (way_at wire p offset gone bs))
unfolding way_at
way_climbs t p offset gone bs c = go (eqb offset 2047) (leb (gone + length bs) offset) (ltb offset gone)
  where
    go : (x y z : Bool) → Climbs t 0 (marks wire (cond x (goes p (length bs) bs) (cond y (drops 10 p) (cond z (drops 21 p) (goes p (offset - gone) bs)))))
    go true y z = c
    go false true z = tt
    go false false true = tt
    go false false false = c

-- ---- low-latency packets

abbrev pub places : List (Finding wire) → List Place
places fs = map (from wire wired) (handed wire fs)

abbrev pub Low : Packet wire → Type 0
Low q = q.is_low ≡ true

-- low-latency packets only, which climb
abbrev LowsFrom : Stamp → ℕ → List (Finding wire) → Type 0
LowsFrom t i fs = Climbs t i (places fs) × All Low (handed wire fs)

later_lows : (t : Stamp) (i : ℕ) (fs : List (Finding wire)) → LowsFrom t (suc i) fs → LowsFrom t i fs
later_lows t i fs c = (climbs_from t i (suc i) (places fs) (omega arith) c.0, c.1)

given_climbs : (k : Kind) (p : Place) (h : Header) (bs : List ℕ) (fs : List (Finding wire)) → LowsFrom p.stamp (suc p.at) fs
    → LowsFrom p.stamp p.at (given k p h bs ++ fs)
given_climbs K.Fill p h bs fs c = later_lows p.stamp p.at fs c
given_climbs K.Complete p h bs fs c = ((refl, (omega arith), c.0), (refl, c.1))
given_climbs K.Reserved p h bs fs c = later_lows p.stamp p.at fs c
given_climbs K.First p h bs fs c = later_lows p.stamp p.at fs c
given_climbs K.Middle p h bs fs c = later_lows p.stamp p.at fs c
given_climbs K.Last p h bs fs c = later_lows p.stamp p.at fs c

-- of a part that is read from byte i on: its packets, and where it ends
abbrev PartFrom : Stamp → ℕ → Part → Type 0
PartFrom t i q = LowsFrom t (i - 4) q.finds × (i ≤ q.from)

walked_climbs : (o : Option (Header × Bool)) (t : Stamp) (i : ℕ) (bs : List ℕ) (on : ℕ → List ℕ → Part) → 4 ≤ i
    → ((j : ℕ) (rest : List ℕ) → 4 ≤ j → PartFrom t j (on j rest)) → PartFrom t i (walked o t i bs on)
walked_climbs None t i bs on l c = ((tt, tt), (omega arith))
walked_climbs (Some (h, more)) t i bs on l c =
    (given_climbs (kind_of h) (place_at t i) h bs (rest more).finds (go more).0, (go more).1)
  where
    rest : Bool → Part
    rest b = cond b (on (i + 7 + h.size) (drop (7 + h.size) bs)) (record { finds = []; behind = Some (drop (7 + h.size) bs); from = i + 7 + h.size })

    go : (b : Bool) → LowsFrom t (suc (i - 4)) (rest b).finds × (i ≤ (rest b).from)
    go false = ((tt, tt), (omega arith))
    go true =
        let j : ℕ = i + 7 + h.size in
        let q : Part = on j (drop (7 + h.size) bs) in
        let r = c j (drop (7 + h.size) bs) (omega arith) in
        let m = r.1 in
        ((climbs_from t (suc (i - 4)) (j - 4) (places q.finds) (omega arith) r.0.0, r.0.1), (omega arith))

walk_climbs : (k : ℕ) (t : Stamp) (i : ℕ) (bs : List ℕ) → 4 ≤ i → PartFrom t i (walk k t i bs)
unfolding walk
walk_climbs zero t i bs l = ((tt, tt), (omega arith))
walk_climbs (suc k) t i bs l = walked_climbs (llep bs) t i bs (λ j rest. walk k t j rest) l (λ j rest m. walk_climbs k t j rest m)

if_climbs : (b : Bool) (t : Stamp) (payload : List ℕ) → PartFrom t 4 (low_part_if b t payload)
unfolding low_part
if_climbs true t payload = walk_climbs (suc (length payload)) t 4 payload (omega arith)
if_climbs false t payload = ((tt, tt), (omega arith))

-- ---- both

pub record Climbing (t : Stamp) (x : Brings) : Type 0 where
  pub marked : Climbs t 0 (marks wire x.way)
  pub lows : Climbs t 0 (places x.lows)
  pub sorts : All Low (handed wire x.lows)

behind_climbs : (q : Part) (o : Option (List ℕ)) (t : Stamp) (offset : ℕ) (payload : List ℕ) → PartFrom t 4 q → Climbing t (behind q o t offset payload)
behind_climbs q None t offset payload c = record { marked = tt; lows = c.0.0; sorts = c.0.1 }
behind_climbs q (Some bs) t offset payload c =
    let l = c.1 in
    let i : ℕ = q.from in
    record {
      marked = way_climbs t (start_of t) offset (length payload - length bs) (placed t i bs)
          (climbs_from t 0 (i - 4) (map wire.mark (placed t i bs)) (omega arith) (climbs_placed t i bs l));
      lows = c.0.0;
      sorts = c.0.1;
    }

word_climbs : (o : Option ℕ) (t : Stamp) (payload : List ℕ) → Climbing t (worded o t payload)
word_climbs None t payload = record { marked = tt; lows = tt; sorts = tt }
word_climbs (Some w) t payload =
    behind_climbs (low_part_if (leb 2048 w) t payload) (low_part_if (leb 2048 w) t payload).behind t (w % 2048) payload (if_climbs (leb 2048 w) t payload)

brings_climb : (s : Setting) (t : Stamp) (tp : List ℕ) → Climbing t (brings s (always t) tp)
unfolding brings
brings_climb s t tp = go (eqb (length tp) s.size) (eqb (stream_of (get_or tp 0 0)) s.stream) (eqb (version_of (get_or tp 0 0)) 0)
  where
    go : (a b c : Bool)
        → Climbing t (cond a (cond b (cond c (worded (tp_number_in (number 0 (take 3 (drop 1 tp)))) t (drop 4 tp)) (dropping 7 t)) (refusing 8 t)) (refusing 6 t))
    go true true true = word_climbs (tp_number_in (number 0 (take 3 (drop 1 tp)))) t (drop 4 tp)
    go true true false = record { marked = tt; lows = tt; sorts = tt }
    go true false c = record { marked = tt; lows = tt; sorts = tt }
    go false b c = record { marked = tt; lows = tt; sorts = tt }

pub marks_climb : (s : Setting) (t : Stamp) (x : Input) → Climbs t 0 (marks wire (way_of s (always t) x))
marks_climb s t (tp_in tp) = (brings_climb s t tp).marked
marks_climb s t gap_told = tt

pub lows_climb : (s : Setting) (t : Stamp) (x : Input) → Climbs t 0 (places (lows_of s t x))
lows_climb s t (tp_in tp) = (brings_climb s t tp).lows
lows_climb s t gap_told = tt

pub lows_sort : (s : Setting) (t : Stamp) (x : Input) → All Low (handed wire (lows_of s t x))
lows_sort s t (tp_in tp) = (brings_climb s t tp).sorts
lows_sort s t gap_told = tt
