-- A whole TP, a told gap and any number of both, stripped of places: plain reading lists the same. Assumes nothing.
use Prim.Native.Nat.{ℕ, zero, suc, ◌+◌, ◌-◌, ◌%◌}
use mathlib.Core.Path.{◌≡◌, refl, sym, ap, ap₂, ◌∙◌}
use mathlib.Core.Bool.{Bool, true, false, cond}
use mathlib.Core.List.{List, [], ◌∷◌, ◌++◌, map, map-append}
use lib.Dec.{eqb, leb}
use lib.ListN.{length, take, drop, get_or}
use Rattle.std.specs.Prelude.{Option, None, Some}
use Rattle.digits.specs.Digits.{number}
use Rattle.wire.specs.declared.Header.{Header}
use Rattle.wire.specs.Reading.{tp_number_in, stream_of, version_of}
use Rattle.receiver.specs.declared.Place.{Place}
use Rattle.receiver.specs.declared.Stamp.{Stamp}
use Rattle.receiver.specs.declared.stages.Stamps.{Stamps}
use Rattle.receiver.specs.declared.kind.Kind.{Kind}
use Rattle.receiver.specs.declared.kind.Kind.TheVariants.{Fill, Reserved, Complete, First, Middle, Last}
use Rattle.receiver.specs.Place.{placed, place_at, start_of}
use Rattle.receiver.specs.Kind.{kind_of}
use Rattle.receiver.specs.Frame.{Frame}
use Rattle.receiver.specs.Join.{Finding, finds}
use Rattle.receiver.specs.Low.{wire, llep, given, Part, ahead, walked, walk, low_part}
use Rattle.receiver.specs.Tp.{Setting, Heard, Input, tp_in, gap_told, behind, low_part_if, worded, refusing, dropping, brings, heard_by, heard, input_of, Stand, Listing, listing, listing_of, listing_all, stamping_of, count_after}
use Rattle.downlink.proofs.plain.Frame as F
use Rattle.downlink.proofs.plain.Forecast as P
use Rattle.downlink.proofs.plain.Join as J
use Rattle.downlink.proofs.plain.Low as L
use Rattle.downlink.proofs.plain.Tp as T
use Rattle.downlink.proofs.Strip.{frame, event, finding, kept, read_on, bytes_placed, outset_is, holding_is, finds_is}

-- ---- the low-latency part

abbrev part : Part → L.Part
part p = record { finds = map finding p.finds; behind = p.behind }

given_is : (k : Kind) (p : Place) (h : Header) (bs : List ℕ) → L.given k h bs ≡ map finding (given k p h bs)
given_is Fill p h bs = refl
given_is Complete p h bs = refl
given_is Reserved p h bs = refl
given_is First p h bs = refl
given_is Middle p h bs = refl
given_is Last p h bs = refl

ahead_is : (fs : List (Finding wire)) (p : Part) → L.ahead (map finding fs) (part p) ≡ part (ahead fs p)
ahead_is fs p = ap (λ (l : List (J.Finding L.wire)). record { finds = l; behind = p.behind }) (sym (map-append finding fs p.finds))

cond_is : (b : Bool) (x : L.Part) (p q : Part) → x ≡ part p → cond b x (part q) ≡ part (cond b p q)
cond_is true x p q e = e
cond_is false x p q e = refl

walked_is : (l : Option (Header × Bool)) (t : Stamp) (i : ℕ) (bs : List ℕ) (plain : List ℕ → L.Part) (on : ℕ → List ℕ → Part)
    → ((j : ℕ) (rest : List ℕ) → plain rest ≡ part (on j rest)) → L.walked l bs plain ≡ part (walked l t i bs on)
walked_is None t i bs plain on e = refl
walked_is (Some (h, more)) t i bs plain on e =
    ap₂ L.ahead (given_is (kind_of h) (place_at t i) h bs)
    (cond_is more (plain (drop (7 + h.size) bs)) (on (i + 7 + h.size) (drop (7 + h.size) bs))
    (record { finds = []; behind = Some (drop (7 + h.size) bs); from = i + 7 + h.size }) (e (i + 7 + h.size) (drop (7 + h.size) bs)))
    ∙ ahead_is (given (kind_of h) (place_at t i) h bs)
    (cond more (on (i + 7 + h.size) (drop (7 + h.size) bs)) (record { finds = []; behind = Some (drop (7 + h.size) bs); from = i + 7 + h.size }))

walk_is : (k : ℕ) (t : Stamp) (i : ℕ) (bs : List ℕ) → L.walk k bs ≡ part (walk k t i bs)
unfolding L.walk walk
walk_is zero t i bs = refl
walk_is (suc k) t i bs = walked_is (llep bs) t i bs (λ rest. L.walk k rest) (λ j rest. walk k t j rest) (λ j rest. walk_is k t j rest)

low_part_is : (b : Bool) (t : Stamp) (bs : List ℕ) → T.low_part_if b bs ≡ part (low_part_if b t bs)
unfolding L.low_part low_part
low_part_is true t bs = walk_is (suc (length bs)) t 4 bs
low_part_is false t bs = refl

-- ---- a TP

abbrev plainly : Heard → T.Heard
plainly h = record { lows = map finding h.lows; told = map event h.told; frame = frame h.frame }

behind_is : (p : Part) (o : Option (List ℕ)) (t : Stamp) (f : Frame wire) (offset : ℕ) (payload : List ℕ)
    → T.behind (map finding p.finds) o (frame f) offset payload ≡ plainly (heard_by f (behind p o t offset payload))
behind_is p None t f offset payload = refl
behind_is p (Some bs) t f offset payload =
    let gone = length payload - length bs in
    ap (λ (o : F.Out L.wire). record { lows = map finding p.finds; told = o.1; frame = o.0 })
    (ap (λ (l : List ℕ). read_on (P.outset L.wire (frame f) offset gone l) l) (sym (bytes_placed t p.from bs))
    ∙ outset_is (start_of t) f offset gone (placed t p.from bs))

worded_is : (o : Option ℕ) (t : Stamp) (f : Frame wire) (payload : List ℕ)
    → T.worded o (frame f) payload ≡ plainly (heard_by f (worded o t payload))
worded_is None t f payload = refl
worded_is (Some w) t f payload =
    let p = low_part_if (leb 2048 w) t payload in
    ap (λ (x : L.Part). T.behind x.finds x.behind (frame f) (w % 2048) payload) (low_part_is (leb 2048 w) t payload)
    ∙ behind_is p p.behind t f (w % 2048) payload

heard_is : (s : Setting) (t : Stamps) (f : Frame wire) (tp : List ℕ) → T.heard s (frame f) tp ≡ plainly (heard s t f tp)
unfolding T.heard brings
heard_is s t f tp =
    go (eqb (length tp) s.size) (eqb (stream_of (get_or tp 0 0)) s.stream) (eqb (version_of (get_or tp 0 0)) 0)
  where
    o : Option ℕ
    o = tp_number_in (number 0 (take 3 (drop 1 tp)))

    go : (a b c : Bool)
        → cond a (cond b (cond c (T.worded o (frame f) (drop 4 tp)) (T.dropping 7)) (T.refusing 8 (frame f))) (T.refusing 6 (frame f))
        ≡ plainly (heard_by f (cond a (cond b (cond c (worded o t.now (drop 4 tp)) (dropping 7 t.now)) (refusing 8 t.before)) (refusing 6 t.before)))
    go true true true = worded_is o t.now f (drop 4 tp)
    go true true false = refl
    go true false c = refl
    go false b c = refl

input_is : (s : Setting) (t : Stamps) (f : Frame wire) (x : Input) → T.input_of s (frame f) x ≡ plainly (input_of s t f x)
input_is s t f (tp_in bs) = heard_is s t f bs
input_is s t f gap_told = refl

-- ---- any number of TPs and gaps

abbrev pub stand : Stand → T.Stand
stand t = record { frame = frame t.frame; held = kept t.held }

abbrev pub listed : Listing → T.Listing
listed l = (map finding l.0, stand l.1)

listing_is : (s : Setting) (t : Stand) (h : Heard) → T.listing s (stand t) (plainly h) ≡ listed (listing s t h)
listing_is s t h =
    ap₂ (λ (fs : List (J.Finding L.wire)) (k : J.Held L.wire). (fs, record { frame = frame h.frame; held = k }))
    (ap (λ (fs : List (J.Finding L.wire)). map finding h.lows ++ fs) (finds_is s.room t.held h.told)
    ∙ sym (map-append finding h.lows (finds wire s.room t.held h.told)))
    (holding_is s.room t.held h.told)

input_listed : (s : Setting) (n : Stamps) (t : Stand) (x : Input) → T.listing_of s (stand t) x ≡ listed (listing_of s n t x)
input_listed s n t x = ap (T.listing s (stand t)) (input_is s n t.frame x) ∙ listing_is s t (input_of s n t.frame x)

-- THE SAME IS LISTED, whatever the count
pub all_listed : (s : Setting) (n : ℕ) (t : Stand) (xs : List Input) → T.listing_all s (stand t) xs ≡ listed (listing_all s n t xs)
all_listed s n t [] = refl
all_listed s n t (x ∷ xs) =
    let l = listing_of s (stamping_of n) t x in
    ap (λ (y : T.Listing). (y.0 ++ (T.listing_all s y.1 xs).0, (T.listing_all s y.1 xs).1)) (input_listed s (stamping_of n) t x)
    ∙ ap (λ (y : T.Listing). (map finding l.0 ++ y.0, y.1)) (all_listed s (count_after s n x) l.1 xs)
    ∙ ap (λ (fs : List (J.Finding L.wire)). (fs, stand (listing_all s (count_after s n x) l.1 xs).1))
    (sym (map-append finding l.0 (listing_all s (count_after s n x) l.1 xs).0))
