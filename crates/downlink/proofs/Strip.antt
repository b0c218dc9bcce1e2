-- STRIPPING: what a receiver reads and puts together, stripped of places, is the plain reading of the same bytes, input by input.
-- So what is proved of plain reading, demand 3 above all, holds of the receiver as it is. Assumes nothing.
use Prim.Native.Nat.{ℕ, zero, suc, ◌+◌, ◌-◌}
use mathlib.Core.Path.{◌≡◌, refl, sym, ap, ap₂, ◌∙◌}
use mathlib.Core.Bool.{Bool, true, false, cond}
use mathlib.Core.List.{List, [], ◌∷◌, ◌++◌, map, map-append}
use lib.Dec.{eqb, leb, ltb}
use lib.ListN.{length, drop, length-map}
use Rattle.std.specs.Prelude.{Option, None, Some}
use Rattle.wire.specs.declared.Header.{Header}
use Rattle.wire.specs.Reading.{header_of}
use Rattle.receiver.specs.declared.Place.{Place}
use Rattle.receiver.specs.declared.Stamp.{Stamp}
use Rattle.receiver.specs.declared.kind.Kind.{Kind}
use Rattle.receiver.specs.declared.kind.Kind.TheVariants.{Fill, Reserved, Complete, First, Middle, Last}
use Rattle.receiver.specs.Place.{placed}
use Rattle.receiver.specs.Kind.{kind_of}
use Rattle.receiver.specs.Frame.{Frame, lost, idle, head, body, Event, lose, gap, opened, entered, fed, closed, Out, within, ending, whole, step, after, events}
use Rattle.receiver.specs.Forecast as N
use Rattle.receiver.specs.Forecast.{foretold, Start, upon, resume, agree, judge, start, read, Way, stays, drops, gaps, goes, by_way, way_at}
use Rattle.receiver.specs.Join.{Finding, notice, low, ordinary, Held, free, held, Took, broken, goes_on, meets, grown, handed, finish, listed, fits, further, admit, take_in, holding, finds}
use Rattle.receiver.specs.Low.{Ep, Tag, wire, ep_at, ep_if, begin_of, join_of}
use Rattle.downlink.proofs.plain.Frame as F
use Rattle.downlink.proofs.plain.Forecast as P
use Rattle.downlink.proofs.plain.Join as J
use Rattle.downlink.proofs.plain.Low as L
use Rattle.downlink.proofs.Own.{map_drop}

-- ---- what is left without places

abbrev pub bytes : List (Place × ℕ) → List ℕ
bytes xs = map (λ (b : Place × ℕ). b.1) xs

abbrev pub frame : Frame wire → F.Frame L.wire
frame lost = F.lost
frame idle = F.idle
frame (head p k hs) = F.head k hs
frame (body h k) = F.body h.header k

abbrev pub event : Event wire → F.Event L.wire
event (lose n p) = F.lose n
event gap = F.gap
event (opened h) = F.opened h.header
event (entered h) = F.entered h.header
event (fed b) = F.fed b
event (closed h) = F.closed h.header

abbrev pub out : Out wire → F.Out L.wire
out o = (frame o.0, map event o.1)

abbrev begun : Start wire → P.Start L.wire
begun t = record { told = map event t.told; frame = frame t.frame; past = t.past }

abbrev tag : Tag → L.Tag
tag t = L.tag_of t.content t.repaired

abbrev pub finding : Finding wire → J.Finding L.wire
finding (notice n p) = J.notice n
finding (low t d) = J.low (tag t) d
finding (ordinary t d) = J.ordinary (tag t) d

abbrev pub kept : Held wire → J.Held L.wire
kept free = J.free
kept (held t d) = J.held (tag t) d

abbrev found : Option (Finding wire) → Option (J.Finding L.wire)
found None = None
found (Some f) = Some (finding f)

abbrev took : Took wire → J.Took L.wire
took o = (kept o.0, found o.1)

-- a TP's bytes with their places are its bytes
pub bytes_placed : (t : Stamp) (i : ℕ) (bs : List ℕ) → bytes (placed t i bs) ≡ bs
bytes_placed t i [] = refl
bytes_placed t i (b ∷ bs) = ap (λ (l : List ℕ). b ∷ l) (bytes_placed t (suc i) bs)

-- ---- reading

within_is : (h : Ep) (n : ℕ) → F.within L.wire h.header n ≡ frame (within wire h n)
within_is h zero = refl
within_is h (suc n) = refl

ending_is : (h : Ep) (n : ℕ) → F.ending L.wire h.header n ≡ map event (ending wire h n)
ending_is h zero = refl
ending_is h (suc n) = refl

whole_is : (p : Place) (o : Option Header) → F.whole L.wire o ≡ out (whole wire p (ep_if p o))
whole_is p None = refl
whole_is p (Some h) =
    ap₂ (λ (f : F.Frame L.wire) (es : List (F.Event L.wire)). (f, F.opened h ∷ F.entered h ∷ es))
    (within_is (ep_at p h) h.size) (ending_is (ep_at p h) h.size)

pub step_is : (f : Frame wire) (b : Place × ℕ) → F.step L.wire (frame f) b.1 ≡ out (step wire f b)
step_is lost b = refl
step_is idle b = refl
step_is (head p zero hs) b = whole_is p (header_of (hs ++ b.1 ∷ []))
step_is (head p (suc k) hs) b = refl
step_is (body h k) b =
    ap₂ (λ (f : F.Frame L.wire) (es : List (F.Event L.wire)). (f, F.fed b.1 ∷ es)) (within_is h k) (ending_is h k)

pub after_is : (f : Frame wire) (xs : List (Place × ℕ)) → F.after L.wire (frame f) (bytes xs) ≡ frame (after wire f xs)
after_is f [] = refl
after_is f (b ∷ xs) = ap (λ (o : F.Out L.wire). F.after L.wire o.0 (bytes xs)) (step_is f b) ∙ after_is (step wire f b).0 xs

pub events_is : (f : Frame wire) (xs : List (Place × ℕ)) → F.events L.wire (frame f) (bytes xs) ≡ map event (events wire f xs)
events_is f [] = refl
events_is f (b ∷ xs) =
    ap (λ (o : F.Out L.wire). o.1 ++ F.events L.wire o.0 (bytes xs)) (step_is f b)
    ∙ ap (λ (es : List (F.Event L.wire)). map event (step wire f b).1 ++ es) (events_is (step wire f b).0 xs)
    ∙ sym (map-append event (step wire f b).1 (events wire (step wire f b).0 xs))

-- ---- the forecast, and setting out

look_is : (f : Frame wire) (a b : Option ℕ) → a ≡ b → P.look L.wire (P.phase L.wire (frame f)) a ≡ N.look wire (N.phase wire f) b
look_is lost a b e = refl
look_is idle a b e = refl
look_is (head p n hs) a b e = e
look_is (body h n) a b e = e

later_is : (o : Option ℕ) → P.later L.wire o ≡ N.later wire o
later_is None = refl
later_is (Some n) = refl

pub foretold_is : (f : Frame wire) (xs : List (Place × ℕ)) → P.foretold L.wire (frame f) (bytes xs) ≡ foretold wire f xs
foretold_is f [] = look_is f (Some 0) (Some 0) refl
foretold_is f (b ∷ xs) =
    look_is f (P.later L.wire (P.foretold L.wire (F.step L.wire (frame f) b.1).0 (bytes xs))) (N.later wire (foretold wire (step wire f b).0 xs))
    (ap (λ (o : F.Out L.wire). P.later L.wire (P.foretold L.wire o.0 (bytes xs))) (step_is f b)
    ∙ ap (P.later L.wire) (foretold_is (step wire f b).0 xs)
    ∙ later_is (foretold wire (step wire f b).0 xs))

upon_is : (xs : List (Place × ℕ)) → P.upon L.wire (bytes xs) ≡ frame (upon wire xs)
upon_is [] = refl
upon_is (b ∷ xs) = refl

resume_is : (es : List (Event wire)) (n : ℕ) (xs : List (Place × ℕ))
    → P.resume L.wire (map event es) n (bytes xs) ≡ begun (resume wire es n xs)
resume_is es n xs =
    ap (λ (f : F.Frame L.wire). record { told = map event es; frame = f; past = n })
    (ap (P.upon L.wire) (sym (map_drop (λ (b : Place × ℕ). b.1) n xs)) ∙ upon_is (drop n xs))

judge_is : (o : Option ℕ) (p : Place) (f : Frame wire) (n : ℕ) (xs : List (Place × ℕ))
    → P.judge L.wire o (frame f) n (bytes xs) ≡ begun (judge wire o p f n xs)
judge_is None p f n xs = resume_is (lose 12 (N.since wire p f) ∷ []) n xs
judge_is (Some m) p f n xs = go (eqb m n)
  where
    go : (b : Bool) → P.agree L.wire b (frame f) n (bytes xs) ≡ begun (agree wire b p f n xs)
    go true = refl
    go false = resume_is (lose 13 p ∷ []) n xs

judged : (p : Place) (f : Frame wire) (n : ℕ) (xs : List (Place × ℕ))
    → P.judge L.wire (P.foretold L.wire (frame f) (bytes xs)) (frame f) n (bytes xs) ≡ begun (judge wire (foretold wire f xs) p f n xs)
judged p f n xs =
    ap (λ (o : Option ℕ). P.judge L.wire o (frame f) n (bytes xs)) (foretold_is f xs) ∙ judge_is (foretold wire f xs) p f n xs

start_is : (p : Place) (f : Frame wire) (n : ℕ) (xs : List (Place × ℕ)) → P.start L.wire (frame f) n (bytes xs) ≡ begun (start wire p f n xs)
start_is p lost n xs = resume_is [] n xs
start_is p idle n xs = judged p idle n xs
start_is p (head s k hs) n xs = judged p (head s k hs) n xs
start_is p (body h k) n xs = judged p (body h k) n xs

-- ---- a TP's ordinary bytes: the plain reading from its outset on is the way's, whatever the frame

abbrev pub read_on : P.Start L.wire → List ℕ → F.Out L.wire
read_on t bs = (F.after L.wire t.frame (drop t.past bs), t.told ++ F.events L.wire t.frame (drop t.past bs))

read_is : (t : Start wire) (xs : List (Place × ℕ)) → read_on (begun t) (bytes xs) ≡ out (read wire t xs)
read_is t xs =
    ap (λ (bs : List ℕ). (F.after L.wire (frame t.frame) bs, map event t.told ++ F.events L.wire (frame t.frame) bs))
    (sym (map_drop (λ (b : Place × ℕ). b.1) t.past xs))
    ∙ ap₂ (λ (f : F.Frame L.wire) (es : List (F.Event L.wire)). (f, map event t.told ++ es))
    (after_is t.frame (drop t.past xs)) (events_is t.frame (drop t.past xs))
    ∙ ap (λ (es : List (F.Event L.wire)). (frame (after wire t.frame (drop t.past xs)), es))
    (sym (map-append event t.told (events wire t.frame (drop t.past xs))))

none_left : (bs : List ℕ) → drop (length bs) bs ≡ []
none_left [] = refl
none_left (b ∷ bs) = none_left bs

dropped_is : (p : Place) (f : Frame wire) (n : ℕ) (bs : List ℕ)
    → read_on (P.dropped L.wire n bs) bs ≡ out (by_way wire f (drops n p))
dropped_is p f n bs = ap (λ (l : List ℕ). (F.after L.wire F.lost l, F.lose n ∷ F.events L.wire F.lost l)) (none_left bs)

goes_is : (p : Place) (f : Frame wire) (n : ℕ) (xs : List (Place × ℕ))
    → read_on (P.start L.wire (frame f) n (bytes xs)) (bytes xs) ≡ out (by_way wire f (goes p n xs))
goes_is p f n xs = ap (λ (t : P.Start L.wire). read_on t (bytes xs)) (start_is p f n xs) ∙ read_is (start wire p f n xs) xs

pub outset_is : (p : Place) (f : Frame wire) (offset gone : ℕ) (xs : List (Place × ℕ))
    → read_on (P.outset L.wire (frame f) offset gone (bytes xs)) (bytes xs) ≡ out (by_way wire f (way_at wire p offset gone xs))
unfolding P.outset way_at
outset_is p f offset gone xs =
    ap (λ (n : ℕ). read_on (chosen (eqb offset 2047) (leb (gone + n) offset) (ltb offset gone) n) (bytes xs)) (length-map xs (λ (b : Place × ℕ). b.1))
    ∙ go (eqb offset 2047) (leb (gone + length xs) offset) (ltb offset gone)
  where
    chosen : Bool → Bool → Bool → ℕ → P.Start L.wire
    chosen a b c n =
        cond a (P.start L.wire (frame f) n (bytes xs))
        (cond b (P.dropped L.wire 10 (bytes xs)) (cond c (P.dropped L.wire 21 (bytes xs)) (P.start L.wire (frame f) (offset - gone) (bytes xs))))

    go : (a b c : Bool) → read_on (chosen a b c (length xs)) (bytes xs)
        ≡ out (by_way wire f (cond a (goes p (length xs) xs) (cond b (drops 10 p) (cond c (drops 21 p) (goes p (offset - gone) xs)))))
    go true b c = goes_is p f (length xs) xs
    go false true c = dropped_is p f 10 (bytes xs)
    go false false true = dropped_is p f 21 (bytes xs)
    go false false false = goes_is p f (offset - gone) xs

-- ---- reassembly

broken_is : (h : Ep) (s : Held wire) → J.broken L.wire (kept s) ≡ took (broken wire h s)
broken_is h free = refl
broken_is h (held t d) = refl

cond_is : (b : Bool) (x y : Took wire) → cond b (took x) (took y) ≡ took (cond b x y)
cond_is true x y = refl
cond_is false x y = refl

goes_on_is : (h : Ep) (s : Held wire) → J.goes_on L.wire (kept s) h.header.content ≡ took (goes_on wire h s)
goes_on_is h free = refl
goes_on_is h (held t d) = cond_is (eqb t.content h.header.content) (held t d, None) (free, Some (notice 14 h.at))

meets_is : (k : Kind) (h : Ep) (s : Held wire) → J.meets L.wire k (kept s) h.header.content ≡ took (meets wire k h s)
meets_is Fill h s = broken_is h s
meets_is Reserved h s = broken_is h s
meets_is Complete h s = broken_is h s
meets_is First h s = broken_is h s
meets_is Middle h s = goes_on_is h s
meets_is Last h s = goes_on_is h s

grown_is : (s : Held wire) (b : ℕ) → J.grown L.wire (kept s) b ≡ kept (grown wire s b)
grown_is free b = refl
grown_is (held t d) b = refl

handed_is : (s : Held wire) → J.handed L.wire (kept s) ≡ took (handed wire s)
handed_is free = refl
handed_is (held t d) = refl

finish_is : (k : Kind) (s : Held wire) → J.finish L.wire k (kept s) ≡ took (finish wire k s)
finish_is Fill s = refl
finish_is Reserved s = refl
finish_is Complete s = handed_is s
finish_is First s = refl
finish_is Middle s = refl
finish_is Last s = handed_is s

listed_is : (o : Option (Finding wire)) → J.listed L.wire (found o) ≡ map finding (listed wire o)
listed_is None = refl
listed_is (Some f) = refl

module _ (room : ℕ) where
  fits_is : (h : Ep) (t : Tag) (d : List ℕ) → J.fits L.wire room h.header.size (tag t) d ≡ took (fits wire room h t d)
  fits_is h t d = cond_is (leb (length d + h.header.size) room) (held t d, None) (free, Some (notice 15 h.at))

  further_is : (h : Ep) (s : Held wire) → J.further L.wire room h.header (kept s) ≡ took (further wire room h s)
  further_is h free = refl
  further_is h (held t d) = fits_is h (join_of t h) d

  admit_is : (k : Kind) (h : Ep) (s : Held wire) → J.admit L.wire room k h.header (kept s) ≡ took (admit wire room k h s)
  admit_is Fill h s = refl
  admit_is Reserved h s = refl
  admit_is Complete h s = fits_is h (begin_of h) []
  admit_is First h s = fits_is h (begin_of h) []
  admit_is Middle h s = further_is h s
  admit_is Last h s = further_is h s

  take_in_is : (s : Held wire) (e : Event wire) → J.take_in L.wire room (kept s) (event e) ≡ took (take_in wire room s e)
  take_in_is s (lose n p) = refl
  take_in_is s gap = refl
  take_in_is s (opened h) = meets_is (kind_of h.header) h s
  take_in_is s (entered h) = admit_is (kind_of h.header) h s
  take_in_is s (fed b) = ap (λ (k : J.Held L.wire). (k, None)) (grown_is s b)
  take_in_is s (closed h) = finish_is (kind_of h.header) s

  pub holding_is : (s : Held wire) (es : List (Event wire)) → J.holding L.wire room (kept s) (map event es) ≡ kept (holding wire room s es)
  holding_is s [] = refl
  holding_is s (e ∷ es) =
      ap (λ (o : J.Took L.wire). J.holding L.wire room o.0 (map event es)) (take_in_is s e) ∙ holding_is (take_in wire room s e).0 es

  pub finds_is : (s : Held wire) (es : List (Event wire)) → J.finds L.wire room (kept s) (map event es) ≡ map finding (finds wire room s es)
  finds_is s [] = refl
  finds_is s (e ∷ es) =
      ap (λ (o : J.Took L.wire). J.listed L.wire o.1 ++ J.finds L.wire room o.0 (map event es)) (take_in_is s e)
      ∙ ap₂ (λ (a b : List (J.Finding L.wire)). a ++ b) (listed_is (take_in wire room s e).1) (finds_is (take_in wire room s e).0 es)
      ∙ sym (map-append finding (listed wire (take_in wire room s e).1) (finds wire room (take_in wire room s e).0 es))
