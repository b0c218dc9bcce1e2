-- What the receiver makes of the damaged TPs of a run, one after the other: the low-latency packets that they carry, and what
-- the window lemma says of the stretch of ordinary bytes that they carry. Assumes nothing.
use Prim.Native.Nat.{ℕ, suc, ◌+◌, ◌≤◌}
use mathlib.Core.Path.{◌≡◌, refl, sym, ap, ap₂, ◌∙◌}
use mathlib.Core.Bool.{Bool, true, false, cond}
use mathlib.Core.List.{List, [], ◌∷◌, ◌++◌, append-nil}
use native.Mathlib.Omega.{arith}
use lib.Dec.{leb, eqb}
use lib.ListN.{length, take, drop}
use Rattle.std.specs.Prelude.{None, Some}
use Rattle.sender.specs.Drawing as D
use Rattle.receiver.specs.declared.kind.Kind.{Kind}
use Rattle.receiver.specs.declared.kind.Kind.TheVariants.{Fill, Reserved, Complete, First, Middle, Last}
use Rattle.wire.specs.declared.Header.{Header}
use Rattle.downlink.proofs.plain.Frame.{Frame, Event, lose, gap, opened, entered, fed, closed, Out}
use Rattle.downlink.proofs.plain.Join.{Finding, notice, low, ordinary, Held, free, held, Took, broken, goes_on, meets, handed, finish, fits, further, admit, take_in, listed, holding, finds}
use Rattle.downlink.proofs.plain.Low.{Tag, wire, begin_of, join_of}
use Rattle.receiver.specs.Tp.{Setting, Input, tp_in, gap_told}
use Rattle.downlink.proofs.plain.Tp.{Heard, Stand, input_of, listing, listing_of, listing_all}
use Rattle.sender.specs.Run.{Tp}
use Rattle.downlink.specs.Damage.{TpNear, TpsNear}
use Rattle.downlink.specs.Hearing.{Packet}
use Rattle.downlink.specs.Gaps.{heard_of}
use Rattle.downlink.proofs.Window.{bytes, before, part}
use Rattle.downlink.proofs.Joins.{packets, packets_append, finds_append}
use Rattle.downlink.proofs.Marks.{Cells}
use Rattle.downlink.proofs.Lows.{lleps}
use Rattle.downlink.proofs.Loads.{Load, TpIs, TpsAre}
use Rattle.downlink.proofs.Places.{lows_by}
use Rattle.downlink.proofs.Gaps.{heeding, listened}
use Rattle.downlink.proofs.Arrive.{mix, mix_length}
use Rattle.downlink.proofs.See.{lows_found, own, own_length, heard_is}

-- ---- sorting finds

abbrev pub lows_of : List (Finding wire) → List Packet
lows_of [] = []
lows_of (notice n ∷ fs) = lows_of fs
lows_of (low t d ∷ fs) = (t.content, d) ∷ lows_of fs
lows_of (ordinary c d ∷ fs) = lows_of fs

pub lows_append : (xs ys : List (Finding wire)) → lows_of (xs ++ ys) ≡ lows_of xs ++ lows_of ys
lows_append [] ys = refl
lows_append (notice n ∷ xs) ys = lows_append xs ys
lows_append (low t d ∷ xs) ys = ap (λ l. (t.content, d) ∷ l) (lows_append xs ys)
lows_append (ordinary c d ∷ xs) ys = lows_append xs ys

packets_lows : (ps : List Packet) (bs : List ℕ) → packets wire (lows_found ps bs) ≡ []
packets_lows [] bs = refl
packets_lows (p ∷ ps) bs = packets_lows ps (drop (7 + length p.1) bs)

lows_lows : (ps : List Packet) (bs : List ℕ) → lows_of (lows_found ps bs) ≡ lows_by ps bs
lows_lows [] bs = refl
lows_lows (p ∷ ps) bs = ap (λ l. (p.0, take (length p.1) (drop 6 bs)) ∷ l) (lows_lows ps (drop (7 + length p.1) bs))

-- ---- ordinary bytes give no low-latency packet

module _ (room : ℕ) where
  abbrev lone : Took wire → List Packet
  lone t = lows_of (listed wire t.1)

  lone_cond : (b : Bool) (x y : Took wire) → lone x ≡ [] → lone y ≡ [] → lone (cond b x y) ≡ []
  lone_cond true x y p q = p
  lone_cond false x y p q = q

  lone_broken : (s : Held wire) → lone (broken wire s) ≡ []
  lone_broken free = refl
  lone_broken (held c d) = refl

  lone_goes : (s : Held wire) (c : ℕ) → lone (goes_on wire s c) ≡ []
  lone_goes free c = refl
  lone_goes (held t d) c = lone_cond (eqb t.content c) (held t d, None) (free, Some (notice 14)) refl refl

  lone_meets : (k : Kind) (s : Held wire) (c : ℕ) → lone (meets wire k s c) ≡ []
  lone_meets Fill s c = lone_broken s
  lone_meets Reserved s c = lone_broken s
  lone_meets Complete s c = lone_broken s
  lone_meets First s c = lone_broken s
  lone_meets Middle s c = lone_goes s c
  lone_meets Last s c = lone_goes s c

  lone_fits : (n : ℕ) (t : Tag) (d : List ℕ) → lone (fits wire room n t d) ≡ []
  lone_fits n t d = lone_cond (leb (length d + n) room) (held t d, None) (free, Some (notice 15)) refl refl

  lone_further : (h : Header) (s : Held wire) → lone (further wire room h s) ≡ []
  lone_further h free = refl
  lone_further h (held t d) = lone_fits h.size (join_of t h) d

  lone_admit : (k : Kind) (h : Header) (s : Held wire) → lone (admit wire room k h s) ≡ []
  lone_admit Fill h s = refl
  lone_admit Reserved h s = refl
  lone_admit Complete h s = lone_fits h.size (begin_of h) []
  lone_admit First h s = lone_fits h.size (begin_of h) []
  lone_admit Middle h s = lone_further h s
  lone_admit Last h s = lone_further h s

  lone_handed : (s : Held wire) → lone (handed wire s) ≡ []
  lone_handed free = refl
  lone_handed (held c d) = refl

  lone_finish : (k : Kind) (s : Held wire) → lone (finish wire k s) ≡ []
  lone_finish Fill s = refl
  lone_finish Reserved s = refl
  lone_finish Complete s = lone_handed s
  lone_finish First s = refl
  lone_finish Middle s = refl
  lone_finish Last s = lone_handed s

  lone_event : (s : Held wire) (e : Event wire) → lone (take_in wire room s e) ≡ []
  lone_event s (lose n) = refl
  lone_event s gap = refl
  lone_event s (opened h) = lone_meets (wire.kind h) s (wire.content h)
  lone_event s (entered h) = lone_admit (wire.kind h) h s
  lone_event s (fed b) = refl
  lone_event s (closed h) = lone_finish (wire.kind h) s

  pub no_lows : (s : Held wire) (es : List (Event wire)) → lows_of (finds wire room s es) ≡ []
  no_lows s [] = refl
  no_lows s (e ∷ es) =
      lows_append (listed wire (take_in wire room s e).1) (finds wire room (take_in wire room s e).0 es)
      ∙ ap₂ (λ (a b : List Packet). a ++ b) (lone_event s e) (no_lows (take_in wire room s e).0 es)

-- ---- TP by TP

abbrev pub cells_of : Load → List ℕ → Cells
cells_of l r = mix l.own (drop (4 + length (D.part (lleps l.now))) r)

abbrev pub chunks : List Load → List (List ℕ) → List Cells
chunks [] rs = []
chunks (l ∷ ls) [] = []
chunks (l ∷ ls) (r ∷ rs) = cells_of l r ∷ chunks ls rs

-- the low-latency packets of the TPs that arrived, of which the first has the number n
abbrev pub lows_heard : (ℕ → Bool) → ℕ → List Load → List (List ℕ) → List Packet
lows_heard arrived n [] rs = []
lows_heard arrived n (l ∷ ls) [] = []
lows_heard arrived n (l ∷ ls) (r ∷ rs) = cond (arrived n) (lows_by l.now (drop 4 r)) [] ++ lows_heard arrived (suc n) ls rs

pub before_mix : (cs : Cells) (bs : List ℕ) → length cs ≡ length bs → before wire (mix cs bs) ≡ before wire cs
before_mix [] bs p = refl
before_mix (c ∷ cs) [] p = absurd (omega arith)
before_mix ((true, x) ∷ cs) (b ∷ bs) p = refl
before_mix ((false, x) ∷ cs) (b ∷ bs) p = ap suc (before_mix cs bs (omega arith))

pub bytes_mix : (cs : Cells) (bs : List ℕ) → length cs ≡ length bs → bytes wire (mix cs bs) ≡ bs
bytes_mix [] [] p = refl
bytes_mix [] (b ∷ bs) p = absurd (omega arith)
bytes_mix (c ∷ cs) [] p = absurd (omega arith)
bytes_mix (c ∷ cs) (b ∷ bs) p = ap (λ l. b ∷ l) (bytes_mix cs bs (omega arith))

module _ (size str F P room : ℕ) (top : P ≤ 2047) (size_is : size ≡ 4 + P) (str-most : str ≤ 15) where
  abbrev pub S : Setting
  S = record { size = size; stream = str; room = room }

  abbrev step : Frame wire → Cells → Out wire
  step f m = part wire f (before wire m) (bytes wire m)

  module _ (t : Tp) (l : Load) (is : TpIs P str F top t l) (r : List ℕ) (near : TpNear t r) where
    one_tp : (f : Frame wire) → input_of S f (tp_in r) ≡ record { lows = lows_found l.now (drop 4 r); told = (step f (cells_of l r)).1; frame = (step f (cells_of l r)).0 }
    one_tp f =
        let bs : List ℕ = own size str F P room top size_is str-most t l is r near in
        let same : length l.own ≡ length bs = sym (own_length size str F P room top size_is str-most t l is r near) in
        heard_is size str F P room top size_is str-most t l is r near f
        ∙ ap₂ (λ (a : ℕ) (b : List ℕ). record { lows = lows_found l.now (drop 4 r); told = (part wire f a b).1; frame = (part wire f a b).0 })
        (sym (before_mix l.own bs same)) (sym (bytes_mix l.own bs same))

    pub cells_length : length (cells_of l r) ≡ length l.own
    cells_length =
        let e = own_length size str F P room top size_is str-most t l is r near in
        mix_length l.own (own size str F P room top size_is str-most t l is r near) (omega arith)

  module _ (arrived : ℕ → Bool) where
    -- low-latency packets: those of the TPs that arrived
    pub got_lows : (told : Bool) (n : ℕ) (x : Stand) (ts : List Tp) (ls : List Load) (rs : List (List ℕ)) → TpsAre P str F top ts ls → TpsNear ts rs
        → lows_of (listing_all S x (heard_of arrived told n rs)).0 ≡ lows_heard arrived n ls rs
    got_lows told n x [] [] [] is near = refl
    got_lows told n x [] (l ∷ ls) rs is near = absurd is
    got_lows told n x [] [] (r ∷ rs) is near = absurd near
    got_lows told n x (t ∷ ts) [] rs is near = absurd is
    got_lows told n x (t ∷ ts) (l ∷ ls) [] is near = absurd near
    got_lows told n x (t ∷ ts) (l ∷ ls) (r ∷ rs) is near = go (arrived n) told (λ told x. got_lows told (suc n) x ts ls rs is.1 near.1)
      where
        h : Heard
        h = input_of S x.frame (tp_in r)

        fs : List (Finding wire)
        fs = finds wire room x.held h.told

        on : Bool → List Input
        on told = heard_of arrived told (suc n) rs

        go : (b told : Bool) → ((told : Bool) (x : Stand) → lows_of (listing_all S x (on told)).0 ≡ lows_heard arrived (suc n) ls rs)
            → lows_of (listing_all S x (cond b (tp_in r ∷ on false) (cond told (on true) (gap_told ∷ on true)))).0
            ≡ cond b (lows_by l.now (drop 4 r)) [] ++ lows_heard arrived (suc n) ls rs
        go true told ih =
            lows_append (h.lows ++ fs) (listing_all S (listing S x h).1 (on false)).0
            ∙ ap₂ (λ (a b : List Packet). a ++ b)
            (lows_append h.lows fs ∙ ap (λ l. lows_of h.lows ++ l) (no_lows room x.held h.told) ∙ append-nil (lows_of h.lows)
            ∙ ap (λ (y : Heard). lows_of y.lows) (one_tp t l is.0 r near.0 x.frame) ∙ lows_lows l.now (drop 4 r))
            (ih false (listing S x h).1)
        go false true ih = ih true x
        go false false ih = ih true (listing_of S x gap_told).1

    -- ordinary packets: those that reading their chunks gives
    pub got_ordinary : (told : Bool) (n : ℕ) (x : Stand) (ts : List Tp) (ls : List Load) (rs : List (List ℕ)) → TpsAre P str F top ts ls → TpsNear ts rs
        → packets wire (listing_all S x (heard_of arrived told n rs)).0
        ≡ packets wire (finds wire room x.held (listened wire arrived told n x.frame (chunks ls rs)))
    got_ordinary told n x [] [] [] is near = refl
    got_ordinary told n x [] (l ∷ ls) rs is near = absurd is
    got_ordinary told n x [] [] (r ∷ rs) is near = absurd near
    got_ordinary told n x (t ∷ ts) [] rs is near = absurd is
    got_ordinary told n x (t ∷ ts) (l ∷ ls) [] is near = absurd near
    got_ordinary told n x (t ∷ ts) (l ∷ ls) (r ∷ rs) is near = go (arrived n) told (λ told x. got_ordinary told (suc n) x ts ls rs is.1 near.1)
      where
        o : Out wire
        o = step x.frame (cells_of l r)

        x' : Stand
        x' = record { frame = o.0; held = holding wire room x.held o.1 }

        on : Bool → List Input
        on told = heard_of arrived told (suc n) rs

        later : Bool → Frame wire → List (Event wire)
        later told f = listened wire arrived told (suc n) f (chunks ls rs)

        go : (b told : Bool)
            → ((told : Bool) (x : Stand) → packets wire (listing_all S x (on told)).0 ≡ packets wire (finds wire room x.held (later told x.frame)))
            → packets wire (listing_all S x (cond b (tp_in r ∷ on false) (cond told (on true) (gap_told ∷ on true)))).0
            ≡ packets wire (finds wire room x.held (heeding wire b told o x.frame later))
        go true told ih =
            let fs = finds wire room x.held o.1 in
            let lf = lows_found l.now (drop 4 r) in
            ap (λ (h : Heard). packets wire ((listing S x h).0 ++ (listing_all S (listing S x h).1 (on false)).0)) (one_tp t l is.0 r near.0 x.frame)
            ∙ packets_append wire (lf ++ fs) (listing_all S x' (on false)).0
            ∙ ap₂ (λ (a b : List Packet). a ++ b)
            (packets_append wire lf fs ∙ ap (λ z. z ++ packets wire fs) (packets_lows l.now (drop 4 r)))
            (ih false x')
            ∙ sym (ap (packets wire) (finds_append wire room x.held o.1 (later false o.0)) ∙ packets_append wire fs (finds wire room x'.held (later false o.0)))
        go false true ih = ih true x
        go false false ih = ih true (listing_of S x gap_told).1
