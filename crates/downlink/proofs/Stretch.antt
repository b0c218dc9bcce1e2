-- The TPs carry the items' stream: what is due of those that arrived is what reading them hands out. Assumes nothing.
use Prim.Native.Nat.{ℕ, suc, ◌+◌, ◌≤◌, ◌<◌}
use mathlib.Core.Path.{◌≡◌, refl, sym, ap, ap₂, ◌∙◌}
use mathlib.Core.Bool.{Bool, true, false, cond}
use mathlib.Core.List.{List, [], ◌∷◌, ◌++◌, append_assoc, map, map-append}
use native.Mathlib.Omega.{arith}
use lib.ListN.{length, take, drop, length-append, length-drop}
use lib.Seq.{take_at, drop_at, append_snoc}
use Rattle.sender.specs.Drawing as D
use Rattle.downlink.proofs.plain.Frame.{lost}
use Rattle.downlink.proofs.plain.Join.{free, finds}
use Rattle.downlink.proofs.plain.Low.{wire}
use Rattle.sender.specs.Run.{Tp}
use Rattle.downlink.specs.Damage.{Item, all_eps, TpsNear, EpsNear, drawn, behind_lows, ordinary_of}
use Rattle.downlink.specs.Hearing.{Packet}
use Rattle.downlink.specs.Due.{Place, places_in, byte_at, as_offered, lows_in, lows_due}
use Rattle.downlink.specs.Demand.{carries}
use Rattle.downlink.specs.Gaps.{through}
use Rattle.downlink.proofs.Within.{alike}
use Rattle.downlink.proofs.Window.{bytes, flat}
use Rattle.downlink.proofs.Trains.{stream}
use Rattle.downlink.proofs.Items as R
use Rattle.downlink.proofs.Joins.{packets}
use Rattle.downlink.proofs.Marks.{Cells, bytes_length}
use Rattle.downlink.proofs.Lows.{lleps}
use Rattle.downlink.proofs.Loads.{Load, nows, owns, items_cells, TpIs, TpsAre, ItemsOk}
use Rattle.downlink.proofs.Arrive.{mix}
use Rattle.downlink.proofs.Streams.{handed_by, AllFit, arrives}
use Rattle.downlink.proofs.Gaps.{unbroken, listened, lengths, at_start, item_some, gaps}
use Rattle.downlink.proofs.Through.{through_is}
use Rattle.downlink.proofs.Places.{lows_by, lows_back}
use Rattle.downlink.proofs.Own.{map_drop, read, lows_read, lows_offered, SameLengths, row_at}
use Rattle.downlink.proofs.Intact.{payload_is}
use Rattle.downlink.proofs.Listen.{cells_of, chunks, lows_heard, cells_length}
use Rattle.downlink.proofs.See.{own_length}

mix_both : (xs ys : Cells) (us bs : List ℕ) → length xs ≡ length us → mix (xs ++ ys) (us ++ bs) ≡ mix xs us ++ mix ys bs
mix_both [] ys [] bs p = refl
mix_both [] ys (a ∷ us) bs p = absurd (omega arith)
mix_both (x ∷ xs) ys [] bs p = absurd (omega arith)
mix_both (x ∷ xs) ys (a ∷ us) bs p = ap (λ l. (x.0, a) ∷ l) (mix_both xs ys us bs (omega arith))

lleps_length : (ps : List Packet) → length (lleps ps) ≡ length ps
lleps_length [] = refl
lleps_length (p ∷ ps) = ap suc (lleps_length ps)

module _ (size str F P room : ℕ) (top : P ≤ 2047) (size_is : size ≡ 4 + P) (str-most : str ≤ 15) where
  -- the ordinary bytes of a TP
  abbrev own_of : Load → List ℕ → List ℕ
  own_of l r = drop (4 + length (D.part (lleps l.now))) r

  own_is : (t : Tp) (l : Load) (r : List ℕ) → TpIs P str F top t l → drop (4 + length (D.part t.lleps)) r ≡ own_of l r
  own_is t l r is = ap (λ (es : List (List ℕ)). drop (4 + length (D.part es)) r) is.lleps_are

  -- ---- the low-latency packets that are due

  -- those of one TP, and those that wait
  module _ (t : Tp) (l : Load) (is : TpIs P str F top t l) (ls : List Load) (z : List Packet) where
    abbrev waiting : List Packet
    waiting = (l.now ++ nows ls) ++ z

    count : length l.now ≡ length t.lleps
    count = sym (ap length is.lleps_are ∙ lleps_length l.now)

    these : take (length t.lleps) waiting ≡ l.now
    these = ap (take (length t.lleps)) (append_assoc l.now (nows ls) z) ∙ take_at l.now (nows ls ++ z) (length t.lleps) count

    others : drop (length t.lleps) waiting ≡ nows ls ++ z
    others = ap (drop (length t.lleps)) (append_assoc l.now (nows ls) z) ∙ drop_at l.now (nows ls ++ z) (length t.lleps) count

  abbrev payload : ℕ → Tp → List Place
  payload n t = drop 4 (places_in n 0 t.bytes)

  module _ (arrived : ℕ → Bool) where
    -- with the bytes that these TPs have at their places
    pub lows_got : (pre : List (List ℕ)) (n : ℕ) (ts : List Tp) (ls : List Load) (rs : List (List ℕ)) (z : List Packet)
        → length pre ≡ n → SameLengths ts rs → TpsAre P str F top ts ls
        → map (read (byte_at (pre ++ rs))) (lows_due arrived n (nows ls ++ z) ts) ≡ lows_heard arrived n ls rs
    lows_got pre n [] [] rs z p same is = refl
    lows_got pre n [] (l ∷ ls) rs z p same is = absurd is
    lows_got pre n (t ∷ ts) [] rs z p same is = absurd is
    lows_got pre n (t ∷ ts) (l ∷ ls) [] z p same is = absurd same
    lows_got pre n (t ∷ ts) (l ∷ ls) (r ∷ rs) z p same is =
        map-append (read f) (cond (arrived n) (lows_in now (payload n t)) []) (lows_due arrived (suc n) later ts)
        ∙ ap₂ (λ (a b : List Packet). a ++ b)
        (go (arrived n))
        (ap (λ (qs : List Packet). map (read f) (lows_due arrived (suc n) qs ts)) (others t l is.0 ls z)
        ∙ ap (λ (tps : List (List ℕ)). map (read (byte_at tps)) (lows_due arrived (suc n) (nows ls ++ z) ts)) (sym (append_snoc pre r rs))
        ∙ lows_got (pre ++ r ∷ []) (suc n) ts ls rs z (omega (arith, length-append pre (r ∷ []))) same.1 is.1)
      where
        f : Place → ℕ
        f = byte_at (pre ++ r ∷ rs)

        now : List Packet
        now = take (length t.lleps) (waiting t l is.0 ls z)

        later : List Packet
        later = drop (length t.lleps) (waiting t l is.0 ls z)

        go : (b : Bool) → map (read f) (cond b (lows_in now (payload n t)) []) ≡ cond b (lows_by l.now (drop 4 r)) []
        go true =
            lows_read f now (payload n t)
            ∙ ap₂ (λ (a : List Packet) (b : List ℕ). lows_by a b) (these t l is.0 ls z)
            (map_drop f 4 (places_in n 0 t.bytes) ∙ ap (drop 4) (row_at pre n t r rs p same.0))
        go false = refl

    -- as they were drawn
    pub lows_sent : (n : ℕ) (ts : List Tp) (ls : List Load) (z : List Packet) → TpsAre P str F top ts ls
        → lows_heard arrived n ls (drawn ts) ≡ map as_offered (lows_due arrived n (nows ls ++ z) ts)
    lows_sent n [] [] z is = refl
    lows_sent n [] (l ∷ ls) z is = absurd is
    lows_sent n (t ∷ ts) [] z is = absurd is
    lows_sent n (t ∷ ts) (l ∷ ls) z is =
        ap₂ (λ (a b : List Packet). a ++ b)
        (go (arrived n))
        (lows_sent (suc n) ts ls z is.1 ∙ ap (λ (qs : List Packet). map as_offered (lows_due arrived (suc n) qs ts)) (sym (others t l is.0 ls z)))
        ∙ sym (map-append as_offered (cond (arrived n) (lows_in now (payload n t)) []) (lows_due arrived (suc n) later ts))
      where
        now : List Packet
        now = take (length t.lleps) (waiting t l is.0 ls z)

        later : List Packet
        later = drop (length t.lleps) (waiting t l is.0 ls z)

        go : (b : Bool) → cond b (lows_by l.now (drop 4 t.bytes)) [] ≡ map as_offered (cond b (lows_in now (payload n t)) [])
        go true =
            ap (lows_by l.now) (payload_is P str F top t l is.0) ∙ lows_back l.now (bytes wire l.own)
            ∙ sym (lows_offered now (payload n t) ∙ these t l is.0 ls z)
        go false = refl

  -- ---- the ordinary bytes that arrived, marked as they were sent

  record Whole (ts : List Tp) (ls : List Load) (rs : List (List ℕ)) : Type 0 where
    flat_is : flat wire (chunks ls rs) ≡ mix (owns ls) (ordinary_of ts rs)
    length_is : length (owns ls) ≡ length (ordinary_of ts rs)

  whole : (ts : List Tp) (ls : List Load) (rs : List (List ℕ)) → TpsAre P str F top ts ls → TpsNear ts rs → Whole ts ls rs
  whole [] [] [] is near = record { flat_is = refl; length_is = refl }
  whole [] (l ∷ ls) rs is near = absurd is
  whole [] [] (r ∷ rs) is near = absurd near
  whole (t ∷ ts) [] rs is near = absurd is
  whole (t ∷ ts) (l ∷ ls) [] is near = absurd near
  whole (t ∷ ts) (l ∷ ls) (r ∷ rs) is near =
      let w = whole ts ls rs is.1 near.1 in
      let o = own_is t l r is.0 in
      let n : length l.own ≡ length (own_of l r) = sym (own_length size str F P room top size_is str-most t l is.0 r near.0) in
      record {
        flat_is = ap (λ z. cells_of l r ++ z) w.flat_is ∙ sym (mix_both l.own (owns ls) (own_of l r) (ordinary_of ts rs) n)
            ∙ ap (λ z. mix (l.own ++ owns ls) (z ++ ordinary_of ts rs)) (sym o);
        length_is = length-append l.own (owns ls) ∙ ap₂ (λ (a b : ℕ). a + b) n w.length_is
            ∙ sym (length-append (own_of l r) (ordinary_of ts rs)) ∙ ap (λ z. length (z ++ ordinary_of ts rs)) (sym o);
      }

  -- the chunks are as long as the TPs say
  chunk_lengths : (ts : List Tp) (ls : List Load) (rs : List (List ℕ)) → TpsAre P str F top ts ls → TpsNear ts rs → lengths wire (chunks ls rs) ≡ carries ts
  chunk_lengths [] [] [] is near = refl
  chunk_lengths [] (l ∷ ls) rs is near = absurd is
  chunk_lengths [] [] (r ∷ rs) is near = absurd near
  chunk_lengths (t ∷ ts) [] rs is near = absurd is
  chunk_lengths (t ∷ ts) (l ∷ ls) [] is near = absurd near
  chunk_lengths (t ∷ ts) (l ∷ ls) (r ∷ rs) is near =
      let m : ℕ = 4 + length (D.part t.lleps) in
      let same : length (cells_of l r) ≡ length (behind_lows t t.bytes) =
      omega (
        arith,
        cells_length size str F P room top size_is str-most t l is.0 r near.0,
        own_length size str F P room top size_is str-most t l is.0 r near.0,
        ap length (own_is t l r is.0),
        length-drop m r,
        length-drop m t.bytes,
        near.0.0,
      ) in
      ap₂ (λ (a : ℕ) (b : List ℕ). a ∷ b) same (chunk_lengths ts ls rs is.1 near.1)

  module _ (f₁ : 1 ≤ F) (f₂ : F ≤ 65535) (arrived : ℕ → Bool) where
    -- ordinary packets, whichever TPs arrived
    pub ordinary_right : (told : Bool) (ts : List Tp) (ls : List Load) (rs : List (List ℕ)) (is : List Item) (pend : Cells) (t : ℕ → ℕ → Bool)
        → ((a b : ℕ) → a < b → through arrived 0 (carries ts) a b ≡ t a b)
        → TpsAre P str F top ts ls → TpsNear ts rs → ItemsOk P str F top is → AllFit room is → owns ls ++ pend ≡ items_cells is
        → EpsNear (all_eps is) (ordinary_of ts rs ++ bytes wire pend)
        → packets wire (finds wire room free (listened wire arrived told 0 lost (chunks ls rs)))
        ≡ handed_by t 0 is (ordinary_of ts rs ++ bytes wire pend)
    ordinary_right told ts ls rs is pend t agrees are near ok fit flow eps =
        let w = whole ts ls rs are near in
        let ob : List ℕ = ordinary_of ts rs in
        let all : List ℕ = ob ++ bytes wire pend in
        let len : length (items_cells is) ≤ length all =
        omega (arith, ap length flow, length-append (owns ls) pend, length-append ob (bytes wire pend), bytes_length pend, w.length_is) in
        let a = arrives P str F room top f₁ f₂ is all ok fit len eps in
        let Z : Cells = mix pend (bytes wire pend) in
        let S_is : stream wire (R.all_eps_lem wire room a.ris) ≡ flat wire (chunks ls rs) ++ Z =
        a.mixed ∙ ap (λ z. mix z all) (sym flow) ∙ mix_both (owns ls) pend ob (bytes wire pend) w.length_is ∙ ap (λ z. z ++ Z) (sym w.flat_is) in
        let same : (x y : ℕ) → x < y → unbroken arrived 0 0 (0 + 0) (lengths wire (chunks ls rs)) x y ≡ t x y =
        λ x y h. ap₂ (λ (k : ℕ) (ms : List ℕ). unbroken arrived 0 0 k ms x y) (omega arith) (chunk_lengths ts ls rs are near)
        ∙ through_is arrived 0 0 0 (carries ts) x y (omega arith) (omega arith) h
        ∙ ap₂ (λ (p q : ℕ). through arrived 0 (carries ts) p q) (omega arith) (omega arith) ∙ agrees x y h in
        gaps wire room a.ris arrived (chunks ls rs) told 0 0 [] Z (at_start wire told) S_is
        ∙ ap (R.all_given wire room) (alike (R.item_size wire room) (item_some wire room) _ t same 0 a.ris)
        ∙ a.due t 0
