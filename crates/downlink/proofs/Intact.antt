-- What was sent is within the limits of what may arrive: the damage that demand 3 allows includes none, for every run. So its premise
-- asks nothing of the sender. Assumes nothing.
use Prim.Native.Nat.{ℕ, zero, suc, ◌+◌, ◌-◌, ◌%◌, ◌≤◌}
use mathlib.Core.Path.{◌≡◌, refl, sym, ap, ◌∙◌, subst⁻¹}
use mathlib.Core.Bool.{Bool, true, false, cond}
use mathlib.Core.List.{List, [], ◌∷◌, ◌++◌, append_assoc, append-nil, flatten}
use native.Mathlib.Omega.{arith}
use lib.Bits.{xor_self}
use lib.Count.{ones_in}
use lib.ListN.{length, take, drop, replicate, length-append, length-drop, length-replicate}
use lib.Seq.{take_at, take-append-le, drop-append-le, drop_at, get_or_at}
use Rattle.digits.specs.Digits.{number}
use Rattle.golay.specs.Golay.{weight, distance, byte_distance}
use Rattle.wire.specs.Wire.{word, first_number, ep, offset_number, tp_header}
use Rattle.wire.proofs.Laws.{word_length, ep_length, tp_header_length}
use Rattle.sender.specs.Answers.{done}
use Rattle.sender.specs.Opening.{opened}
use Rattle.sender.specs.Drawing.{present, part, offset}
use Rattle.downlink.proofs.plain.Low.{wire}
use Rattle.sender.specs.Run.{Call, World, Tp, tps, deeds, left, undrawn}
use Rattle.downlink.specs.Damage.{Item, filler, packet, items, eps, all_eps, drawn, ordinary_of, Bytes, Near, NearEnd, HeadNear, EpsNear, LlepsNear, TpNear, TpsNear, Damaged}
use Rattle.downlink.specs.Hearing.{Packet}
use Rattle.downlink.proofs.Window.{bytes, before}
use Rattle.downlink.proofs.Marks.{AllSent}
use Rattle.downlink.proofs.Lows.{llep, lleps}
use Rattle.downlink.proofs.Loads.{Load, TpIs, TpsAre, ItemOk, ItemsOk}
use Rattle.downlink.proofs.Holds.{pieces_sent}
use Rattle.downlink.proofs.Repair.{first_word, second_word}
use Rattle.downlink.proofs.Runs.{run, limits, start}
use Rattle.downlink.proofs.Laws.{ordinary_law}

-- ---- words and end bytes

near_self : (g : List ℕ) → Bytes g → Near g g
unfolding distance weight ones_in
near_self g b = (b, rw (xor_self (number 0 g)) (omega arith))

bytes_word : (n : ℕ) → Bytes (word n)
unfolding word
bytes_word n zero = omega arith
bytes_word n (suc zero) = omega arith
bytes_word n (suc (suc zero)) = omega arith
bytes_word n (suc (suc (suc i))) = omega arith

near_word : (n : ℕ) (s g : List ℕ) → s ≡ word n → g ≡ word n → Near s g
near_word n s g e f =
    subst⁻¹ (λ (x : List ℕ). Near x g) e (subst⁻¹ (Near (word n)) f (near_self (word n) (bytes_word n)))

near_end : (t : Bool) → NearEnd (cond t 0xFF 0x00) (cond t 0xFF 0x00)
unfolding byte_distance ones_in
near_end true = (omega arith, omega arith)
near_end false = (omega arith, omega arith)

-- ---- EPs, laid end to end

head_near : (c f : ℕ) (d z : List ℕ) → HeadNear (ep c f d) (ep c f d ++ z)
head_near c f d z =
    let e : List ℕ = ep c f d in
    let l = ep_length c f d in
    let m : 3 ≤ length (drop 3 e) = omega (arith, length-drop 3 e) in (
      near_word (first_number c f (length d)) (take 3 e) (take 3 (e ++ z)) (first_word c f d) (take-append-le 3 e z (omega arith) ∙ first_word c f d),
      near_word (length d % 4096) (take 3 (drop 3 e)) (take 3 (drop 3 (e ++ z))) (second_word c f d)
          (ap (take 3) (drop-append-le 3 e z (omega arith)) ∙ take-append-le 3 (drop 3 e) z m ∙ second_word c f d),
    )

eps_near : (es : List (List ℕ)) (z : List ℕ) → AllSent es → EpsNear es (flatten es ++ z)
unfolding AllSent flatten
eps_near [] z s = tt
eps_near (e ∷ es) z s =
    let a : (e ++ flatten es) ++ z ≡ e ++ (flatten es ++ z) = append_assoc e (flatten es) z in
    subst⁻¹ (EpsNear (e ∷ es)) a (
      subst⁻¹ (λ (x : List ℕ). HeadNear x (x ++ (flatten es ++ z))) s.0.is (head_near s.0.content s.0.flag s.0.load (flatten es ++ z)),
      subst⁻¹ (EpsNear es) (drop_at e (flatten es ++ z) (length e) refl) (eps_near es z s.1),
    )

lleps_near : (ps : List Packet) (z : List ℕ) → LlepsNear (lleps ps) (part (lleps ps) ++ z)
unfolding part
lleps_near [] z = tt
lleps_near (p ∷ ps) z =
    let e : List ℕ = llep p in
    let b : ℕ = cond (present (lleps ps)) 0xFF 0x00 in
    let rest : List ℕ = part (lleps ps) ++ z in
    let a : (e ++ b ∷ part (lleps ps)) ++ z ≡ e ++ b ∷ rest = append_assoc e (b ∷ part (lleps ps)) z in
    let n : length (e ++ b ∷ []) ≡ 1 + length e = omega (arith, length-append e (b ∷ [])) in
    subst⁻¹ (LlepsNear (e ∷ lleps ps)) a (
      head_near p.0 0 p.1 (b ∷ rest),
      subst⁻¹ (NearEnd b) (get_or_at e b rest 0 (length e) refl) (near_end (present (lleps ps))),
      subst⁻¹ (LlepsNear (lleps ps)) (ap (drop (1 + length e)) (sym (append_assoc e (b ∷ []) rest)) ∙ drop_at (e ++ b ∷ []) rest (1 + length e) n) (lleps_near ps z),
    )

-- ---- TPs

module _ (P str F : ℕ) (top : P ≤ 2047) where
  module _ (t : Tp) (l : Load) (is : TpIs P str F top t l) where
    abbrev o : ℕ
    o = offset (length (part (lleps l.now))) (before wire l.own) (length l.own)

    abbrev payload : List ℕ
    payload = part (lleps l.now) ++ bytes wire l.own

    pub payload_is : drop 4 t.bytes ≡ payload
    payload_is = ap (drop 4) is.bytes_are ∙ drop_at (tp_header str (present (lleps l.now)) o) payload 4 (tp_header_length str (present (lleps l.now)) o)

    word_is : take 3 (drop 1 t.bytes) ≡ word (offset_number (present (lleps l.now)) o)
    unfolding tp_header
    word_is = ap (λ z. take 3 (drop 1 z)) is.bytes_are ∙ take_at (word (offset_number (present (lleps l.now)) o)) payload 3 (word_length (offset_number (present (lleps l.now)) o))

    tp_near : TpNear t t.bytes
    tp_near = (
      refl,
      refl,
      near_word (offset_number (present (lleps l.now)) o) (take 3 (drop 1 t.bytes)) (take 3 (drop 1 t.bytes)) word_is word_is,
      subst⁻¹ (λ (es : List (List ℕ)). LlepsNear es (drop 4 t.bytes)) is.lleps_are (subst⁻¹ (LlepsNear (lleps l.now)) payload_is (lleps_near l.now (bytes wire l.own))),
    )

  tps_near : (ts : List Tp) (ls : List Load) → TpsAre P str F top ts ls → TpsNear ts (drawn ts)
  tps_near [] [] is = tt
  tps_near [] (l ∷ ls) is = absurd is
  tps_near (t ∷ ts) [] is = absurd is
  tps_near (t ∷ ts) (l ∷ ls) is = (tp_near t l is.0, tps_near ts ls is.1)

  -- ---- the items

  module _ (f₁ : 1 ≤ F) (f₂ : F ≤ 65535) where
    sent_append : (xs ys : List (List ℕ)) → AllSent xs → AllSent ys → AllSent (xs ++ ys)
    unfolding AllSent
    sent_append [] ys p q = q
    sent_append (x ∷ xs) ys p q = (p.0, sent_append xs ys p.1 q)

    item_sent : (i : Item) → ItemOk P str F top i → AllSent (eps i)
    unfolding AllSent
    item_sent (filler e) (n, small, is) =
        let l : length (replicate {A = ℕ} n 0xAA) ≡ n = length-replicate n 0xAA in
        (record { content = 0; flag = 0; load = replicate n 0xAA; is = is; known = omega arith; flagged = omega arith; short = omega arith }, tt)
    item_sent (packet c d es) (c₁, c₆, is) = subst⁻¹ AllSent is (pieces_sent F c d (omega arith) f₁ f₂)

    items_sent : (is : List Item) → ItemsOk P str F top is → AllSent (all_eps is)
    unfolding AllSent
    items_sent [] ok = tt
    items_sent (i ∷ is) ok = sent_append (eps i) (all_eps is) (item_sent i ok.0) (items_sent is ok.1)

-- NO DAMAGE is within the limits, whatever the calls
pub undamaged : (size stream F : ℕ) (w : World) → opened size stream F (length w.low) (length w.ordinary) ≡ done w.sender
    → (cs : List Call) → Damaged (tps (deeds w cs)) (all_eps (items F (deeds w cs))) (undrawn (left w cs)) (drawn (tps (deeds w cs)))
undamaged size stream F w is_open cs =
    let lim = limits size stream F w.low w.ordinary w.sender is_open in
    let size₂ : size ≤ 2051 = lim.1 in
    let P : ℕ = size - 4 in
    let top : P ≤ 2047 = omega arith in
    let ran = run P stream F (length w.low) (length w.ordinary) top lim.3 lim.4 w cs [] [] (start size stream F w.low w.ordinary w.sender is_open top lim.3 lim.4) in
    let fl = ran.flows in
    let is : List Item = items F (deeds w cs) in
    let all_is : ordinary_of (tps (deeds w cs)) (drawn (tps (deeds w cs))) ++ undrawn (left w cs) ≡ flatten (all_eps is) ++ [] =
    ordinary_law size stream F w is_open cs ∙ sym (append-nil (flatten (all_eps is))) in
    record {
      tps = tps_near P stream F top (tps (deeds w cs)) fl.loads fl.tps_are;
      eps = subst⁻¹ (EpsNear (all_eps is)) all_is (eps_near (all_eps is) [] (items_sent P stream F top lim.3 lim.4 is fl.items_ok));
    }
