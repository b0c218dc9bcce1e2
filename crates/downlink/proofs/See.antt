-- What the receiver makes of one TP that is damaged within the limits. Assumes nothing.
use Prim.Native.Nat.{ℕ, zero, suc, ◌+◌, ◌-◌, ◌*◌, ◌/◌, ◌%◌, ◌≤◌, ◌<◌}
use mathlib.Core.Path.{◌≡◌, sym, ap, ap₂, ◌∙◌, subst}
use mathlib.Core.Bool.{Bool, true, false, cond}
use mathlib.Core.Logic.{⊎_elim}
use mathlib.Core.List.{List, [], ◌∷◌, ◌++◌}
use native.Mathlib.Omega.{arith}
use lib.Dec.{leb, ltb, eqb}
use lib.ListN.{length, take, drop, get_or, length-append, length-drop}
use lib.Seq.{take_at, drop-drop}
use borrow.Author.Tests.{lt-leb, le-leb, ne_eqb, eq-eqb, lt-ltb, le-ltb}
use Rattle.std.specs.Prelude.{Some}
use Rattle.digits.specs.Digits.{number}
use Rattle.golay.specs.declared.End.{End}
use Rattle.golay.specs.Answers.{end_of}
use Rattle.wire.specs.declared.Header.{Header}
use Rattle.wire.specs.Wire.{word, ep, stream_byte, offset_number, tp_header}
use Rattle.wire.specs.Reading.{header_of, tp_number_in}
use Rattle.wire.proofs.Laws.{word_length, ep_length, tp_header_length, tp_word_back}
use Rattle.sender.specs.Drawing as D
use Rattle.sender.specs.Drawing.{offset}
use Rattle.downlink.proofs.plain.Frame.{Frame, Out}
use Rattle.downlink.proofs.plain.Forecast.{Start, start, outset}
use Rattle.downlink.proofs.plain.Join.{Finding, low}
use Rattle.receiver.specs.Low.{ended, counting, sized, llep}
use Rattle.downlink.proofs.plain.Low.{wire, begin_of, Part, ahead, walk, low_part}
use Rattle.downlink.proofs.plain.Tp.{Heard, low_part_if, behind, worded, heard}
use Rattle.sender.specs.Run.{Tp}
use Rattle.downlink.specs.Damage.{Near, NearEnd, LlepsNear, TpNear}
use Rattle.downlink.specs.Hearing.{Packet}
use Rattle.downlink.proofs.Window.{bytes, before, read, part}
use Rattle.downlink.proofs.Marks.{Cells, bytes_length}
use Rattle.downlink.proofs.Lows.{split, lleps, LowOk, LowsOk, part_cons}
use Rattle.downlink.proofs.Lows as Y
use Rattle.downlink.proofs.Loads.{Load, TpIs}
use Rattle.downlink.proofs.Repair.{head_of, flips_in, near_word, header_reads, kind_complete, end_more, end_last}

-- the header of a low-latency packet, read where it arrived, with the flips of its end byte
abbrev low_head : Packet → List ℕ → Header
low_head p bs = counting (get_or bs (6 + length p.1) 0) (head_of p.0 0 (length p.1) (flips_in p.0 0 p.1 bs))

-- the low-latency packets as found
abbrev pub lows_found : List Packet → List ℕ → List (Finding wire)
lows_found [] bs = []
lows_found (p ∷ ps) bs = low (begin_of (low_head p bs)) (take (length p.1) (drop 6 bs)) ∷ lows_found ps (drop (7 + length p.1) bs)

-- ---- the low-latency part

module _ (P : ℕ) (top : P ≤ 2047) where
  closes : (h : Header) (ps : List Packet) (b : ℕ) → NearEnd (cond (D.present (lleps ps)) 0xFF 0x00) b → ended (end_of b) h ≡ Some (h, D.present (lleps ps))
  closes h [] b near = ap (λ (e : End). ended e h) (end_last b near)
  closes h (p ∷ ps) b near = ap (λ (e : End). ended e h) (end_more b near)

  llep_is : (p : Packet) (ps : List Packet) (bs : List ℕ) → LowOk P top p → LlepsNear (lleps (p ∷ ps)) bs → 7 + length p.1 ≤ length bs
      → llep bs ≡ Some (low_head p bs, D.present (lleps ps))
  unfolding llep sized
  llep_is p ps bs ok near enough =
      let c : ℕ = p.0 in
      let n : ℕ = length p.1 in
      let c₆ : c ≤ 6 = ok.1 in
      let m : 7 + n ≤ P = ok.2 in
      let e : header_of (take 6 bs) ≡ Some (head_of c 0 n (flips_in c 0 p.1 bs)) = header_reads c 0 p.1 bs (omega arith) (omega arith) (omega arith) (omega arith) near.0 in
      let end : NearEnd (cond (D.present (lleps ps)) 0xFF 0x00) (get_or bs (6 + n) 0) =
      subst (λ (k : ℕ). NearEnd (cond (D.present (lleps ps)) 0xFF 0x00) (get_or bs k 0)) (ep_length c 0 p.1) near.1 in
      rw (le-ltb (length bs) 7 (omega arith), e, le-ltb (length bs) (7 + n) enough) (closes (low_head p bs) ps (get_or bs (6 + n) 0) end)

  walk_one : (k : ℕ) (p : Packet) (ps : List Packet) (bs : List ℕ) → LowOk P top p → LlepsNear (lleps (p ∷ ps)) bs → 7 + length p.1 ≤ length bs
      → walk (suc k) bs ≡ ahead (low (begin_of (low_head p bs)) (take (length p.1) (drop 6 bs)) ∷ [])
      (cond (D.present (lleps ps)) (walk k (drop (7 + length p.1) bs)) (record { finds = []; behind = Some (drop (7 + length p.1) bs) }))
  unfolding walk
  walk_one k p ps bs ok near enough =
      rw (llep_is p ps bs ok near enough, kind_complete p.0 (length p.1) (low_head p bs).flips ok.0 ok.1)

  walks : (k : ℕ) (p : Packet) (ps : List Packet) (bs : List ℕ) → LowsOk P top (p ∷ ps) → LlepsNear (lleps (p ∷ ps)) bs
      → length (D.part (lleps (p ∷ ps))) ≤ length bs → length (D.part (lleps (p ∷ ps))) ≤ k
      → walk k bs ≡ record { finds = lows_found (p ∷ ps) bs; behind = Some (drop (length (D.part (lleps (p ∷ ps)))) bs) }
  walks zero p ps bs ok near m q = absurd (omega (arith, part_cons P top p ps))
  walks (suc k) p [] bs ok near m q =
      let n_is : 7 + length p.1 ≡ length (D.part (lleps (p ∷ []))) = omega (arith, part_cons P top p [], Y.no_part P top) in
      walk_one k p [] bs ok.0 near (omega arith)
      ∙ ap (λ (n : ℕ). record { finds = lows_found (p ∷ []) bs; behind = Some (drop n bs) }) n_is
  walks (suc k) p (r ∷ ps) bs ok near m q =
      let n : ℕ = 7 + length p.1 in
      let more = part_cons P top p (r ∷ ps) in
      let e : length (ep p.0 0 p.1) ≡ 6 + length p.1 = ep_length p.0 0 p.1 in
      let n_is : n + length (D.part (lleps (r ∷ ps))) ≡ length (D.part (lleps (p ∷ r ∷ ps))) = omega arith in
      let s : 1 + length (ep p.0 0 p.1) ≡ n = omega arith in
      walk_one k p (r ∷ ps) bs ok.0 near (omega arith)
      ∙ ap (ahead (low (begin_of (low_head p bs)) (take (length p.1) (drop 6 bs)) ∷ []))
      (walks k r ps (drop n bs) ok.1 (subst (λ (z : ℕ). LlepsNear (lleps (r ∷ ps)) (drop z bs)) s near.2) (omega (arith, length-drop n bs)) (omega arith)
      ∙ ap (λ x. record { finds = lows_found (r ∷ ps) (drop n bs); behind = Some x }) (drop-drop (length (D.part (lleps (r ∷ ps)))) n bs ∙ ap (λ (z : ℕ). drop z bs) n_is))

  pub low_part_lem : (ps : List Packet) (bs : List ℕ) → LowsOk P top ps → LlepsNear (lleps ps) bs → length (D.part (lleps ps)) ≤ length bs
      → low_part_if (D.present (lleps ps)) bs ≡ record { finds = lows_found ps bs; behind = Some (drop (length (D.part (lleps ps))) bs) }
  unfolding low_part
  low_part_lem [] bs ok near m = ap (λ (n : ℕ). record { finds = []; behind = Some (drop n bs) }) (sym (Y.no_part P top))
  low_part_lem (p ∷ ps) bs ok near m = walks (suc (length bs)) p ps bs ok near m (omega arith)

-- ---- the offset leads to the first EP

outset_is : (f : Frame wire) (g a : ℕ) (bs : List ℕ) → g + length bs ≤ 2047 → a ≤ length bs
    → outset wire f (offset g a (length bs)) g bs ≡ start wire f a bs
unfolding outset offset
outset_is f g a bs top h =
    ⊎_elim
    (λ s. let e : length bs ≡ a = omega arith in rw (le-ltb a (length bs) s) (ap (λ (n : ℕ). start wire f n bs) e))
    (λ s. let e : g + a - g ≡ a = omega arith in
    let other : eqb (g + a) 2047 ≡ false = ne_eqb (g + a) 2047 (λ q. omega arith) in
    let inner : leb (g + length bs) (g + a) ≡ false = lt-leb (g + length bs) (g + a) (omega arith) in
    let later : ltb (g + a) g ≡ false = le-ltb (g + a) g (omega arith) in
    rw (lt-ltb a (length bs) s, other, inner, later, e))
    (split (length bs) a)

pub before_most : (cs : Cells) → before wire cs ≤ length cs
before_most [] = omega arith
before_most ((true, b) ∷ cs) = omega arith
before_most ((false, b) ∷ cs) = omega (arith, before_most cs)

offset_small : (g a n : ℕ) → g + n ≤ 2047 → offset g a n < 2048
unfolding offset
offset_small g a n h =
    ⊎_elim (λ s. rw (le-ltb a n s) (omega arith)) (λ s. rw (lt-ltb a n s) (omega arith)) (split n a)

word_says : (b : Bool) (o : ℕ) → o < 2048 → (leb 2048 (offset_number b o) ≡ b) × (offset_number b o % 2048 ≡ o)
unfolding offset_number
word_says true o h = (le-leb 2048 (2048 + o % 2048) (omega arith), omega arith)
word_says false o h = (lt-leb 2048 (0 + o % 2048) (omega arith), omega arith)

-- ---- the TP

module _ (size str F P room : ℕ) (top : P ≤ 2047) (size_is : size ≡ 4 + P) (str-most : str ≤ 15) (t : Tp) (l : Load) (is : TpIs P str F top t l)
    (r : List ℕ) (near : TpNear t r) where
  abbrev now : List Packet
  now = l.now

  abbrev g : ℕ
  g = length (D.part (lleps now))

  abbrev a : ℕ
  a = before wire l.own

  abbrev flag : Bool
  flag = D.present (lleps now)

  abbrev o : ℕ
  o = offset g a (length l.own)

  -- its ordinary bytes
  abbrev pub own : List ℕ
  own = drop (4 + g) r

  abbrev rest : List ℕ
  rest = D.part (lleps now) ++ bytes wire l.own

  pub length_is : length r ≡ 4 + P
  length_is =
      near.0 ∙ ap length is.bytes_are
      ∙ omega (
        arith,
        length-append (tp_header str flag o) rest,
        tp_header_length str flag o,
        length-append (D.part (lleps now)) (bytes wire l.own),
        bytes_length l.own,
        is.full,
      )

  pub own_length : length own ≡ length l.own
  own_length = omega (arith, length-drop (4 + g) r, length_is, is.full)

  pub stream_is : get_or r 0 0 ≡ str % 16 * 16
  unfolding tp_header stream_byte
  stream_is = near.1 ∙ ap (λ z. get_or z 0 0) is.bytes_are

  word_is : take 3 (drop 1 t.bytes) ≡ word (offset_number flag o)
  unfolding tp_header
  word_is = ap (λ z. take 3 (drop 1 z)) is.bytes_are ∙ take_at (word (offset_number flag o)) rest 3 (word_length (offset_number flag o))

  pub word_reads : tp_number_in (number 0 (take 3 (drop 1 r))) ≡ Some (offset_number flag o)
  word_reads =
      tp_word_back (number 0 (take 3 (drop 1 r))) flag o
      (near_word (offset_number flag o) (take 3 (drop 1 r)) (subst (λ (z : List ℕ). Near z (take 3 (drop 1 r))) word_is near.2))

  abbrev out : Frame wire → Out wire
  out f = part wire f a own

  abbrev pub seen : Frame wire → Heard
  seen f = record { lows = lows_found now (drop 4 r); told = (out f).1; frame = (out f).0 }

  -- its ordinary bytes set about so
  abbrev about : Start wire → Heard
  about x = record { lows = lows_found now (drop 4 r); told = (read wire x own).1; frame = (read wire x own).0 }

  fits : g + length l.own ≤ 2047
  fits = omega (arith, is.full)

  behind_is : (f : Frame wire) → behind (lows_found now (drop 4 r)) (Some (drop g (drop 4 r))) f o (drop 4 r) ≡ seen f
  behind_is f =
      let bs_is : drop g (drop 4 r) ≡ own = drop-drop g 4 r in
      let gone : length (drop 4 r) - length own ≡ g = omega (arith, length-drop 4 r, length_is, own_length, is.full) in
      let n = own_length in
      ap (λ z. behind (lows_found now (drop 4 r)) (Some z) f o (drop 4 r)) bs_is
      ∙ ap₂ (λ (x y : ℕ). about (outset wire f (offset g a x) y own)) (sym own_length) gone
      ∙ ap (λ (x : Start wire). about x) (outset_is f g a own (omega (arith, fits)) (omega (arith, before_most l.own)))

  worded_is : (f : Frame wire) → worded (Some (offset_number flag o)) f (drop 4 r) ≡ seen f
  worded_is f =
      let says = word_says flag o (offset_small g a (length l.own) fits) in
      let lows : LlepsNear (lleps now) (drop 4 r) = subst (λ (z : List (List ℕ)). LlepsNear z (drop 4 r)) is.lleps_are near.3 in
      let p = low_part_lem P top now (drop 4 r) is.lows_ok lows (omega (arith, length-drop 4 r, length_is, is.full)) in
      ap₂ (λ (b : Bool) (x : ℕ). behind (low_part_if b (drop 4 r)).finds (low_part_if b (drop 4 r)).behind f x (drop 4 r)) says.0 says.1
      ∙ ap (λ (x : Part). behind x.finds x.behind f o (drop 4 r)) p
      ∙ behind_is f

  pub heard_is : (f : Frame wire) → heard (record { size = size; stream = str; room = room }) f r ≡ seen f
  unfolding heard
  heard_is f =
      let s = stream_is in
      rw (eq-eqb (length r) size (length_is ∙ sym size_is), eq-eqb (get_or r 0 0 / 16) str (omega arith), eq-eqb (get_or r 0 0 % 4) 0 (omega arith), word_reads)
      (worded_is f)
