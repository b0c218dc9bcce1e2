-- What a sender keeps to over any calls from an opening, whoever receives: the bytes that its TPs carry, in order. Assumes nothing.
use Prim.Native.Nat.{ℕ, suc, ◌+◌, ◌-◌, ◌≤◌}
use mathlib.Core.Path.{◌≡◌, refl, sym, ap, ap₂, ◌∙◌}
use mathlib.Core.Bool.{true, false}
use mathlib.Core.List.{List, [], ◌∷◌, ◌++◌, append_assoc, flatten}
use native.Mathlib.Omega.{arith}
use lib.Dec.{eqb}
use lib.ListN.{length, drop, length-append}
use lib.Seq.{drop_at}
use borrow.Author.Tests.{eq-eqb}
use Rattle.queue.specs.Ring.{held}
use Rattle.wire.specs.Wire.{tp_header}
use Rattle.wire.proofs.Laws.{tp_header_length}
use Rattle.sender.specs.Answers.{done}
use Rattle.sender.specs.Opening.{opened}
use Rattle.sender.specs.Drawing as D
use Rattle.sender.specs.Drawing.{overwritten, leave, present, part, offset}
use Rattle.sender.specs.Run.{Call, draw, World, Tp, drew, leaving, deed, deeds, left, undrawn, tps}
use Rattle.downlink.proofs.plain.Low.{wire}
use Rattle.downlink.specs.Hearing.{Packet}
use Rattle.downlink.specs.Damage.{Item, eps, all_eps, items, drawn, ordinary_of}
use Rattle.downlink.specs.Due.{lows_taken}
use Rattle.downlink.proofs.Window.{bytes, before, bytes_append}
use Rattle.downlink.proofs.Marks.{Cells, eps_cells, eps_bytes, bytes_length}
use Rattle.downlink.proofs.Lows.{llep, lleps, queue, LowOk, goes, not_overwritten}
use Rattle.downlink.proofs.Loads.{Load, nows, owns, items_cells, TpIs, TpsAre}
use Rattle.downlink.proofs.Holds.{lent_is}
use Rattle.downlink.proofs.Runs.{Ran, run, left_bytes, limits, start}

-- the LLEPs in TPs
abbrev pub gone : List Tp → List (List ℕ)
gone [] = []
gone (t ∷ ts) = t.lleps ++ gone ts

abbrev pub AllOf : ℕ → List Tp → Type 0
AllOf n [] = Unit {0}
AllOf n (t ∷ ts) = (length t.bytes ≡ n) × AllOf n ts

pub flatten_append : (xs ys : List (List ℕ)) → flatten (xs ++ ys) ≡ flatten xs ++ flatten ys
unfolding flatten
flatten_append [] ys = refl
flatten_append (x ∷ xs) ys = ap (λ l. x ++ l) (flatten_append xs ys) ∙ sym (append_assoc x (flatten xs) (flatten ys))

items_bytes : (is : List Item) → bytes wire (items_cells is) ≡ flatten (all_eps is)
unfolding flatten
items_bytes [] = refl
items_bytes (i ∷ is) =
    bytes_append wire (eps_cells (eps i)) (items_cells is)
    ∙ ap₂ (λ (a b : List ℕ). a ++ b) (eps_bytes (eps i)) (items_bytes is)
    ∙ sym (flatten_append (eps i) (all_eps is))

lleps_append : (ps qs : List Packet) → lleps (ps ++ qs) ≡ lleps ps ++ lleps qs
lleps_append [] qs = refl
lleps_append (p ∷ ps) qs = ap (λ l. llep p ∷ l) (lleps_append ps qs)

module _ (P str F : ℕ) (top : P ≤ 2047) where
  own_is : (t : Tp) (l : Load) → TpIs P str F top t l → drop (4 + length (part t.lleps)) t.bytes ≡ bytes wire l.own
  own_is t l is =
      let q = part (lleps l.now) in
      let h = tp_header str (present (lleps l.now)) (offset (length q) (before wire l.own) (length l.own)) in
      let e : t.bytes ≡ (h ++ q) ++ bytes wire l.own = is.bytes_are ∙ sym (append_assoc h q (bytes wire l.own)) in
      ap₂ (λ (n : ℕ) (b : List ℕ). drop n b) (ap (λ x. 4 + length (part x)) is.lleps_are) e
      ∙ drop_at (h ++ q) (bytes wire l.own) (4 + length q)
      (omega (arith, length-append h q, tp_header_length str (present (lleps l.now)) (offset (length q) (before wire l.own) (length l.own))))

  long : (t : Tp) (l : Load) → TpIs P str F top t l → length t.bytes ≡ 4 + P
  long t l is =
      let q = part (lleps l.now) in
      let h = tp_header str (present (lleps l.now)) (offset (length q) (before wire l.own) (length l.own)) in
      ap length is.bytes_are
      ∙ omega (
        arith,
        length-append h (q ++ bytes wire l.own),
        length-append q (bytes wire l.own),
        bytes_length l.own,
        is.full,
        tp_header_length str (present (lleps l.now)) (offset (length q) (before wire l.own) (length l.own)),
      )

  all_long : (ts : List Tp) (ls : List Load) → TpsAre P str F top ts ls → AllOf (4 + P) ts
  all_long [] [] are = tt
  all_long [] (l ∷ ls) are = absurd are
  all_long (t ∷ ts) [] are = absurd are
  all_long (t ∷ ts) (l ∷ ls) are = (long t l are.0, all_long ts ls are.1)

  own_all : (ts : List Tp) (ls : List Load) → TpsAre P str F top ts ls → ordinary_of ts (drawn ts) ≡ bytes wire (owns ls)
  own_all [] [] are = refl
  own_all [] (l ∷ ls) are = absurd are
  own_all (t ∷ ts) [] are = absurd are
  own_all (t ∷ ts) (l ∷ ls) are =
      ap₂ (λ (a b : List ℕ). a ++ b) (own_is t l are.0) (own_all ts ls are.1) ∙ sym (bytes_append wire l.own (owns ls))

  gone_all : (ts : List Tp) (ls : List Load) → TpsAre P str F top ts ls → gone ts ≡ lleps (nows ls)
  gone_all [] [] are = refl
  gone_all [] (l ∷ ls) are = absurd are
  gone_all (t ∷ ts) [] are = absurd are
  gone_all (t ∷ ts) (l ∷ ls) are =
      ap₂ (λ (a b : List (List ℕ)). a ++ b) are.0.lleps_are (gone_all ts ls are.1) ∙ sym (lleps_append l.now (nows ls))

-- any calls on a sender that was opened
module _ (size str F : ℕ) (w : World) (e : opened size str F (length w.low) (length w.ordinary) ≡ done w.sender) (cs : List Call) where
  lim : (16 ≤ size) × (size ≤ 2051) × (str ≤ 15) × (1 ≤ F) × (F ≤ 65535)
  lim = limits size str F w.low w.ordinary w.sender e

  abbrev P : ℕ
  P = size - 4

  pub top : P ≤ 2047
  top = let most : size ≤ 2051 = lim.1 in omega arith

  ran : Ran P str F (length w.low) (length w.ordinary) top lim.3 lim.4 w cs [] []
  ran =
      run P str F (length w.low) (length w.ordinary) top lim.3 lim.4 w cs [] []
      (start size str F w.low w.ordinary w.sender e top lim.3 lim.4)

  abbrev ts : List Tp
  ts = tps (deeds w cs)

  -- every TP has exactly the TP length
  pub length_law : AllOf size ts
  length_law =
      let least : 16 ≤ size = lim.0 in
      let same : 4 + P ≡ size = omega arith in
      rw same at (all_long P str F top ts ran.flows.loads ran.flows.tps_are)

  -- the ordinary bytes drawn, then those still to be drawn, are the EPs of accepted packets and of fill, in order;
  -- all pieces of a packet are one item, so fill never comes between them
  pub ordinary_law : ordinary_of ts (drawn ts) ++ undrawn (left w cs) ≡ flatten (all_eps (items F (deeds w cs)))
  ordinary_law =
      ap₂ (λ (a b : List ℕ). a ++ b) (own_all P str F top ts ran.flows.loads ran.flows.tps_are)
      (sym (left_bytes P str F (length w.low) (length w.ordinary) top lim.3 lim.4 (left w cs) ran.lows' ran.pend' ran.holds))
      ∙ sym (bytes_append wire (owns ran.flows.loads) ran.pend')
      ∙ ap (bytes wire) ran.flows.flow
      ∙ items_bytes (items F (deeds w cs))

  -- the LLEPs that left, each whole in one TP, then those that wait in the queue, are those of the accepted packets, in order
  pub low_law : (waiting : List Packet) × (gone ts ++ lleps waiting ≡ lleps (lows_taken (deeds w cs))) × (held (left w cs).low (left w cs).sender.low ≡ queue waiting)
  low_law =
      let h = ran.holds in (
        ran.lows',
        ap (λ l. l ++ lleps ran.lows') (gone_all P str F top ts ran.flows.loads ran.flows.tps_are)
            ∙ sym (lleps_append (nows ran.flows.loads) ran.lows')
            ∙ ap lleps ran.flows.low_flow,
        ap (λ (x : World). held x.low x.sender.low) h.is ∙ h.facts.lows_are,
      )

  -- each TP is its header, its LLEPs with their end bytes and a stretch of the marked bytes, in which the first byte of each EP is
  -- marked: the header's offset is that of the first marked one, 2047 if there is none
  pub offset_law : (ls : List Load) × (pending : Cells) × TpsAre P str F top ts ls × (owns ls ++ pending ≡ items_cells (items F (deeds w cs)))
  offset_law = (ran.flows.loads, ran.pend', ran.flows.tps_are, ran.flows.flow)

  -- an LLEP at the head of its queue leaves at the next draw
  pub head_law : (p : Packet) (ps : List Packet) → low_law.0 ≡ p ∷ ps → (more : List (List ℕ)) × (leaving (left w cs) ≡ llep p ∷ more)
  unfolding low_law
  head_law p ps first =
      let h = ran.holds in
      let fits : LowOk P top p = (rw first at h.facts.lows_ok).0 in
      let queued : held h.lb h.l ≡ llep p ++ queue ps = h.facts.lows_are ∙ ap queue first in (
        leave P P (queue ps) (P - (7 + length p.1)),
        ap leaving h.is ∙ ap (λ (q : List ℕ). leave (suc P) P q P) queued ∙ goes P top P P p (queue ps) fits fits.2,
      )

  -- a draw into a buffer of the TP length always gives a TP
  pub draw_law : (b : List ℕ) → length b ≡ size → (t : Tp) × (deed (left w cs) (draw b) ≡ drew t)
  unfolding D.drew
  draw_law b size_is =
      let h = ran.holds in
      let least : 16 ≤ size = lim.0 in
      let right : eqb (length b) (P + 4) ≡ true = eq-eqb (length b) (P + 4) (omega arith) in
      let lends = lent_is P str F (length w.low) (length w.ordinary) top lim.3 lim.4 h.l h.o h.ow h.re h.lb h.ob h.facts.el h.facts.eo in
      let whole : overwritten P (held h.lb h.l) ≡ false = ap (overwritten P) h.facts.lows_are ∙ not_overwritten P top ran.lows' h.facts.lows_ok in
      rw h.is (rw (lends, whole, right) (_, refl))
