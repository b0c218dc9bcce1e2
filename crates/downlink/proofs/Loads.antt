-- What a TP carries, and what a run of the sender keeps to. Assumes nothing.
use Prim.Native.Nat.{ℕ, ◌+◌, ◌≤◌}
use mathlib.Core.Path.{◌≡◌, refl, sym, ap, ◌∙◌, subst⁻¹}
use mathlib.Core.List.{List, [], ◌∷◌, ◌++◌, append_assoc, append-nil}
use lib.ListN.{length, replicate}
use Rattle.wire.specs.Wire.{ep, tp_header}
use Rattle.sender.specs.Offering.{pieces}
use Rattle.sender.specs.Drawing.{present, part, offset}
use Rattle.downlink.proofs.plain.Low.{wire}
use Rattle.sender.specs.Run.{Tp, Deed, refused, took, took_low, drew, tps}
use Rattle.downlink.specs.Damage.{Item, filler, packet, fillers, items, eps}
use Rattle.downlink.specs.Hearing.{Packet}
use Rattle.downlink.specs.Due.{lows_taken}
use Rattle.downlink.proofs.Window.{bytes, before}
use Rattle.downlink.proofs.Marks.{Cells, ep_cells, eps_cells}
use Rattle.downlink.proofs.Lows.{lleps, LowsOk}

-- accepted low-latency packets, and a stretch of the ordinary bytes
pub record Load : Type 0 where
  pub now : List Packet
  pub own : Cells

abbrev pub nows : List Load → List Packet
nows [] = []
nows (l ∷ ls) = l.now ++ nows ls

abbrev pub owns : List Load → Cells
owns [] = []
owns (l ∷ ls) = l.own ++ owns ls

abbrev pub item_cells : Item → Cells
item_cells i = eps_cells (eps i)

abbrev pub items_cells : List Item → Cells
items_cells [] = []
items_cells (i ∷ is) = item_cells i ++ items_cells is

pub cells_append : (xs ys : List Item) → items_cells (xs ++ ys) ≡ items_cells xs ++ items_cells ys
cells_append [] ys = refl
cells_append (x ∷ xs) ys = ap (λ l. item_cells x ++ l) (cells_append xs ys) ∙ sym (append_assoc (item_cells x) (items_cells xs) (items_cells ys))

pub filler_cells : (e : List ℕ) → items_cells (fillers e) ≡ ep_cells e
filler_cells [] = refl
filler_cells (b ∷ e) = append-nil (ep_cells (b ∷ e) ++ []) ∙ append-nil (ep_cells (b ∷ e))

module _ (P str F : ℕ) (top : P ≤ 2047) where
  pub record TpIs (t : Tp) (l : Load) : Type 0 where
    pub lleps_are : t.lleps ≡ lleps l.now
    pub lows_ok : LowsOk P top l.now
    pub full : length (part (lleps l.now)) + length l.own ≡ P
    pub bytes_are : t.bytes
        ≡ tp_header str (present (lleps l.now)) (offset (length (part (lleps l.now))) (before wire l.own) (length l.own))
        ++ (part (lleps l.now) ++ bytes wire l.own)

  abbrev pub TpsAre : List Tp → List Load → Type 0
  TpsAre [] [] = Unit {0}
  TpsAre [] (l ∷ ls) = ⊥
  TpsAre (t ∷ ts) [] = ⊥
  TpsAre (t ∷ ts) (l ∷ ls) = TpIs t l × TpsAre ts ls

  -- an item that could be accepted, or filled in
  abbrev pub ItemOk : Item → Type 0
  ItemOk (filler e) = (n : ℕ) × (n ≤ 2047) × (e ≡ ep 0 0 (replicate n 0xAA))
  ItemOk (packet c d es) = (1 ≤ c) × (c ≤ 6) × (es ≡ pieces F c d)

  abbrev pub ItemsOk : List Item → Type 0
  ItemsOk [] = Unit {0}
  ItemsOk (i ∷ is) = ItemOk i × ItemsOk is

  items_ok_append : (xs ys : List Item) → ItemsOk xs → ItemsOk ys → ItemsOk (xs ++ ys)
  items_ok_append [] ys p q = q
  items_ok_append (x ∷ xs) ys p q = (p.0, items_ok_append xs ys p.1 q)

  -- what was done from a state in which `lows` and `pend` are queued, to one in which `lows'` and `pend'` are
  pub record Flows (ds : List Deed) (lows : List Packet) (pend : Cells) (lows' : List Packet) (pend' : Cells) : Type 0 where
    pub loads : List Load
    pub tps_are : TpsAre (tps ds) loads
    pub low_flow : nows loads ++ lows' ≡ lows ++ lows_taken ds
    pub flow : owns loads ++ pend' ≡ pend ++ items_cells (items F ds)
    pub items_ok : ItemsOk (items F ds)

  nows_append : (xs ys : List Load) → nows (xs ++ ys) ≡ nows xs ++ nows ys
  nows_append [] ys = refl
  nows_append (x ∷ xs) ys = ap (λ l. x.now ++ l) (nows_append xs ys) ∙ sym (append_assoc x.now (nows xs) (nows ys))

  owns_append : (xs ys : List Load) → owns (xs ++ ys) ≡ owns xs ++ owns ys
  owns_append [] ys = refl
  owns_append (x ∷ xs) ys = ap (λ l. x.own ++ l) (owns_append xs ys) ∙ sym (append_assoc x.own (owns xs) (owns ys))

  tps_cons : (d : Deed) (ds : List Deed) (xs ys : List Load) → TpsAre (tps (d ∷ [])) xs → TpsAre (tps ds) ys → TpsAre (tps (d ∷ ds)) (xs ++ ys)
  tps_cons refused ds [] ys p q = q
  tps_cons refused ds (x ∷ xs) ys p q = absurd p
  tps_cons (took c e) ds [] ys p q = q
  tps_cons (took c e) ds (x ∷ xs) ys p q = absurd p
  tps_cons (took_low c e) ds [] ys p q = q
  tps_cons (took_low c e) ds (x ∷ xs) ys p q = absurd p
  tps_cons (drew t) ds [] ys p q = absurd p
  tps_cons (drew t) ds (x ∷ []) ys p q = (p.0, q)
  tps_cons (drew t) ds (x ∷ y ∷ xs) ys p q = absurd p.1

  taken_cons : (d : Deed) (ds : List Deed) → lows_taken (d ∷ ds) ≡ lows_taken (d ∷ []) ++ lows_taken ds
  taken_cons refused ds = refl
  taken_cons (took c e) ds = refl
  taken_cons (took_low c e) ds = refl
  taken_cons (drew t) ds = refl

  items_cons : (d : Deed) (ds : List Deed) → items F (d ∷ ds) ≡ items F (d ∷ []) ++ items F ds
  items_cons refused ds = refl
  items_cons (took c e) ds = refl
  items_cons (took_low c e) ds = refl
  items_cons (drew t) ds = ap (λ l. l ++ items F ds) (sym (append-nil (fillers t.fill)))

  pub none_done : (lows : List Packet) (pend : Cells) → Flows [] lows pend lows pend
  none_done lows pend = record { loads = []; tps_are = tt; low_flow = sym (append-nil lows); flow = sym (append-nil pend); items_ok = tt }

  swap : {A : Type 0} (a b x' x'' x y z : List A) → a ++ x' ≡ x ++ y → b ++ x'' ≡ x' ++ z → (a ++ b) ++ x'' ≡ x ++ (y ++ z)
  swap a b x' x'' x y z p q =
      append_assoc a b x'' ∙ ap (λ l. a ++ l) q ∙ sym (append_assoc a x' z) ∙ ap (λ l. l ++ z) p ∙ append_assoc x y z

  pub then : (d : Deed) (ds : List Deed) (lows lows' lows'' : List Packet) (pend pend' pend'' : Cells)
      → Flows (d ∷ []) lows pend lows' pend' → Flows ds lows' pend' lows'' pend'' → Flows (d ∷ ds) lows pend lows'' pend''
  then d ds lows lows' lows'' pend pend' pend'' f g =
      record {
        loads = f.loads ++ g.loads;
        tps_are = tps_cons d ds f.loads g.loads f.tps_are g.tps_are;
        low_flow = ap (λ l. l ++ lows'') (nows_append f.loads g.loads)
            ∙ swap (nows f.loads) (nows g.loads) lows' lows'' lows (lows_taken (d ∷ [])) (lows_taken ds) f.low_flow g.low_flow
            ∙ ap (λ l. lows ++ l) (sym (taken_cons d ds));
        flow = ap (λ l. l ++ pend'') (owns_append f.loads g.loads)
            ∙ swap (owns f.loads) (owns g.loads) pend' pend'' pend (items_cells (items F (d ∷ []))) (items_cells (items F ds)) f.flow g.flow
            ∙ ap (λ l. pend ++ l) (sym (cells_append (items F (d ∷ [])) (items F ds)) ∙ ap items_cells (sym (items_cons d ds)));
        items_ok = subst⁻¹ ItemsOk (items_cons d ds) (items_ok_append (items F (d ∷ [])) (items F ds) f.items_ok g.items_ok);
      }
