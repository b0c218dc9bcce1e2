-- A sender that was opened, over any calls: the TPs carry the accepted low-latency packets and the items' bytes, in order.
-- Assumes nothing.
use Prim.Native.Nat.{ℕ, ◌-◌, ◌≤◌}
use mathlib.Core.Path.{◌≡◌, refl, sym, ap, ap₂, ◌∙◌, subst⁻¹}
use mathlib.Core.Bool.{Bool, true, false, cond}
use mathlib.Core.List.{List, [], ◌∷◌, ◌++◌}
use native.Mathlib.Omega.{arith}
use lib.ListN.{length}
use Rattle.queue.specs.declared.Ring.{Ring}
use Rattle.queue.specs.Ring.{held}
use Rattle.sender.specs.declared.Sender.{Sender}
use Rattle.sender.specs.Answers.{done}
use Rattle.sender.specs.Offering.{want_ordinary, ordinary_offered, want_low, low_offered}
use Rattle.sender.specs.Drawing as D
use Rattle.sender.specs.Opening.{empty, opened}
use Rattle.sender.proofs.Opens.{opened_is}
use Rattle.downlink.proofs.plain.Low.{wire}
use Rattle.sender.specs.Run.{Call, ordinary, low, draw, lending, World, Deed, refused, took, took_low, drew, lent_others, own_lengths, next, deed, deeds, left, undrawn}
use Rattle.downlink.specs.Hearing.{Packet}
use Rattle.downlink.specs.Demand.{Fit}
use Rattle.downlink.proofs.Window.{bytes, bytes_append}
use Rattle.downlink.proofs.Marks.{Cells, Plain, Good}
use Rattle.downlink.proofs.Loads.{Flows, none_done, then}
use Rattle.downlink.proofs.Holds.{world, Facts, Holds, hold, Steps, unchanged, low_step, ordinary_step}
use Rattle.downlink.proofs.Draws.{draw_step}

-- A call that lends a queue of another length than at opening changes nothing, whatever it asks.
pub astray : (c : Call) (w : World) → own_lengths w w.low w.ordinary ≡ false → (deed w c ≡ refused) × ((next w c).sender ≡ w.sender)
unfolding ordinary_offered want_ordinary low_offered want_low D.drew
astray (ordinary c d) w e = (rw e, rw e)
astray (low c d) w e = (rw e, rw e)
astray (draw b) w e = (rw e, rw e)
astray (lending x y c) w e = go (own_lengths w x y) refl (astray c w e) (λ f. astray c (lent_others w x y) f)
  where
    go : (t : Bool) → own_lengths w x y ≡ t → (deed w c ≡ refused) × ((next w c).sender ≡ w.sender)
        → (own_lengths w x y ≡ false → (deed (lent_others w x y) c ≡ refused) × ((next (lent_others w x y) c).sender ≡ w.sender))
        → (cond t (deed w c) (deed (lent_others w x y) c) ≡ refused)
        × ((cond t (next w c) (record { sender = (next (lent_others w x y) c).sender; low = w.low; ordinary = w.ordinary })).sender ≡ w.sender)
    go true f own others = own
    go false f own others = others f

fit_cons : (n : ℕ) (d : Deed) (ds : List Deed) → Fit n (d ∷ []) → Fit n ds → Fit n (d ∷ ds)
fit_cons n refused ds p q = q
fit_cons n (took c x) ds p q = (p.0, q)
fit_cons n (took_low c x) ds p q = q
fit_cons n (drew t) ds p q = q

module _ (P str F ls os : ℕ) (top : P ≤ 2047) (piece₁ : 1 ≤ F) (piece₂ : F ≤ 65535) where
  abbrev pub Has : World → List Packet → Cells → Type 0
  Has = Holds P str F ls os top piece₁ piece₂

  one_in : (lows : List Packet) (pend : Cells) (l o : Ring) (ow re : ℕ) (lb ob : List ℕ) (oc qc : Cells)
      → Facts P str F ls os top piece₁ piece₂ lows pend l o ow re lb ob oc qc → (c : Call)
      → Steps P str F ls os top piece₁ piece₂ (next (world P str F ls os top piece₁ piece₂ l o ow re lb ob) c)
      (deed (world P str F ls os top piece₁ piece₂ l o ow re lb ob) c) lows pend
  one_in lows pend l o ow re lb ob oc qc f (ordinary c d) = ordinary_step P str F ls os top piece₁ piece₂ lows pend l o ow re lb ob oc qc f c d
  one_in lows pend l o ow re lb ob oc qc f (low c d) = low_step P str F ls os top piece₁ piece₂ lows pend l o ow re lb ob oc qc f c d
  one_in lows pend l o ow re lb ob oc qc f (draw b) = draw_step P str F ls os top piece₁ piece₂ lows pend l o ow re lb ob oc qc f b
  one_in lows pend l o ow re lb ob oc qc f (lending x y c) = go (own_lengths W x y) refl (one_in lows pend l o ow re lb ob oc qc f c)
    where
      W : World
      W = world P str F ls os top piece₁ piece₂ l o ow re lb ob

      U : World
      U = lent_others W x y

      here : Has W lows pend
      here = hold P str F ls os top piece₁ piece₂ lows pend l o ow re lb ob oc qc f

      go : (t : Bool) → own_lengths W x y ≡ t → Steps P str F ls os top piece₁ piece₂ (next W c) (deed W c) lows pend
          → Steps P str F ls os top piece₁ piece₂ (cond t (next W c) (record { sender = (next U c).sender; low = lb; ordinary = ob })) (cond t (deed W c) (deed U c)) lows pend
      go true e own = own
      go false e own =
          let a = astray c U e in
          subst⁻¹ (λ (s : Sender). Steps P str F ls os top piece₁ piece₂ (record { sender = s; low = lb; ordinary = ob }) (deed U c) lows pend) a.1
          (subst⁻¹ (λ (d : Deed). Steps P str F ls os top piece₁ piece₂ W d lows pend) a.0 (unchanged P str F ls os top piece₁ piece₂ W lows pend here))

  one : (w : World) (lows : List Packet) (pend : Cells) (c : Call) → Has w lows pend
      → Steps P str F ls os top piece₁ piece₂ (next w c) (deed w c) lows pend
  one w lows pend c h =
      subst⁻¹ (λ (v : World). Steps P str F ls os top piece₁ piece₂ (next v c) (deed v c) lows pend) h.is
      (one_in lows pend h.l h.o h.ow h.re h.lb h.ob h.oc h.qc h.facts c)

  pub record Ran (w : World) (cs : List Call) (lows : List Packet) (pend : Cells) : Type 0 where
    pub lows' : List Packet
    pub pend' : Cells
    pub holds : Has (left w cs) lows' pend'
    pub flows : Flows P str F top (deeds w cs) lows pend lows' pend'
    pub short : Fit 131072 (deeds w cs)
    pub queued : Fit os (deeds w cs)

  pub run : (w : World) (cs : List Call) (lows : List Packet) (pend : Cells) → Has w lows pend → Ran w cs lows pend
  run w [] lows pend h = record { lows' = lows; pend' = pend; holds = h; flows = none_done P str F top lows pend; short = tt; queued = tt }
  run w (c ∷ cs) lows pend h =
      let s = one w lows pend c h in
      let x = run (next w c) cs s.lows' s.pend' s.holds in
      record {
        lows' = x.lows';
        pend' = x.pend';
        holds = x.holds;
        flows = then P str F top (deed w c) (deeds (next w c) cs) lows s.lows' x.lows' pend s.pend' x.pend' s.flows x.flows;
        short = fit_cons 131072 (deed w c) (deeds (next w c) cs) s.short x.short;
        queued = fit_cons os (deed w c) (deeds (next w c) cs) s.queued x.queued;
      }

  pub left_bytes : (w : World) (lows : List Packet) (pend : Cells) → Has w lows pend → bytes wire pend ≡ undrawn w
  left_bytes w lows pend h =
      let f = h.facts in
      ap (bytes wire) f.pend_is ∙ bytes_append wire h.oc h.qc ∙ ap₂ (λ (a b : List ℕ). a ++ b) f.zeros f.bytes_are
      ∙ ap undrawn (sym h.is)

-- ---- the opening

nothing_held : (b : List ℕ) → held b empty ≡ []
unfolding held
nothing_held b = refl

module _ (size str F : ℕ) (lb ob : List ℕ) (s : Sender) (e : opened size str F (length lb) (length ob) ≡ done s) where
  pub limits : (16 ≤ size) × (size ≤ 2051) × (str ≤ 15) × (1 ≤ F) × (F ≤ 65535)
  limits =
      let l = (opened_is size str F (length lb) (length ob) s e).0 in
      (l.tp_least, l.tp_most, l.stream_most, l.piece_least, l.piece_most)

  pub start : (top : size - 4 ≤ 2047) (p₁ : 1 ≤ F) (p₂ : F ≤ 65535)
      → Holds (size - 4) str F (length lb) (length ob) top p₁ p₂ (record { sender = s; low = lb; ordinary = ob }) [] []
  unfolding Plain Good
  start top p₁ p₂ =
      subst⁻¹ (λ (x : Sender). Holds (size - 4) str F (length lb) (length ob) top p₁ p₂ (record { sender = x; low = lb; ordinary = ob }) [] []) (opened_is size str F (length lb) (length ob) s e).1
      (hold (size - 4) str F (length lb) (length ob) top p₁ p₂ [] [] empty empty 0 0 lb ob [] []
      (record {
        kl = record { head = omega arith; len = omega arith };
        ko = record { head = omega arith; len = omega arith };
        el = refl;
        eo = refl;
        lows_are = nothing_held lb;
        lows_ok = tt;
        pend_is = refl;
        plain = tt;
        zeros = refl;
        bytes_are = sym (nothing_held ob);
        good = tt;
      }))
