-- A draw: the TP carries the first accepted low-latency packets and the next ordinary bytes, and its offset is where the first
-- marked byte stands. Assumes nothing.
use Prim.Native.Nat.{ℕ, zero, suc, ◌+◌, ◌-◌, ◌≤◌, min}
use mathlib.Core.Path.{◌≡◌, refl, sym, ap, ap₂, ◌∙◌, subst, subst⁻¹}
use mathlib.Core.Bool.{Bool, true, false, cond, not}
use mathlib.Core.List.{List, [], ◌∷◌, ◌++◌, append-nil, flatten}
use native.Mathlib.Omega.{arith}
use lib.Dec.{eqb}
use lib.ListN.{length, take, drop, replicate, length-append}
use lib.Seq.{drop_at}
use Rattle.queue.specs.declared.Ring.{Ring}
use Rattle.queue.specs.Ring.{held, off, Kept}
use Rattle.queue.proofs.Puts.{length_held}
use Rattle.queue.proofs.Takes.{held_off, kept_off}
use Rattle.wire.specs.Wire.{ep, tp_header}
use Rattle.wire.proofs.Laws.{ep_length}
use Rattle.sender.specs.Answers as A
use Rattle.sender.specs.Drawing.{overwritten, leave, present, part, fill, lacking, stream, owed_after, rest_after, offset, Draw, draw_with, draw_of, draw_by, took}
use Rattle.sender.specs.Drawing as D
use Rattle.downlink.proofs.plain.Low.{wire}
use Rattle.sender.specs.Run.{draw, World, Tp, drew, next, deed, leaving, filling}
use Rattle.sender.specs.Run as N
use Rattle.downlink.specs.Damage.{fillers}
use Rattle.downlink.specs.Hearing.{Packet}
use Rattle.downlink.proofs.Window.{bytes, before}
use Rattle.downlink.proofs.Marks.{Cells}
use Rattle.downlink.proofs.Lows.{lleps, queue, queue_append, queue_flat, Leaves, leaves, not_overwritten}
use Rattle.downlink.proofs.Loads.{items_cells, filler_cells, TpIs, ItemsOk}
use Rattle.downlink.proofs.Fills.{fillers_some}
use Rattle.downlink.proofs.Taken.{Taken, taken}
use Rattle.downlink.proofs.Holds.{world, Facts, hold, Steps, unchanged, lent_is}

module _ (P str F ls os : ℕ) (top : P ≤ 2047) (piece₁ : 1 ≤ F) (piece₂ : F ≤ 65535)
    (lows : List Packet) (pend : Cells) (l o : Ring) (ow re : ℕ) (lb ob : List ℕ) (oc qc : Cells)
    (f : Facts P str F ls os top piece₁ piece₂ lows pend l o ow re lb ob oc qc) where
  abbrev W : World
  W = world P str F ls os top piece₁ piece₂ l o ow re lb ob

  -- ---- the low-latency packets that leave

  out : Leaves P top (suc P) P lows
  out = leaves P top P P lows f.lows_ok (omega arith)

  now : List Packet
  now = out.now

  es_are : leaving W ≡ lleps now
  unfolding now
  es_are = ap (λ q. leave (suc P) P q P) f.lows_are ∙ out.sent

  L : ℕ
  L = length (part (lleps now))

  L_most : L ≤ P
  unfolding L now
  L_most = out.within

  gone : ℕ
  gone = length (flatten (lleps now))

  parts : held lb l ≡ queue out.now ++ queue out.stay
  parts = f.lows_are ∙ ap queue out.all ∙ queue_append out.now out.stay

  gone_few : gone ≤ l.len
  unfolding gone now
  gone_few =
      omega (arith, length_held lb l f.kl, ap length parts, length-append (queue out.now) (queue out.stay), ap length (queue_flat out.now))

  stays : drop gone (held lb l) ≡ queue out.stay
  unfolding gone now
  stays =
      ap (drop (length (flatten (lleps out.now)))) parts
      ∙ drop_at (queue out.now) (queue out.stay) (length (flatten (lleps out.now))) (ap length (sym (queue_flat out.now)))

  -- ---- the ordinary bytes that leave

  r : ℕ
  r = P - L

  r_small : r ≤ 2047
  unfolding r
  r_small = omega arith

  Q : List ℕ
  Q = held ob o

  Q_is : held ob o ≡ Q
  unfolding Q
  Q_is = refl

  n : ℕ
  n = min (r - ow) (length Q)

  n_few : n ≤ o.len
  unfolding n Q
  n_few = omega (arith, length_held ob o f.ko)

  t : Taken oc qc ow re r Q
  t = taken oc qc ow re r Q f.plain f.zeros (f.bytes_are ∙ Q_is) f.good r_small

  -- ---- what is left

  l' : Ring
  l' = off ls l gone

  o' : Ring
  o' = off os o n

  facts : Facts P str F ls os top piece₁ piece₂ out.stay (t.oc' ++ t.qc') l' o' (owed_after r ow Q) (rest_after n Q re) lb ob t.oc' t.qc'
  unfolding l' o' n
  facts =
      let el : length lb ≡ ls = f.el in
      let eo : length ob ≡ os = f.eo in
      record {
        kl = subst (λ (z : ℕ). Kept lb (off z l gone)) el (kept_off lb l gone f.kl gone_few);
        ko = subst (λ (z : ℕ). Kept ob (off z o n)) eo (kept_off ob o n f.ko n_few);
        el = el;
        eo = eo;
        lows_are = ap (λ (z : ℕ). held lb (off z l gone)) (sym el) ∙ held_off lb l gone f.kl gone_few ∙ stays;
        lows_ok = out.stay_ok;
        pend_is = refl;
        plain = t.plain;
        zeros = t.zeros;
        bytes_are = t.queued ∙ ap (drop n) (sym Q_is) ∙ sym (held_off ob o n f.ko n_few) ∙ ap (λ (z : ℕ). held ob (off z o n)) eo;
        good = t.good;
      }

  -- ---- the TP

  T : List ℕ
  T = tp_header str (present (lleps now)) (offset L (ow + re) r) ++ (part (lleps now) ++ take r (stream r ow Q))

  T_is : T ≡ tp_header str (present (lleps now)) (offset (length (part (lleps now))) (before wire t.own) (length t.own)) ++ (part (lleps now) ++ bytes wire t.own)
  unfolding T L
  T_is =
      ap₂ (λ (a : ℕ) (b : List ℕ). tp_header str (present (lleps now)) a ++ (part (lleps now) ++ b)) (sym (t.first (length (part (lleps now))))) (sym t.bytes_are)

  drawn : Draw
  drawn = record { tp = T; low_gone = gone; gone = n; owed = owed_after r ow Q; rest = rest_after n Q re }

  draw_is : draw_by W.sender lb ob ≡ drawn
  unfolding draw_by draw_of draw_with drawn T n r L Q gone
  draw_is = ap (λ es. draw_with P str es (held ob o) ow re) es_are

  fill_is : filling W ≡ fill (lacking r ow Q)
  unfolding r L Q
  fill_is = ap (λ es. fill (lacking (P - length (part es)) ow (held ob o))) es_are

  lacking_small : lacking r ow Q ≤ 2047
  unfolding lacking
  lacking_small = omega (arith, r_small)

  abbrev tp : Tp
  tp = record { bytes = T; lleps = leaving W; fill = filling W }

  tp_is : TpIs P str F top tp (record { now = now; own = t.own })
  unfolding r L now
  tp_is = record { lleps_are = es_are; lows_ok = out.now_ok; full = omega (arith, L_most, t.long); bytes_are = T_is }

  fill_ok : (k : ℕ) → k ≤ 2047 → ItemsOk P str F top (fillers (fill k) ++ [])
  unfolding fill
  fill_ok zero h = tt
  fill_ok (suc k) h =
      let e : List ℕ = ep 0 0 (replicate (suc k - 6) 0xAA) in
      rw (fillers_some e (omega (arith, ep_length 0 0 (replicate (suc k - 6) 0xAA)))) ((suc k - 6, omega arith, refl), tt)

  flows : t.own ++ (t.oc' ++ t.qc') ≡ pend ++ items_cells (fillers (filling W) ++ [])
  flows =
      t.flows
      ∙ ap₂ (λ (a b : Cells). a ++ b) (sym f.pend_is)
      (sym (ap items_cells (append-nil (fillers (filling W))) ∙ ap (λ e. items_cells (fillers e)) fill_is ∙ filler_cells (fill (lacking r ow Q))))

  -- ---- the call

  after : Steps P str F ls os top piece₁ piece₂ (world P str F ls os top piece₁ piece₂ l' o' (owed_after r ow Q) (rest_after n Q re) lb ob) (drew tp) lows pend
  unfolding now
  after =
      record {
        lows' = out.stay;
        pend' = t.oc' ++ t.qc';
        holds = hold P str F ls os top piece₁ piece₂ out.stay (t.oc' ++ t.qc') l' o' (owed_after r ow Q) (rest_after n Q re) lb ob t.oc' t.qc' facts;
        flows = record {
          loads = record { now = now; own = t.own } ∷ [];
          tps_are = (tp_is, tt);
          low_flow = ap (λ z. z ++ out.stay) (append-nil out.now) ∙ sym out.all ∙ sym (append-nil lows);
          flow = ap (λ z. z ++ (t.oc' ++ t.qc')) (append-nil t.own) ∙ flows;
          items_ok = subst⁻¹ (λ (e : List ℕ). ItemsOk P str F top (fillers e ++ [])) fill_is (fill_ok (lacking r ow Q) lacking_small);
        };
        short = tt;
        queued = tt;
      }

  made : (let x = took W.sender drawn in
      Steps P str F ls os top piece₁ piece₂ (record { sender = N.kept W.sender x.given; low = lb; ordinary = ob })
      (N.unless x.given (drew (record { bytes = x.buffer; lleps = leaving W; fill = filling W }))) lows pend)
  unfolding drawn l' o'
  made = after

  intact : overwritten P (held lb l) ≡ false
  intact = ap (overwritten P) f.lows_are ∙ not_overwritten P top lows f.lows_ok

  pub draw_step : (b : List ℕ) → Steps P str F ls os top piece₁ piece₂ (next W (draw b)) (deed W (draw b)) lows pend
  unfolding D.drew
  draw_step b =
      rw (lent_is P str F ls os top piece₁ piece₂ l o ow re lb ob f.el f.eo, intact, draw_is) (go (eqb (length b) (P + 4)))
    where
      go : (t : Bool)
          → (let x = cond (not t) (A.refused 5 b) (took W.sender drawn) in
          Steps P str F ls os top piece₁ piece₂ (record { sender = N.kept W.sender x.given; low = lb; ordinary = ob })
          (N.unless x.given (drew (record { bytes = x.buffer; lleps = leaving W; fill = filling W }))) lows pend)
      go true = made
      go false = unchanged P str F ls os top piece₁ piece₂ W lows pend (hold P str F ls os top piece₁ piece₂ lows pend l o ow re lb ob oc qc f)
