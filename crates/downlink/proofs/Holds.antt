-- What the sender's state stands for, after an opening and any calls: the packets and the marked bytes that it has queued.
-- Here the opening and the offers. Assumes nothing.
use Prim.Native.Nat.{ℕ, zero, suc, ◌+◌, ◌-◌, ◌≤◌, ◌<◌}
use mathlib.Core.Path.{◌≡◌, refl, sym, ap, ap₂, ◌∙◌}
use mathlib.Core.Bool.{Bool, true, false, cond, ◌&&◌, not}
use mathlib.Core.List.{List, [], ◌∷◌, ◌++◌, append_assoc, append-nil}
use native.Mathlib.Omega.{arith}
use lib.Dec.{leb, ltb}
use lib.ListN.{length, take, drop, replicate, length-take, length-drop}
use borrow.Author.Tests.{eq-eqb, leb-true, ltb-false}
use Rattle.queue.specs.declared.Ring.{Ring}
use Rattle.queue.specs.Ring.{held, longer, written, Kept}
use Rattle.queue.proofs.Puts.{length_written, kept_written, held_written}
use Rattle.wire.specs.Wire.{ep}
use Rattle.sender.specs.declared.Sender.{Sender}
use Rattle.sender.specs.Answers.{lent}
use Rattle.sender.specs.Offering.{later, pieces, sp_bytes, no, put, known, want_ordinary, want_low, put_ordinary, put_low, ordinary_offered, low_offered}
use Rattle.downlink.proofs.plain.Low.{wire}
use Rattle.sender.specs.Run.{ordinary, low, World, Deed, refused, took, took_low, next, deed}
use Rattle.sender.specs.Run as N
use Rattle.downlink.specs.Hearing.{Packet}
use Rattle.downlink.specs.Demand.{Fit}
use Rattle.downlink.proofs.Window.{bytes, bytes_append}
use Rattle.downlink.proofs.Marks.{Cells, eps_cells, eps_bytes, Plain, Good, good_append, AllSent, good_eps}
use Rattle.downlink.proofs.Lows.{queue, queue_append, LowsOk, lows_snoc}
use Rattle.downlink.proofs.Loads.{Flows}
use Rattle.downlink.proofs.Places.{data_length_lem}

-- ---- an accepted packet's EPs say their lengths

later_sent : (k F c : ℕ) (d : List ℕ) → c < 16 → 1 ≤ F → F ≤ 65535 → length d ≤ k + F → AllSent (later k F c d)
unfolding later AllSent
later_sent zero F c d p f g h = (record { content = c; flag = 3; load = d; is = refl; known = p; flagged = omega arith; short = omega arith }, tt)
later_sent (suc k) F c d p f g h =
    go (leb (length d) F) refl (later_sent k F c (drop F d) p f g (omega (arith, length-drop F d)))
  where
    go : (t : Bool) → leb (length d) F ≡ t → AllSent (later k F c (drop F d))
        → AllSent (cond t (ep c 3 d ∷ []) (ep c 2 (take F d) ∷ later k F c (drop F d)))
    go true e ih =
        (record { content = c; flag = 3; load = d; is = refl; known = p; flagged = omega arith; short = omega (arith, leb-true (length d) F e) }, tt)
    go false e ih =
        (record { content = c; flag = 2; load = take F d; is = refl; known = p; flagged = omega arith; short = omega (arith, length-take F d) }, ih)

pub pieces_sent : (F c : ℕ) (d : List ℕ) → c < 16 → 1 ≤ F → F ≤ 65535 → AllSent (pieces F c d)
unfolding pieces AllSent
pieces_sent F c d p f g =
    go (leb (length d) F) refl (later_sent (length d) F c (drop F d) p f g (omega (arith, length-drop F d)))
  where
    go : (t : Bool) → leb (length d) F ≡ t → AllSent (later (length d) F c (drop F d))
        → AllSent (cond t (ep c 0 d ∷ []) (ep c 1 (take F d) ∷ later (length d) F c (drop F d)))
    go true e ih =
        (record { content = c; flag = 0; load = d; is = refl; known = p; flagged = omega arith; short = omega (arith, leb-true (length d) F e) }, tt)
    go false e ih =
        (record { content = c; flag = 1; load = take F d; is = refl; known = p; flagged = omega arith; short = omega (arith, length-take F d) }, ih)

both : (a b : Bool) → a && b ≡ true → (a ≡ true) × (b ≡ true)
both true true e = (refl, refl)
both true false e = (refl, e)
both false b e = (e, cc)

known_is : (c : ℕ) → known c ≡ true → (1 ≤ c) × (c ≤ 6)
unfolding known
known_is c e = let p = both (leb 1 c) (leb c 6) e in (leb-true 1 c p.0, leb-true c 6 p.1)

-- ---- the state

-- payload, stream, fragment size, and the lengths of the two queues
module _ (P str F ls os : ℕ) (top : P ≤ 2047) (piece₁ : 1 ≤ F) (piece₂ : F ≤ 65535) where
  abbrev pub state : Ring → Ring → ℕ → ℕ → Sender
  state l o ow re =
      record { setting = record { payload = P; stream = str; piece = F; lowspace = ls; space = os }; low = l; ordinary = o; owed = ow; rest = re }

  abbrev pub world : Ring → Ring → ℕ → ℕ → List ℕ → List ℕ → World
  world l o ow re lb ob = record { sender = state l o ow re; low = lb; ordinary = ob }

  pub record Facts (lows : List Packet) (pend : Cells) (l o : Ring) (ow re : ℕ) (lb ob : List ℕ) (oc qc : Cells) : Type 0 where
    pub kl : Kept lb l
    pub ko : Kept ob o
    pub el : length lb ≡ ls
    pub eo : length ob ≡ os
    pub lows_are : held lb l ≡ queue lows
    pub lows_ok : LowsOk P top lows
    -- owed bytes, and queued ones with their marks
    pub pend_is : pend ≡ oc ++ qc
    pub plain : Plain oc
    pub zeros : bytes wire oc ≡ replicate ow 0
    pub bytes_are : bytes wire qc ≡ held ob o
    pub good : Good re qc

  pub record Holds (w : World) (lows : List Packet) (pend : Cells) : Type 0 where
    pub l : Ring
    pub o : Ring
    pub ow : ℕ
    pub re : ℕ
    pub lb : List ℕ
    pub ob : List ℕ
    pub oc : Cells
    pub qc : Cells
    pub is : w ≡ world l o ow re lb ob
    pub facts : Facts lows pend l o ow re lb ob oc qc

  pub hold : (lows : List Packet) (pend : Cells) (l o : Ring) (ow re : ℕ) (lb ob : List ℕ) (oc qc : Cells)
      → Facts lows pend l o ow re lb ob oc qc → Holds (world l o ow re lb ob) lows pend
  hold lows pend l o ow re lb ob oc qc f = record { l = l; o = o; ow = ow; re = re; lb = lb; ob = ob; oc = oc; qc = qc; is = refl; facts = f }

  -- a call: what it did, and what its state stands for then
  pub record Steps (w : World) (d : Deed) (lows : List Packet) (pend : Cells) : Type 0 where
    pub lows' : List Packet
    pub pend' : Cells
    pub holds : Holds w lows' pend'
    pub flows : Flows P str F top (d ∷ []) lows pend lows' pend'
    -- a packet that was accepted has a length that is allowed, and went into its queue
    pub short : Fit 131072 (d ∷ [])
    pub queued : Fit os (d ∷ [])

  pub unchanged : (w : World) (lows : List Packet) (pend : Cells) → Holds w lows pend → Steps w refused lows pend
  unchanged w lows pend h =
      record {
        lows' = lows;
        pend' = pend;
        holds = h;
        flows = record { loads = []; tps_are = tt; low_flow = sym (append-nil lows); flow = sym (append-nil pend); items_ok = tt };
        short = tt;
        queued = tt;
      }

  pub lent_is : (l o : Ring) (ow re : ℕ) (lb ob : List ℕ) → length lb ≡ ls → length ob ≡ os → lent (state l o ow re).setting (length lb) (length ob) ≡ true
  unfolding lent
  lent_is l o ow re lb ob el eo = rw (eq-eqb (length lb) ls el, eq-eqb (length ob) os eo)

  module _ (lows : List Packet) (pend : Cells) (l o : Ring) (ow re : ℕ) (lb ob : List ℕ) (oc qc : Cells)
      (f : Facts lows pend l o ow re lb ob oc qc) where
    abbrev W : World
    W = world l o ow re lb ob

    here : Holds W lows pend
    here = hold lows pend l o ow re lb ob oc qc f

    -- ---- a low-latency offer

    low_done : (c : ℕ) (d : List ℕ) → 1 ≤ c → c ≤ 6 → 7 + length d ≤ P → length (ep c 0 d) ≤ ls - l.len
        → Steps (world (longer l (length (ep c 0 d))) o ow re (written lb l (ep c 0 d)) ob) (took_low c d) lows pend
    low_done c d c₁ c₆ h r =
        let e : List ℕ = ep c 0 d in
        let el : length lb ≡ ls = f.el in
        let k : l.len ≤ length lb = f.kl.len in
        let m : l.len + length e ≤ length lb = omega arith in
        let lows' : List Packet = lows ++ (c, d) ∷ [] in
        record {
          lows' = lows';
          pend' = pend;
          holds = hold lows' pend (longer l (length e)) o ow re (written lb l e) ob oc qc
              (record {
                kl = kept_written lb e l f.kl m;
                ko = f.ko;
                el = length_written lb e l f.kl m ∙ f.el;
                eo = f.eo;
                lows_are = held_written lb e l f.kl m ∙ ap (λ z. z ++ e) f.lows_are
                    ∙ ap (λ z. queue lows ++ z) (sym (append-nil e)) ∙ sym (queue_append lows ((c, d) ∷ []));
                lows_ok = lows_snoc P top lows (c, d) f.lows_ok (c₁, c₆, h);
                pend_is = f.pend_is;
                plain = f.plain;
                zeros = f.zeros;
                bytes_are = f.bytes_are;
                good = f.good;
              });
          flows = record { loads = []; tps_are = tt; low_flow = refl; flow = sym (append-nil pend); items_ok = tt };
          short = tt;
          queued = tt;
        }

    low_go : (c : ℕ) (d : List ℕ) (t₁ t₂ t₃ : Bool) → known c ≡ t₁ → ltb P (7 + length d) ≡ t₂ → ltb (ls - l.len) (length (ep c 0 d)) ≡ t₃
        → (let x = put_low W.sender lb (cond (not t₁) (no 2) (cond t₂ (no 3) (cond t₃ (no 4) (put (ep c 0 d))))) in
        Steps (record { sender = N.kept W.sender x.given; low = x.buffer; ordinary = ob }) (N.unless x.given (took_low c d)) lows pend)
    low_go c d false t₂ t₃ e₁ e₂ e₃ = unchanged W lows pend here
    low_go c d true true t₃ e₁ e₂ e₃ = unchanged W lows pend here
    low_go c d true false true e₁ e₂ e₃ = unchanged W lows pend here
    low_go c d true false false e₁ e₂ e₃ =
        let k = known_is c e₁ in
        low_done c d k.0 k.1 (ltb-false P (7 + length d) e₂) (ltb-false (ls - l.len) (length (ep c 0 d)) e₃)

    pub low_step : (c : ℕ) (d : List ℕ) → Steps (next W (low c d)) (deed W (low c d)) lows pend
    unfolding low_offered want_low
    low_step c d =
        rw (lent_is l o ow re lb ob f.el f.eo)
        (low_go c d (known c) (ltb P (7 + length d)) (ltb (ls - l.len) (length (ep c 0 d))) refl refl refl)

    -- ---- an ordinary offer

    ordinary_done : (c : ℕ) (d : List ℕ) → 1 ≤ c → c ≤ 6 → length d ≤ 131072 → length (sp_bytes F c d) ≤ os - o.len
        → Steps (world l (longer o (length (sp_bytes F c d))) ow re lb (written ob o (sp_bytes F c d))) (took c d) lows pend
    unfolding sp_bytes
    ordinary_done c d c₁ c₆ h r =
        let es : List (List ℕ) = pieces F c d in
        let e : List ℕ = sp_bytes F c d in
        let cs : Cells = eps_cells es in
        let eo : length ob ≡ os = f.eo in
        let k : o.len ≤ length ob = f.ko.len in
        let m : o.len + length e ≤ length ob = omega arith in
        record {
          lows' = lows;
          pend' = pend ++ cs;
          holds = hold lows (pend ++ cs) l (longer o (length e)) ow re lb (written ob o e) oc (qc ++ cs)
              (record {
                kl = f.kl;
                ko = kept_written ob e o f.ko m;
                el = f.el;
                eo = length_written ob e o f.ko m ∙ f.eo;
                lows_are = f.lows_are;
                lows_ok = f.lows_ok;
                pend_is = ap (λ z. z ++ cs) f.pend_is ∙ append_assoc oc qc cs;
                plain = f.plain;
                zeros = f.zeros;
                bytes_are = bytes_append wire qc cs ∙ ap₂ (λ (a b : List ℕ). a ++ b) f.bytes_are (eps_bytes es) ∙ sym (held_written ob e o f.ko m);
                good = good_append re qc cs f.good (good_eps es (pieces_sent F c d (omega arith) piece₁ piece₂));
              });
          flows = record {
            loads = [];
            tps_are = tt;
            low_flow = sym (append-nil lows);
            flow = ap (λ z. pend ++ z) (sym (append-nil cs));
            items_ok = ((c₁, c₆, refl), tt);
          };
          short = (omega arith, tt);
          queued = (omega (arith, data_length_lem F c d), tt);
        }

    ordinary_go : (c : ℕ) (d : List ℕ) (t₁ t₂ t₃ : Bool) → known c ≡ t₁ → ltb 131072 (length d) ≡ t₂ → ltb (os - o.len) (length (sp_bytes F c d)) ≡ t₃
        → (let x = put_ordinary W.sender ob (cond (not t₁) (no 2) (cond t₂ (no 3) (cond t₃ (no 4) (put (sp_bytes F c d))))) in
        Steps (record { sender = N.kept W.sender x.given; low = lb; ordinary = x.buffer }) (N.unless x.given (took c d)) lows pend)
    ordinary_go c d false t₂ t₃ e₁ e₂ e₃ = unchanged W lows pend here
    ordinary_go c d true true t₃ e₁ e₂ e₃ = unchanged W lows pend here
    ordinary_go c d true false true e₁ e₂ e₃ = unchanged W lows pend here
    ordinary_go c d true false false e₁ e₂ e₃ =
        let k = known_is c e₁ in
        ordinary_done c d k.0 k.1 (ltb-false 131072 (length d) e₂) (ltb-false (os - o.len) (length (sp_bytes F c d)) e₃)

    pub ordinary_step : (c : ℕ) (d : List ℕ) → Steps (next W (ordinary c d)) (deed W (ordinary c d)) lows pend
    unfolding ordinary_offered want_ordinary
    ordinary_step c d =
        rw (lent_is l o ow re lb ob f.el f.eo)
        (ordinary_go c d (known c) (ltb 131072 (length d)) (ltb (os - o.len) (length (sp_bytes F c d))) refl refl refl)
