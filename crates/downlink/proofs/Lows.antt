-- The low-latency queue holds accepted packets, and a draw sends the first of them. Assumes nothing.
use Prim.Native.Nat.{ℕ, zero, suc, ◌+◌, ◌-◌, ◌≤◌, ◌<◌}
use mathlib.Core.Path.{◌≡◌, refl, sym, ap, ◌∙◌}
use mathlib.Core.Bool.{Bool, true, false, cond, ◌&&◌, not}
use mathlib.Core.Logic.{◌⊎◌, inl, inr, ⊎_elim}
use mathlib.Core.List.{List, [], ◌∷◌, ◌++◌, append_assoc, flatten}
use native.Mathlib.Omega.{arith}
use lib.Dec.{leb, ltb, eqb}
use lib.ListN.{length, length-append}
use lib.Seq.{take_at, drop_at}
use borrow.Author.Tests.{le-ltb, lt-ltb, le-leb, lt-leb, eq-eqb, ne_eqb, leb-true, leb-false}
use Rattle.digits.specs.Digits.{number}
use Rattle.wire.specs.Wire.{header, ep}
use Rattle.wire.proofs.Laws.{ep_length}
use Rattle.sender.specs.Offering.{known}
use Rattle.sender.specs.Drawing.{head_at, size_in, content_in, low_in, low_at, overwritten, next, leave, present, part}
use Rattle.downlink.specs.Hearing.{Packet}
use Rattle.downlink.proofs.Heads.{size_in_lem, content_in_lem, head_at_lem}

pub split : (a b : ℕ) → (a ≤ b) ⊎ (b < a)
split a b = by (leb a b) refl
  where
    by : (t : Bool) → leb a b ≡ t → (a ≤ b) ⊎ (b < a)
    by true e = inl (leb-true a b e)
    by false e = inr (leb-false a b e)

-- the LLEP of an accepted packet
abbrev pub llep : Packet → List ℕ
llep p = ep p.0 0 p.1

abbrev pub lleps : List Packet → List (List ℕ)
lleps [] = []
lleps (p ∷ ps) = llep p ∷ lleps ps

abbrev pub queue : List Packet → List ℕ
queue [] = []
queue (p ∷ ps) = llep p ++ queue ps

pub queue_append : (ps qs : List Packet) → queue (ps ++ qs) ≡ queue ps ++ queue qs
queue_append [] qs = refl
queue_append (p ∷ ps) qs = ap (λ l. llep p ++ l) (queue_append ps qs) ∙ sym (append_assoc (llep p) (queue ps) (queue qs))

pub queue_flat : (ps : List Packet) → flatten (lleps ps) ≡ queue ps
unfolding flatten
queue_flat [] = refl
queue_flat (p ∷ ps) = ap (λ l. llep p ++ l) (queue_flat ps)

low_in_lem : (P n h : ℕ) → 6 + size_in h ≤ n → 7 + size_in h ≤ P → known (content_in h) ≡ true → number 0 (header (content_in h) 0 (size_in h)) ≡ h
    → low_in P n h ≡ 6 + size_in h
unfolding low_in
low_in_lem P n h a b k e = rw (le-leb (6 + size_in h) n a, le-leb (7 + size_in h) P b, k, eq-eqb (number 0 (header (content_in h) 0 (size_in h))) h e)

low_none : (P : ℕ) → low_at P [] ≡ 0
unfolding low_at low_in
low_none P = rw (lt-leb (6 + size_in (head_at [])) 0 (omega arith))

module _ (P : ℕ) (top : P ≤ 2047) where
  -- a packet that could be accepted
  abbrev pub LowOk : Packet → Type 0
  LowOk p = (1 ≤ p.0) × (p.0 ≤ 6) × (7 + length p.1 ≤ P)

  abbrev pub LowsOk : List Packet → Type 0
  LowsOk [] = Unit {0}
  LowsOk (p ∷ ps) = LowOk p × LowsOk ps

  pub lows_snoc : (ps : List Packet) (p : Packet) → LowsOk ps → LowOk p → LowsOk (ps ++ p ∷ [])
  lows_snoc [] p o q = (q, tt)
  lows_snoc (r ∷ ps) p o q = (o.0, lows_snoc ps p o.1 q)

  known_is : (c : ℕ) → 1 ≤ c → c ≤ 6 → known c ≡ true
  unfolding known
  known_is c a b = rw (le-leb 1 c a, le-leb c 6 b)

  low_at_lem : (p : Packet) (q : List ℕ) → LowOk p → low_at P (llep p ++ q) ≡ 6 + length p.1
  unfolding low_at
  low_at_lem p q o =
      let c : ℕ = p.0 in
      let n : ℕ = length p.1 in
      let c₆ : c ≤ 6 = o.1 in
      let s₁ : 7 + n ≤ P = o.2 in
      let h : ℕ = number 0 (header c 0 n) in
      let s : size_in h ≡ n = size_in_lem c 0 n (omega arith) in
      let k : content_in h ≡ c = content_in_lem c 0 n (omega arith) in
      ap (low_in P (length (llep p ++ q))) (head_at_lem c 0 p.1 q)
      ∙ low_in_lem P (length (llep p ++ q)) h (omega (arith, length-append (llep p) q, ep_length c 0 p.1)) (omega arith)
      (rw k (known_is c o.0 o.1)) (rw (k, s))
      ∙ ap (λ (m : ℕ). 6 + m) s

  fits_next : (p : Packet) (q : List ℕ) (r : ℕ) → LowOk p → 7 + length p.1 ≤ r → next P (llep p ++ q) r ≡ 6 + length p.1
  unfolding next
  fits_next p q r o h = rw (low_at_lem p q o, lt-ltb (6 + length p.1) r (omega arith))

  stuck_next : (p : Packet) (q : List ℕ) (r : ℕ) → LowOk p → r < 7 + length p.1 → next P (llep p ++ q) r ≡ 0
  unfolding next
  stuck_next p q r o h = rw (low_at_lem p q o, le-ltb (6 + length p.1) r (omega arith))

  none_next : (r : ℕ) → next P [] r ≡ 0
  unfolding next
  none_next r = rw (low_none P) (go (ltb 0 r))
    where
      go : (t : Bool) → ◌≡◌ {A = ℕ} (cond t 0 0) 0
      go true = refl
      go false = refl

  -- a draw with r bytes left sends `now`, and `stay` remains
  pub record Leaves (k r : ℕ) (ps : List Packet) : Type 0 where
    pub now : List Packet
    pub stay : List Packet
    pub all : ps ≡ now ++ stay
    pub sent : leave k P (queue ps) r ≡ lleps now
    pub now_ok : LowsOk now
    pub stay_ok : LowsOk stay
    pub within : length (part (lleps now)) ≤ r

  stops : (k r : ℕ) (q : List ℕ) → next P q r ≡ 0 → leave (suc k) P q r ≡ []
  unfolding leave
  stops k r q e = rw e

  pub goes : (k r : ℕ) (p : Packet) (q : List ℕ) → LowOk p → 7 + length p.1 ≤ r
      → leave (suc k) P (llep p ++ q) r ≡ llep p ∷ leave k P q (r - (7 + length p.1))
  unfolding leave
  goes k r p q o h =
      let n : ℕ = 6 + length p.1 in
      let z : eqb n 0 ≡ false = ne_eqb n 0 (omega arith) in
      let l = ep_length p.0 0 p.1 in
      let y : r - (n + 1) ≡ r - (7 + length p.1) = omega arith in
      rw (fits_next p q r o h, z, take_at (llep p) q n l, drop_at (llep p) q n l, y)

  pub part_cons : (p : Packet) (ps : List Packet) → length (part (lleps (p ∷ ps))) ≡ 7 + length p.1 + length (part (lleps ps))
  unfolding part
  part_cons p ps =
      omega (arith, length-append (llep p) (cond (present (lleps ps)) 0xFF 0x00 ∷ part (lleps ps)), ep_length p.0 0 p.1)

  pub no_part : length (part []) ≡ 0
  unfolding part
  no_part = refl

  none_leaves : (k r : ℕ) (ps : List Packet) → LowsOk ps → next P (queue ps) r ≡ 0 → Leaves (suc k) r ps
  none_leaves k r ps o e =
      record { now = []; stay = ps; all = refl; sent = stops k r (queue ps) e; now_ok = tt; stay_ok = o; within = rw no_part (omega arith) }

  pub leaves : (k r : ℕ) (ps : List Packet) → LowsOk ps → r ≤ k → Leaves (suc k) r ps
  leaves k r [] o h = none_leaves k r [] o (none_next r)
  leaves zero r (p ∷ ps) o h = none_leaves zero r (p ∷ ps) o (stuck_next p (queue ps) r o.0 (omega arith))
  leaves (suc k) r (p ∷ ps) o h =
      ⊎_elim
      (λ s. more s (leaves k (r - (7 + length p.1)) ps o.1 (omega arith)))
      (λ s. none_leaves (suc k) r (p ∷ ps) o (stuck_next p (queue ps) r o.0 s))
      (split (7 + length p.1) r)
    where
      more : 7 + length p.1 ≤ r → Leaves (suc k) (r - (7 + length p.1)) ps → Leaves (suc (suc k)) r (p ∷ ps)
      more s l =
          record {
            now = p ∷ l.now;
            stay = l.stay;
            all = ap (λ m. p ∷ m) l.all;
            sent = goes (suc k) r p (queue ps) o.0 s ∙ ap (λ m. llep p ∷ m) l.sent;
            now_ok = (o.0, l.now_ok);
            stay_ok = l.stay_ok;
            within = omega (arith, part_cons p l.now, l.within);
          }

  pub not_overwritten : (ps : List Packet) → LowsOk ps → overwritten P (queue ps) ≡ false
  unfolding overwritten
  not_overwritten [] o = refl
  not_overwritten (p ∷ ps) o =
      rw (low_at_lem p (queue ps) o.0, ne_eqb (6 + length p.1) 0 (omega arith)) (go (eqb (length (llep p ++ queue ps)) 0))
    where
      go : (t : Bool) → not t && false ≡ false
      go true = refl
      go false = refl
