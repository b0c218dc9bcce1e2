-- Reading bytes, from where a TP's ordinary bytes are set about: wherever a call stops, a receiver by value stands for it.
-- Assumes nothing.
use Prim.Native.Nat.{ℕ, zero, suc, ◌+◌, ◌-◌, ◌/◌, ◌%◌, ◌≤◌}
use mathlib.Core.Path.{◌≡◌, refl, ap, subst⁻¹}
use mathlib.Core.Bool.{Bool, true, false, cond}
use mathlib.Core.List.{List, [], ◌∷◌}
use native.Mathlib.Omega.{arith}
use lib.Dec.{leb, ltb, eqb}
use lib.ListN.{length, take, drop, length-take}
use borrow.Author.Tests.{leb-false}
use Rattle.std.specs.Prelude.{Option, None, Some}
use Rattle.digits.specs.Digits.{digits}
use Rattle.digits.proofs.Laws.{length_digits}
use Rattle.receiver.specs.declared.Place.{Place}
use Rattle.receiver.specs.declared.walk.Kept.{Kept}
use Rattle.receiver.specs.declared.walk.Phase.{Phase}
use Rattle.receiver.specs.declared.walk.Phase.TheVariants.{Lost, Head, Judged, Body}
use Rattle.receiver.specs.Frame.{Frame, lost, lose, step}
use Rattle.receiver.specs.Forecast.{Start, foretold, upon, resume, agree, judge, set_out, start, dropped, phase, outset}
use Rattle.receiver.specs.Forecast as P
use Rattle.receiver.specs.Join.{Finding, Held}
use Rattle.receiver.specs.Low.{wire, ep_at}
use Rattle.receiver.specs.Pull.{Met, dry, found, Pulled, upto, meet, reads, pull}
use Rattle.receiver.specs.State.{headed, frame_of, todo_of, held_of, Fine, Roomy, Settled}
use Rattle.downlink.specs.Damage.{Bytes}
use Rattle.downlink.proofs.Strip.{bytes}
use Rattle.downlink.proofs.Rests.{FrameOk, need, HeldOk, FindOk, MetOk, Rests, less_ok, ending_ok, entered_ok, snoc_bytes, lose_ok, step_ok}

-- g is any place
module _ (cap : ℕ) (g : Place) where
  -- what a call among ordinary bytes comes to, in a TP of so many bytes
  abbrev pub PulledOk : ℕ → Option (Finding wire) → Pulled wire → Type 0
  PulledOk len None p = (p.todo ≡ []) × FrameOk p.frame × HeldOk cap g (need p.frame) p.held p.room
  PulledOk len (Some x) p = FindOk cap g x p.room × Rests cap g p.frame p.todo p.held p.room × (p.at ≤ len)

  upto_ok : (len : ℕ) (x : Met wire) (f : Frame wire) (at : ℕ) (on : Held wire → List ℕ → Pulled wire) → MetOk cap g f x → at ≤ len
      → ((s : Held wire) (m : List ℕ) → FrameOk f → HeldOk cap g (need f) s m → length m ≡ cap → PulledOk len (on s m).find (on s m))
      → PulledOk len (upto wire x f at on).find (upto wire x f at on)
  upto_ok len (dry s m) f at on ok p then = then s m ok.0 ok.1 ok.2
  upto_ok len (found x s m es) f at on ok p then = (ok.0, ok.1, p)

  reads_ok : (len : ℕ) (bs : List (Place × ℕ)) (f : Frame wire) (at : ℕ) (s : Held wire) (m : List ℕ) → Bytes (bytes bs) → at + length bs ≤ len
      → FrameOk f → HeldOk cap g (need f) s m → length m ≡ cap → PulledOk len (reads wire cap bs f at s m).find (reads wire cap bs f at s m)
  reads_ok len [] f at s m small p ok h l = (refl, ok, h)
  reads_ok len (b ∷ bs) f at s m small p ok h l =
      upto_ok len (meet wire cap s m (step wire f b).1) (step wire f b).0 (suc at) (λ s' m'. reads wire cap bs (step wire f b).0 (suc at) s' m')
      (step_ok cap g f b s m (small 0) ok h l) (omega arith)
      (λ s' m' ok' h' l'. reads_ok len bs (step wire f b).0 (suc at) s' m' (λ i. small (suc i)) (omega arith) ok' h' l')

  pub pull_ok : (len : ℕ) (bs : List (Place × ℕ)) (f : Frame wire) (at : ℕ) (x : Met wire) → MetOk cap g f x → Bytes (bytes bs) → at + length bs ≤ len
      → PulledOk len (pull wire cap f at x bs).find (pull wire cap f at x bs)
  pull_ok len bs f at x ok small p =
      upto_ok len x f at (λ s m. reads wire cap bs f at s m) ok (omega arith) (λ s m ok' h l. reads_ok len bs f at s m small p ok' h l)

  -- ---- where it begins

  digits_bytes : (k n : ℕ) → Bytes (digits k n)
  digits_bytes zero n i = omega arith
  digits_bytes (suc k) n i = snoc_bytes cap g (digits k (n / 256)) (n % 256) (digits_bytes k (n / 256)) (omega arith) i

  headed_ok : (e : Place) (ds : List ℕ) → length ds ≤ 5 → Bytes ds → FrameOk (headed e ds) × (need (headed e ds) ≡ 0)
  headed_ok e [] p b = (tt, refl)
  headed_ok e (d ∷ ds) p b = ((omega arith, omega arith, b), refl)

  pub kept_ok : (k : Option Kept) (n : ℕ) (m : List ℕ) → length m ≡ cap → Roomy cap k n → HeldOk cap g n (held_of k m) m
  kept_ok None n m l p = tt
  kept_ok (Some k) n m l p =
      let e : length (take k.len m) ≡ k.len = omega (arith, length-take k.len m) in
      (omega arith, ap (λ (i : ℕ). take i m) e)

  head_ok : (e : Place) (n w : ℕ) (k : Option Kept) (m : List ℕ) → length m ≡ cap → n ≤ 5 → Roomy cap k 0
      → FrameOk (headed e (digits n w)) × HeldOk cap g (need (headed e (digits n w))) (held_of k m) m
  head_ok e n w k m l p q =
      let f = headed_ok e (digits n w) (omega (arith, length_digits n w)) (digits_bytes n w) in
      (f.0, subst⁻¹ (λ (i : ℕ). HeldOk cap g i (held_of k m) m) f.1 (kept_ok k 0 m l q))

  -- between calls of one TP's ordinary bytes
  pub phase_met : (e : Place) (p : Phase) (k : Option Kept) (m : List ℕ) → length m ≡ cap → Fine cap p k
      → MetOk cap g (frame_of e p) (meet wire cap (held_of k m) m (todo_of e p))
  phase_met e Lost k m l q = (tt, kept_ok k 0 m l q, l)
  phase_met e (Head n w) k m l q = let h = head_ok e n w k m l q.0 q.2 in (h.0, h.1, l)
  phase_met e (Judged h) k m l q = entered_ok cap g (ep_at e h) (held_of k m) m (kept_ok k 0 m l q) l
  phase_met e (Body h n) k m l q = ending_ok cap g (ep_at e h) n (held_of k m) m (kept_ok k n m l q) l

  -- before a TP's ordinary bytes
  pub phase_ok : (e : Place) (p : Phase) (k : Option Kept) (m : List ℕ) → length m ≡ cap → Settled p → Fine cap p k
      → FrameOk (frame_of e p) × HeldOk cap g (need (frame_of e p)) (held_of k m) m
  phase_ok e Lost k m l s q = (tt, kept_ok k 0 m l q)
  phase_ok e (Head n w) k m l s q = head_ok e n w k m l q.0 q.2
  phase_ok e (Judged h) k m l s q = absurd (omega arith)
  phase_ok e (Body h zero) k m l s q = absurd (omega arith)
  phase_ok e (Body h (suc j)) k m l s q = (tt, kept_ok k (suc j) m l q)

  -- ---- setting about a TP's ordinary bytes

  module _ (s : Held wire) (m : List ℕ) (l : length m ≡ cap) where
    abbrev pub StartOk : Start wire → List (Place × ℕ) → Type 0
    StartOk t bs = MetOk cap g t.frame (meet wire cap s m t.told) × (t.past ≤ length bs)

    upon_ok : (bs : List (Place × ℕ)) → FrameOk (upon wire bs) × (need (upon wire bs) ≡ 0)
    upon_ok [] = (tt, refl)
    upon_ok (b ∷ bs) = (tt, refl)

    quietly : (n : ℕ) (bs : List (Place × ℕ)) → n ≤ length bs → HeldOk cap g 0 s m → StartOk (resume wire [] n bs) bs
    quietly n bs p h = let u = upon_ok (drop n bs) in ((u.0, subst⁻¹ (λ (i : ℕ). HeldOk cap g i s m) u.1 h, l), p)

    losing : (k : ℕ) (p : Place) (n : ℕ) (bs : List (Place × ℕ)) → n ≤ length bs → StartOk (resume wire (lose k p ∷ []) n bs) bs
    losing k p n bs q = (lose_ok cap g (upon wire (drop n bs)) k p s m (upon_ok (drop n bs)).0 l, q)

    pub dropping : (k : ℕ) (p : Place) (bs : List (Place × ℕ)) → StartOk (dropped wire k p bs) bs
    dropping k p bs = (lose_ok cap g lost k p s m tt l, omega arith)

    -- e is the TP's place 0
    module _ (e : Place) (f : Frame wire) (ok : FrameOk f) (h : HeldOk cap g (need f) s m) where
      judge_ok : (o : Option ℕ) (n : ℕ) (bs : List (Place × ℕ)) → n ≤ length bs → StartOk (judge wire o e f n bs) bs
      judge_ok None n bs p = losing 12 (P.since wire e f) n bs p
      judge_ok (Some k) n bs p = go (eqb k n)
        where
          go : (b : Bool) → StartOk (agree wire b e f n bs) bs
          go true = ((ok, h, l), omega arith)
          go false = losing 13 e n bs p

      set_out_ok : (p : P.Phase) (n : ℕ) (bs : List (Place × ℕ)) → n ≤ length bs → StartOk (set_out wire p e f n bs) bs
      set_out_ok P.off n bs q = quietly n bs q (less_ok cap g (need f) 0 s m (omega arith) h)
      set_out_ok P.between n bs q = judge_ok (foretold wire f bs) n bs q
      set_out_ok P.inside n bs q = judge_ok (foretold wire f bs) n bs q

      pub outset_ok : (offset gone : ℕ) (bs : List (Place × ℕ)) → StartOk (outset wire e f offset gone bs) bs
      unfolding outset
      outset_ok offset gone bs = go (eqb offset 2047) (leb (gone + length bs) offset) (ltb offset gone) refl
        where
          go : (a b c : Bool) → leb (gone + length bs) offset ≡ b
              → StartOk (cond a (start wire e f (length bs) bs) (cond b (dropped wire 10 e bs) (cond c (dropped wire 21 e bs) (start wire e f (offset - gone) bs)))) bs
          go true b c t = set_out_ok (phase wire f) (length bs) bs (omega arith)
          go false true c t = dropping 10 e bs
          go false false true t = dropping 21 e bs
          go false false false t = set_out_ok (phase wire f) (offset - gone) bs (omega (arith, leb-false (gone + length bs) offset t))
