-- Laws of the offers: each refusal, and what an accepted offer leaves. Assumes nothing.
use Rattle.std.specs.Prelude.{Ok, Err}
use mathlib.Core.Path.{◌≡◌, refl, sym, ap}
use mathlib.Core.Bool.{Bool, true, false, cond, not}
use mathlib.Core.Logic.{⊎_elim}
use mathlib.Core.List.{List}
use Prim.Native.Nat.{ℕ, ◌+◌, ◌-◌, ◌≤◌}
use native.Mathlib.Omega.{arith}
use lib.Dec.{eqb, ltb}
use lib.ListN.{length}
use borrow.Author.Tests.{le-ltb, lt-ltb, ltb-false, eqb-true}
use Rattle.queue.specs.declared.Ring.{Ring}
use Rattle.queue.specs.Ring as R
use Rattle.wire.specs.Wire.{ep}
use Rattle.wire.proofs.Laws.{ep_length}
use Rattle.sender.specs.declared.Setting.{Setting}
use Rattle.sender.specs.declared.Sender.{Sender}
use Rattle.sender.specs.declared.Refusal.{Refusal}
use Rattle.sender.specs.declared.Refusal.TheVariants.{Content, Long, Full}
use Rattle.sender.specs.Answers.{number, done, refusal, refused, lent}
use Rattle.sender.specs.Opening.{Sound}
use Rattle.sender.specs.Offering.{no, put, sp_bytes, known, want_ordinary, want_low, put_ordinary, put_low, ordinary_offered, low_offered}
use Rattle.sender.specs.Steps.{checked, first_of, judged_of, Put}
use Rattle.sender.proofs.Bools.{and_left, and_right, split}
use Rattle.sender.proofs.Passing.{number_in, is_no}
use Rattle.sender.proofs.Pieces.{one_piece}

pub lent_low : (g : Setting) (l o : ℕ) → lent g l o ≡ true → l ≡ g.lowspace
unfolding lent
lent_low g l o e = eqb-true l g.lowspace (and_left (eqb l g.lowspace) (eqb o g.space) e)

pub lent_ordinary : (g : Setting) (l o : ℕ) → lent g l o ≡ true → o ≡ g.space
unfolding lent
lent_ordinary g l o e = eqb-true o g.space (and_right (eqb l g.lowspace) (eqb o g.space) e)

-- ---- the three checks

told : (t₁ t₂ t₃ : Bool) (e : List ℕ) (k : Refusal) → first_of (checked (not t₁) Content) (first_of (checked t₂ Long) (checked t₃ Full)) ≡ Err k
    → no (number k) ≡ cond (not t₁) (no 2) (cond t₂ (no 3) (cond t₃ (no 4) (put e)))
told false t₂ t₃ e k j = ap no (sym (ap number_in j))
told true true t₃ e k j = ap no (sym (ap number_in j))
told true false true e k j = ap no (sym (ap number_in j))
told true false false e k j = absurd (omega (arith, ap is_no j))

fine : (t₁ t₂ t₃ : Bool) → first_of (checked (not t₁) Content) (first_of (checked t₂ Long) (checked t₃ Full)) ≡ Ok tt → (t₁ ≡ true) × ((t₂ ≡ false) × (t₃ ≡ false))
fine false t₂ t₃ j = absurd (omega (arith, ap is_no j))
fine true true t₃ j = absurd (omega (arith, ap is_no j))
fine true false true j = absurd (omega (arith, ap is_no j))
fine true false false j = (refl, (refl, refl))

pub fine_is : (c : ℕ) (d : List ℕ) (most F room : ℕ) → judged_of c d most F room ≡ Ok tt → (known c ≡ true) × ((length d ≤ most) × (length (sp_bytes F c d) ≤ room))
unfolding judged_of
fine_is c d most F room j =
    let f = fine (known c) (ltb most (length d)) (ltb room (length (sp_bytes F c d))) j in
    (f.0, (ltb-false most (length d) f.1.0, ltb-false room (length (sp_bytes F c d)) f.1.1))

abbrev pub with_ordinary : Sender → Ring → Sender
with_ordinary s q = record { setting = s.setting; low = s.low; ordinary = q; owed = s.owed; rest = s.rest }

abbrev pub with_low : Sender → Ring → Sender
with_low s q = record { setting = s.setting; low = q; ordinary = s.ordinary; owed = s.owed; rest = s.rest }

module _ (s : Sender) (low ordinary : List ℕ) (c : ℕ) (d : List ℕ) where
  abbrev g : Setting
  g = s.setting

  -- ---- ordinary

  pub ordinary_1 : lent g (length low) (length ordinary) ≡ false → refused 1 ordinary ≡ ordinary_offered s low ordinary c d
  unfolding ordinary_offered want_ordinary
  ordinary_1 e = rw e

  module _ (e : lent g (length low) (length ordinary) ≡ true) where
    pub ordinary_no : (k : Refusal) → judged_of c d 131072 g.piece (g.space - s.ordinary.len) ≡ Err k
        → record { given = refusal (number k); buffer = ordinary } ≡ ordinary_offered s low ordinary c d
    unfolding judged_of ordinary_offered want_ordinary
    ordinary_no k j =
        let t = told (known c) (ltb 131072 (length d)) (ltb (g.space - s.ordinary.len) (length (sp_bytes g.piece c d))) (sp_bytes g.piece c d) k j in
        rw e (ap (put_ordinary s ordinary) t)

    pub ordinary_put : (b' : List ℕ) (t : Ring) → known c ≡ true → length d ≤ 131072 → length (sp_bytes g.piece c d) ≤ g.space - s.ordinary.len
        → record { ring = t; bytes = b' } ≡ Put ordinary s.ordinary (sp_bytes g.piece c d)
        → record { given = done (with_ordinary s t); buffer = b' } ≡ ordinary_offered s low ordinary c d
    unfolding ordinary_offered want_ordinary
    ordinary_put b' t k l m u =
        rw (e, k, le-ltb 131072 (length d) l, le-ltb (g.space - s.ordinary.len) (length (sp_bytes g.piece c d)) m)
        (ap (λ (x : R.Left). record { given = done (with_ordinary s x.ring); buffer = x.bytes }) u)

  pub ordinary_sound : (b' : List ℕ) (t : Ring) → Sound s → length (sp_bytes g.piece c d) ≤ g.space - s.ordinary.len
      → record { ring = t; bytes = b' } ≡ Put ordinary s.ordinary (sp_bytes g.piece c d)
      → Sound (with_ordinary s t)
  unfolding R.longer
  ordinary_sound b' t w m u =
      let wl = w.len in
      let wr = w.rest in
      let rh : t.head ≡ s.ordinary.head = ap (λ (x : R.Left). x.ring.head) u in
      let rl : t.len ≡ s.ordinary.len + length (sp_bytes g.piece c d) = ap (λ (x : R.Left). x.ring.len) u in
      record {
        payload_least = w.payload_least;
        payload_most = w.payload_most;
        stream = w.stream;
        piece_least = w.piece_least;
        piece_most = w.piece_most;
        lowspace = w.lowspace;
        space = w.space;
        head_of_low = w.head_of_low;
        low_len = w.low_len;
        head = rw rh w.head;
        len = omega arith;
        owed = w.owed;
        rest = omega arith;
      }

  -- ---- low-latency

  pub low_1 : lent g (length low) (length ordinary) ≡ false → refused 1 low ≡ low_offered s low ordinary c d
  unfolding low_offered want_low
  low_1 e = rw e

  module _ (e : lent g (length low) (length ordinary) ≡ true) where
    -- by the tests of the definition
    low_told : (t₂ t₃ : Bool) (k : Refusal) → ltb g.payload (7 + length d) ≡ t₂ → cond t₂ (no 3) (cond (ltb (g.lowspace - s.low.len) (length (ep c 0 d))) (no 4) (put (ep c 0 d))) ≡ cond t₂ (no 3) (cond t₃ (no 4) (put (ep c 0 d)))
        → first_of (checked (not (known c)) Content) (first_of (checked t₂ Long) (checked t₃ Full)) ≡ Err k
        → record { given = refusal (number k); buffer = low } ≡ low_offered s low ordinary c d
    unfolding low_offered want_low
    low_told t₂ t₃ k f₂ f₃ j =
        let t = told (known c) t₂ t₃ (ep c 0 d) k j in
        rw (e, f₂, f₃) (ap (put_low s low) t)

    pub low_no : (k : Refusal) → 7 ≤ g.payload → g.payload ≤ 2047 → judged_of c d (g.payload - 7) 65535 (g.lowspace - s.low.len) ≡ Err k
        → record { given = refusal (number k); buffer = low } ≡ low_offered s low ordinary c d
    unfolding judged_of
    low_no k p q j =
        ⊎_elim
        (λ h. let o = one_piece 65535 c d (omega arith) in
        low_told false (ltb (g.lowspace - s.low.len) (length (ep c 0 d))) k (le-ltb g.payload (7 + length d) (omega arith)) refl (rw (le-ltb (g.payload - 7) (length d) h, o) at j))
        (λ h. low_told true (ltb (g.lowspace - s.low.len) (length (sp_bytes 65535 c d))) k (lt-ltb g.payload (7 + length d) (omega arith)) refl (rw (lt-ltb (g.payload - 7) (length d) h) at j))
        (split (length d) (g.payload - 7))

    pub low_put : (b' : List ℕ) (t : Ring) → known c ≡ true → 7 + length d ≤ g.payload → 6 + length d ≤ g.lowspace - s.low.len
        → record { ring = t; bytes = b' } ≡ Put low s.low (ep c 0 d) → record { given = done (with_low s t); buffer = b' } ≡ low_offered s low ordinary c d
    unfolding low_offered want_low
    low_put b' t k l m u =
        let n : length (ep c 0 d) ≤ g.lowspace - s.low.len = omega (arith, ep_length c 0 d) in
        rw (e, k, le-ltb g.payload (7 + length d) l, le-ltb (g.lowspace - s.low.len) (length (ep c 0 d)) n)
        (ap (λ (x : R.Left). record { given = done (with_low s x.ring); buffer = x.bytes }) u)

  pub low_sound : (b' : List ℕ) (t : Ring) → Sound s → 6 + length d ≤ g.lowspace - s.low.len → record { ring = t; bytes = b' } ≡ Put low s.low (ep c 0 d)
      → Sound (with_low s t)
  unfolding R.longer
  low_sound b' t w m u =
      let wl = w.low_len in
      let el = ep_length c 0 d in
      let rh : t.head ≡ s.low.head = ap (λ (x : R.Left). x.ring.head) u in
      let rl : t.len ≡ s.low.len + length (ep c 0 d) = ap (λ (x : R.Left). x.ring.len) u in
      record {
        payload_least = w.payload_least;
        payload_most = w.payload_most;
        stream = w.stream;
        piece_least = w.piece_least;
        piece_most = w.piece_most;
        lowspace = w.lowspace;
        space = w.space;
        head_of_low = rw rh w.head_of_low;
        low_len = omega arith;
        head = w.head;
        len = w.len;
        owed = w.owed;
        rest = w.rest;
      }
