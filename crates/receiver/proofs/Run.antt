-- A run of bytes is so many steps.
use mathlib.Core.Path.{ap, refl, sym, ◌∙◌, ◌≡◌}
use mathlib.Core.List.{List, [], append_assoc, append-nil, ◌++◌, ◌∷◌}
use Prim.Native.Nat.{suc, zero, ℕ, ◌+◌}
use native.Mathlib.Omega.{arith}
use lib.ListN.{length, length-append, set}
use lib.Seq.{sets}
use Rattle.receiver.specs.Frame.{Code, Frame, Out, ending, lost, step, within}
use Rattle.receiver.specs.Join.{Held, free, grown, held, put}
use Rattle.receiver.specs.Pull.{dry, meet, pull}
use Rattle.receiver.proofs.Placing.{plain}

module _ (C : Code) (cap : ℕ) where
  abbrev pub grows : Held C → List C.K → Held C
  grows s [] = s
  grows s (d ∷ ds) = grows (grown C s d) ds

  abbrev pub puts : Held C → List C.K → List C.K → List C.K
  puts s [] m = m
  puts s (d ∷ ds) m = puts (grown C s d) ds (put C s d m)

  -- THE RUN LEMMA: the next bytes of an EP's data, in one jump
  pub run : (h : C.H) (k j n at : ℕ) (s : Held C) (m : List C.K) (ds bs : List C.B) → n ≡ k + length ds → j ≡ at + length ds
      → pull C cap (within C h n) at (meet C cap s m (ending C h n)) (ds ++ bs)
      ≡ pull C cap (within C h k) j (meet C cap (grows s (plain C ds)) (puts s (plain C ds) m) (ending C h k)) bs
  run h k j n at s m [] bs e g =
      let p : n ≡ k = omega arith in
      let q : j ≡ at = omega arith in
      rw (p, q)
  run h k j zero at s m (d ∷ ds) bs e g = absurd (omega arith)
  run h k j (suc n) at s m (d ∷ ds) bs e g = run h k j n (suc at) (grown C s (C.keep d)) (put C s (C.keep d) m) ds bs (omega arith) (omega arith)

  pub grows_free : (ds : List C.K) → grows free ds ≡ free
  grows_free [] = refl
  grows_free (d ∷ ds) = grows_free ds

  pub puts_free : (ds m : List C.K) → puts free ds m ≡ m
  puts_free [] m = refl
  puts_free (d ∷ ds) m = puts_free ds m

  pub grows_held : (c : C.T) (x ds : List C.K) → grows (held c x) ds ≡ held c (x ++ ds)
  grows_held c x [] = ap (held c) (sym (append-nil x))
  grows_held c x (d ∷ ds) = grows_held c (x ++ d ∷ []) ds ∙ ap (held c) (append_assoc x (d ∷ []) ds)

  pub puts_held : (c : C.T) (n : ℕ) (x ds m : List C.K) → n ≡ length x → puts (held c x) ds m ≡ sets m n ds
  puts_held c n x [] m e = refl
  puts_held c n x (d ∷ ds) m e =
      puts_held c (suc n) (x ++ d ∷ []) ds (set m (length x) d) (omega (arith, length-append x (d ∷ [])))
      ∙ ap (λ (k : ℕ). sets (set m k d) (suc n) ds) (sym e)

  -- out of step nothing comes to light
  pub lost_run : (bs : List C.B) (at j : ℕ) (s : Held C) (m : List C.K) → j ≡ at + length bs
      → pull C cap lost at (dry s m) bs ≡ pull C cap lost j (dry s m) []
  lost_run [] at j s m e = let q : j ≡ at = omega arith in rw q
  lost_run (b ∷ bs) at j s m e = lost_run bs (suc at) j s m (omega arith)

  pub one : (f : Frame C) (b : C.B) (bs : List C.B) (at : ℕ) (s : Held C) (m : List C.K) (o : Out C) → step C f b ≡ o
      → pull C cap f at (dry s m) (b ∷ bs) ≡ pull C cap o.0 (suc at) (meet C cap s m o.1) bs
  one f b bs at s m o e = ap (λ (o : Out C). pull C cap o.0 (suc at) (meet C cap s m o.1) bs) e
