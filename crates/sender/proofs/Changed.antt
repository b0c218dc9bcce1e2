-- WHAT A CALL CHANGES OF A SENDER'S WORDS: an offer its ring's length, a draw all behind the setting's. Assumes nothing.
use Prim.Native.Nat.{ℕ, ◌+◌}
use mathlib.Core.Bool.{Bool, true, false, cond, not}
use mathlib.Core.List.{List}
use mathlib.Core.Path.{◌≡◌, refl, subst⁻¹, ap}
use lib.Dec.{eqb}
use lib.ListN.{length, set}
use Rattle.queue.specs.Ring.{held, longer}
use Rattle.sender.specs.declared.Sender.{Sender}
use Rattle.sender.specs.Answers.{done, Left, refused, lent}
use Rattle.sender.specs.Offering.{Want, no, put, want_ordinary, want_low, put_ordinary, put_low, ordinary_offered, low_offered}
use Rattle.sender.specs.Drawing.{Draw, overwritten, took, draw_by, drew}
use Rattle.sender.specs.Words.{words_of, drawn_in}

done_is : (s t : Sender) → done t ≡ done s → t ≡ s
done_is s t e = cc

-- ---- the two offers

module _ (s t : Sender) (low ordinary : List ℕ) (c : ℕ) (d b : List ℕ) where
  pub ordinary_changes : record { given = done t; buffer = b } ≡ ordinary_offered s low ordinary c d → set (words_of s) 8 t.ordinary.len ≡ words_of t
  unfolding ordinary_offered words_of longer
  ordinary_changes e = go (want_ordinary s low ordinary c d) (ap (λ (x : Left). x.given) e)
    where
      go : (x : Want) → done t ≡ (put_ordinary s ordinary x).given → set (words_of s) 8 t.ordinary.len ≡ words_of t
      go (no k) f = cc
      go (put y) f = subst⁻¹ (λ (x : Sender). set (words_of s) 8 x.ordinary.len ≡ words_of x) (done_is _ t f) refl

  pub low_changes : record { given = done t; buffer = b } ≡ low_offered s low ordinary c d → set (words_of s) 6 t.low.len ≡ words_of t
  unfolding low_offered words_of longer
  low_changes e = go (want_low s low ordinary c d) (ap (λ (x : Left). x.given) e)
    where
      go : (x : Want) → done t ≡ (put_low s low x).given → set (words_of s) 6 t.low.len ≡ words_of t
      go (no k) f = cc
      go (put y) f = subst⁻¹ (λ (x : Sender). set (words_of s) 6 x.low.len ≡ words_of x) (done_is _ t f) refl

-- ---- the draw

pub draw_changes : (s t : Sender) (low ordinary tp b : List ℕ) → record { given = done t; buffer = b } ≡ drew s low ordinary tp → drawn_in (words_of s) t ≡ words_of t
unfolding drew words_of
draw_changes s t low ordinary tp b e =
    go (not (lent s.setting (length low) (length ordinary))) (overwritten s.setting.payload (held low s.low)) (not (eqb (length tp) (s.setting.payload + 4))) (draw_by s low ordinary) (ap (λ (x : Left). x.given) e)
  where
    go : (t₁ t₂ t₃ : Bool) (x : Draw) → done t ≡ (cond t₁ (refused 1 tp) (cond t₂ (refused 1 tp) (cond t₃ (refused 5 tp) (took s x)))).given → drawn_in (words_of s) t ≡ words_of t
    go true t₂ t₃ x f = cc
    go false true t₃ x f = cc
    go false false true x f = cc
    go false false false x f = subst⁻¹ (λ (u : Sender). drawn_in (words_of s) u ≡ words_of u) (done_is _ t f) refl
