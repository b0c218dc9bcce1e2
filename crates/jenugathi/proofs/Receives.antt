-- What a call of the receiver promises, through words. Assumes nothing.
use Prim.Native.Nat.{ℕ, ◌<◌}
use mathlib.Core.Bool.{Bool, true, false, cond}
use mathlib.Core.List.{List}
use mathlib.Core.Path.{◌≡◌, refl, sym, subst, ap, ◌∙◌}
use lib.Dec.{ltb}
use borrow.Author.Tests.{lt-ltb}
use Rattle.std.specs.Prelude.{Option, None, Some}
use Rattle.receiver.specs.declared.About.{About}
use Rattle.receiver.specs.declared.Find.{Find}
use Rattle.receiver.specs.declared.Find.TheVariants as F
use Rattle.receiver.specs.declared.Receiver.{Receiver}
use Rattle.receiver.specs.declared.Step.{Step}
use Rattle.receiver.specs.declared.swift.Swift.{Swift}
use Rattle.receiver.specs.Call.{Answered, Gave, Gives, OpenedAs, answered_of, call_of, find_number, fresh_of, gap_of, opening_of, outside}
use Rattle.receiver.specs.Place.{own_of, start_of}
use Rattle.receiver.specs.State.{Able}
use Rattle.receiver.specs.Words.{Bytes, Fit, FitIf, fitb, of_words, receiver_in, words_of}
use Rattle.receiver.specs.InSeries.{SeriesAs}
use Rattle.receiver.specs.InSwift.{Done}
use Rattle.receiver.proofs.Worded.{accepted, opens_still, refused}
use Rattle.jenugathi.specs.Receiving.{NextAs, find_words, gapped_to, opened_to, or_zero}

-- ---- an opening

stream_outside : (size stream limit : ℕ) → 15 < stream → opening_of size stream limit ≡ outside
stream_outside size stream limit h = go (ltb size 16) (ltb 2051 size) (ltb 15 stream) (lt-ltb 15 stream h)
  where
    inside : Answered
    inside = cond (ltb 131072 limit) outside (answered_of (Some (fresh_of size stream limit 0)))

    go : (a b c : Bool) → c ≡ true → cond a outside (cond b outside (cond c outside inside)) ≡ outside
    go true b c e = refl
    go false true c e = refl
    go false false true e = refl
    go false false false e = ap (λ (t : Bool). cond t inside outside) (sym e)

pub beyond : (w : List ℕ) (size stream limit : ℕ) → 15 < stream → record { number = 1; state = w } ≡ opened_to (opening_of size stream limit) w
beyond w size stream limit h = ap (λ (a : Answered). opened_to a w) (sym (stream_outside size stream limit h))

module _ (w : List ℕ) (size stream limit : ℕ) (o : Option Receiver) (a : OpenedAs size stream limit o) where
  by : (x : Option Receiver) → o ≡ x → opened_to (answered_of x) w ≡ opened_to (opening_of size stream limit) w
  by x e = ap (λ (y : Option Receiver). opened_to (answered_of y) w) (sym e) ∙ ap (λ (y : Answered). opened_to y w) a.same

  pub not_opened : o ≡ None → record { number = 1; state = w } ≡ opened_to (opening_of size stream limit) w
  not_opened e = by None e

  pub opens : (r : Receiver) (v : List ℕ) → o ≡ Some r → v ≡ words_of r → record { number = 0; state = v } ≡ opened_to (opening_of size stream limit) w
  opens r v e d = ap (λ (x : List ℕ). record { number = 0; state = x }) d ∙ by (Some r) e

-- ---- o: what the words are
pub fit_of : (o : Option Receiver) (r : Receiver) → o ≡ Some r → FitIf o → Fit r
fit_of o r e h = subst FitIf e h

pub able_of : (o : Option Receiver) (r : Receiver) → o ≡ Some r → FitIf o → Able r
able_of o r e h = (fit_of o r e h).able

module _ (w : List ℕ) (o : Option Receiver) (a : o ≡ of_words w) where
  pub not_gapped : o ≡ None → record { number = 1; state = w } ≡ gapped_to (of_words w) w
  not_gapped e = ap (λ (x : Option Receiver). gapped_to x w) (sym e ∙ a)

  pub gapped : (r s : Receiver) (v : List ℕ) → o ≡ Some r → s ≡ gap_of r → v ≡ words_of s → record { number = 0; state = v } ≡ gapped_to (of_words w) w
  gapped r s v e d f = ap (λ (x : List ℕ). record { number = 0; state = x }) (f ∙ ap words_of d) ∙ ap (λ (x : Option Receiver). gapped_to x w) (sym e ∙ a)

  module _ (tp m₀ : List ℕ) where
    by_words : (x : Option Receiver) (n : ℕ) (v f m : List ℕ) → o ≡ x → NextAs x w tp m₀ n v f m → NextAs (of_words w) w tp m₀ n v f m
    by_words x n v f m e k = subst (λ (y : Option Receiver). NextAs y w tp m₀ n v f m) (sym e ∙ a) k

    -- none's
    pub stays : (f : List ℕ) → o ≡ None → f ≡ find_words F.Refused (record { repaired = 0; at = start_of (own_of 0) }) → NextAs (of_words w) w tp m₀ 1 w f m₀
    stays f e d = by_words None 1 w f m₀ e (record { number = refl; state = refl; find = d; room = refl })

    -- a receiver's
    pub tells : (r : Receiver) (q : Step) (n : ℕ) (v f m : List ℕ) → o ≡ Some r → FitIf o → Gives (call_of r tp m₀) q tp m
        → (v ≡ words_of q.receiver) × Bytes q.receiver → f ≡ find_words q.find q.about → n ≡ or_zero (find_number q.find)
        → NextAs (of_words w) w tp m₀ n v f m
    tells r q n v f m e h g b d k =
        by_words (Some r) n v f m e
        (record {
          step = q;
          gives = g;
          fits = record { able = g.able; opens = opens_still r q tp m₀ m g (fit_of o r e h).opens; bytes = b.1 };
          number = k;
          state = b.0;
          find = d;
        })

-- ---- the three ways of a call: words of none, a call on the words, a call by value
module _ (w tp m₀ : List ℕ) where
  pub unfit : (t : Bool) (f : List ℕ) → t ≡ fitb w → t ≡ false → f ≡ find_words F.Refused (record { repaired = 0; at = start_of (own_of 0) }) → NextAs (of_words w) w tp m₀ 1 w f m₀
  unfit t f a b d = stays w None (refused w t a b).0 tp m₀ f refl d

  module _ (fit : fitb w ≡ true) where
    pub swiftly : (x : Option Swift) (q : Swift) (v m f : List ℕ) (n : ℕ) → SeriesAs x (receiver_in w) tp m₀ v m → x ≡ Some q → f ≡ find_words q.find q.about → n ≡ or_zero (find_number q.find)
        → NextAs (of_words w) w tp m₀ n v f m
    swiftly x q v m f n s e d k =
        let y : Done (receiver_in w) tp m₀ q.find q.about v m = subst (λ (z : Option Swift). SeriesAs z (receiver_in w) tp m₀ v m) e s in
        let z = accepted w true (receiver_in w) (sym fit) refl refl in
        tells w (Some (receiver_in w)) z.0 tp m₀ (receiver_in w) y.step n v f m refl z.1 y.gives (y.state, y.bytes)
        (d ∙ ap (λ (h : Find). find_words h q.about) y.find ∙ ap (λ (h : About). find_words y.step.find h) y.about) (k ∙ ap (λ (h : Find). or_zero (find_number h)) y.find)

    -- what is left to a call by value
    left_over : (x : Option Swift) (u m₁ : List ℕ) → SeriesAs x (receiver_in w) tp m₀ u m₁ → x ≡ None → SeriesAs None (receiver_in w) tp m₀ u m₁
    left_over x u m₁ s e = subst (λ (z : Option Swift). SeriesAs z (receiver_in w) tp m₀ u m₁) e s

    pub by_value : (x : Option Swift) (u m₁ v m f : List ℕ) (n : ℕ) (r : Receiver) (q : Step) → SeriesAs x (receiver_in w) tp m₀ u m₁ → x ≡ None → r ≡ receiver_in u → Gives (call_of r tp m₁) q tp m
        → (v ≡ words_of q.receiver) × Bytes q.receiver → f ≡ find_words q.find q.about → n ≡ or_zero (find_number q.find) → NextAs (of_words w) w tp m₀ n v f m
    by_value x u m₁ v m f n r q s e c g h d k =
        let z = accepted w true (receiver_in w) (sym fit) refl refl in
        let i : call_of r tp m₁ ≡ call_of (receiver_in w) tp m₀ = ap (λ (y : Receiver). call_of y tp m₁) c ∙ (left_over x u m₁ s e).2 in
        tells w (Some (receiver_in w)) z.0 tp m₀ (receiver_in w) q n v f m refl z.1 (subst (λ (y : Gave). Gives y q tp m) i g) h d k

    pub able_still : (x : Option Swift) (u m₁ : List ℕ) (r : Receiver) → SeriesAs x (receiver_in w) tp m₀ u m₁ → x ≡ None → r ≡ receiver_in u → Able r
    able_still x u m₁ r s e c = subst Able (sym c) (accepted u true (receiver_in u) (sym (left_over x u m₁ s e).0) refl refl).1.able
