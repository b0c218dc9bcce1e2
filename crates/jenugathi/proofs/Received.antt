-- THE CONTRACT ALLOWS ONE RESULT: number, words, find and room of `c7_receiver_next`; the other calls' contracts are equations.
-- WHAT A CALL LEAVES IS ACCEPTED by the next: the words behind an opening, a call or a gap are those of the receiver that stands behind
-- it, but for the place that nothing looks at. Assumes nothing.
use Prim.Native.Nat.{ℕ, ◌≤◌}
use mathlib.Core.List.{List}
use mathlib.Core.Path.{◌≡◌, sym, ap, ◌∙◌}
use native.Mathlib.Omega.{arith}
use Rattle.std.specs.Prelude.{Option, None, Some}
use Rattle.receiver.specs.declared.About.{About}
use Rattle.receiver.specs.declared.Find.{Find}
use Rattle.receiver.specs.declared.Receiver.{Receiver}
use Rattle.receiver.specs.declared.Step.{Step}
use Rattle.receiver.specs.Call.{call_of, find_number, fresh_of, gap_of}
use Rattle.receiver.specs.Words.{Fit, of_words, words_of}
use Rattle.receiver.proofs.Pinned.{pinned, plainly, shown_of}
use Rattle.receiver.proofs.Worded.{back, same_words}
use Rattle.jenugathi.specs.Receiving.{NextAs, Tells, find_words, or_zero}

pub next_pinned : (o : Option Receiver) (w₀ tp m₀ : List ℕ) (n n' : ℕ) (w w' f f' m m' : List ℕ) → NextAs o w₀ tp m₀ n w f m → NextAs o w₀ tp m₀ n' w' f' m'
    → (n ≡ n') × (w ≡ w') × (f ≡ f') × (m ≡ m')
next_pinned None w₀ tp m₀ n n' w w' f f' m m' a b =
    (a.number ∙ sym b.number, a.state ∙ sym b.state, a.find ∙ sym b.find, a.room ∙ sym b.room)
next_pinned (Some r) w₀ tp m₀ n n' w w' f f' m m' a b =
    let p = pinned (call_of r tp m₀) tp a.step b.step m m' a.gives b.gives in
    let shown : shown_of a.step ≡ shown_of b.step = p.0 in
    let state : plainly a.step.receiver ≡ plainly b.step.receiver = ap (λ (q : Step). q.receiver) shown in
    let find : a.step.find ≡ b.step.find = ap (λ (q : Step). q.find) shown in
    let about : a.step.about ≡ b.step.about = ap (λ (q : Step). q.about) shown in (
      a.number ∙ ap (λ (x : Find). or_zero (find_number x)) find ∙ sym b.number,
      a.state ∙ same_words a.step.receiver b.step.receiver state ∙ sym b.state,
      a.find ∙ ap (λ (x : Find). find_words x a.step.about) find ∙ ap (λ (x : About). find_words b.step.find x) about ∙ sym b.find,
      p.1,
    )

-- behind a call
pub next_accepted : (r : Receiver) (tp m₀ : List ℕ) (n : ℕ) (w f m : List ℕ) (t : Tells r tp m₀ n w f m) → of_words w ≡ Some (plainly t.step.receiver)
next_accepted r tp m₀ n w f m t = ap of_words t.state ∙ back t.step.receiver t.fits

-- behind a gap and behind an opening: a fresh receiver within the limits
fresh_fits : (size stream limit count : ℕ) → 16 ≤ size → size ≤ 2051 → stream ≤ 15 → limit ≤ 131072 → Fit (fresh_of size stream limit count)
fresh_fits size stream limit count a b c d = record {
  able = record { size = a; walk = record { at = omega arith; phase = omega arith }; stage = omega arith };
  opens = record { size = b; stream = c; limit = d };
  bytes = record { phase = omega arith; kept = omega arith };
}

pub gap_accepted : (r : Receiver) → Fit r → of_words (words_of (gap_of r)) ≡ Some (gap_of r)
gap_accepted r h =
    back (gap_of r) (fresh_fits r.size r.stream r.limit r.count h.able.size h.opens.size h.opens.stream h.opens.limit)

pub opening_accepted : (size stream limit : ℕ) → 16 ≤ size → size ≤ 2051 → stream ≤ 15 → limit ≤ 131072
    → of_words (words_of (fresh_of size stream limit 0)) ≡ Some (fresh_of size stream limit 0)
opening_accepted size stream limit a b c d = back (fresh_of size stream limit 0) (fresh_fits size stream limit 0 a b c d)
