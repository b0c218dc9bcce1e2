-- What a call of the sender promises, through words: one law for the two offers and the draw. Assumes nothing.
use Prim.Native.Nat.{ℕ}
use mathlib.Core.Bool.{true}
use mathlib.Core.List.{List}
use native.Mathlib.Omega.{arith}
use mathlib.Core.Path.{◌≡◌, refl, sym, ap, ◌∙◌}
use Rattle.std.specs.Prelude.{Result, Ok, Err, ⊤}
use Rattle.sender.specs.declared.Refusal.{Refusal}
use Rattle.sender.specs.declared.Refusal.TheVariants.{Limits, Content, Long, Full, Buffer}
use Rattle.sender.specs.declared.Sender.{Sender}
use Rattle.sender.specs.Answers.{number, Given, done, refusal, given_by, Left}
use Rattle.sender.specs.Opening.{Sound}
use Rattle.sender.specs.Words.{words_of, sender_in, sound, of_words}
use Rattle.sender.proofs.Worded.{if_sound}
use Rattle.jenugathi.specs.Sending.{number_of, Told, told, sent, called, in_words, Lasting}

-- a refusal's number leaves the words; a sender's words are told with 0
pub tells_refusal : (w : List ℕ) (a : Result Sender Refusal) (k : Refusal) (n : ℕ) → a ≡ Err k → n ≡ number k
    → record { number = n; state = w } ≡ told w (given_by a)
tells_refusal w a k n e d = ap (λ (m : ℕ). record { number = m; state = w }) d ∙ ap (λ (x : Result Sender Refusal). told w (given_by x)) (sym e)

pub tells_sender : (w v : List ℕ) (a : Result Sender Refusal) (s : Sender) → a ≡ Ok s → v ≡ words_of s
    → record { number = 0; state = v } ≡ told w (given_by a)
tells_sender w v a s e d = ap (λ (x : List ℕ). record { number = 0; state = x }) d ∙ ap (λ (x : Result Sender Refusal). told w (given_by x)) (sym e)

-- no refusal's number is 0, and a sound sender's words last
not_0 : (k : Refusal) → number k ≡ 0 → ⊥
not_0 Limits e = omega arith
not_0 Content e = omega arith
not_0 Long e = omega arith
not_0 Full e = omega arith
not_0 Buffer e = omega arith

pub lasts_refused : (w : List ℕ) (k : Refusal) (n : ℕ) → n ≡ number k → Lasting n w
lasts_refused w k n d e = absurd (not_0 k (sym d ∙ e))

lasts_sender : (s : Sender) → Sound s → sound (sender_in (words_of s)) ≡ true
unfolding sender_in words_of
lasts_sender s h = if_sound s h

pub lasts : (v : List ℕ) (s : Sender) → Sound s → v ≡ words_of s → Lasting 0 v
lasts v s h d z = ap (λ (x : List ℕ). sound (sender_in x)) d ∙ lasts_sender s h

-- a: what the words are
module _ (w b : List ℕ) (call : Sender → Left) (a : Result Sender Refusal) (e : given_by a ≡ of_words w) where
  by : (x : Result Sender Refusal) → a ≡ x → sent w (called (given_by x) b call) ≡ in_words w b call
  by x d = ap (λ (g : Given). sent w (called g b call)) (ap given_by (sym d) ∙ e)

  -- none's: the call gives the number and leaves all as it was
  pub forged : (k : Refusal) (n : ℕ) → a ≡ Err k → n ≡ number k → record { number = n; state = w; buffer = b } ≡ in_words w b call
  forged k n d f = ap (λ (m : ℕ). record { number = m; state = w; buffer = b }) f ∙ by (Err k) d

  -- a sender's: the call gives what its answer tells, in words
  pub goes : (s : Sender) (q : Result Sender Refusal) (b' v : List ℕ) (n : ℕ) → a ≡ Ok s → record { given = given_by q; buffer = b' } ≡ call s
      → record { number = n; state = v } ≡ told w (given_by q) → record { number = n; state = v; buffer = b' } ≡ in_words w b call
  goes s q b' v n d f t =
      ap (λ (x : Told). record { number = x.number; state = x.state; buffer = b' }) t ∙ ap (sent w) f ∙ by (Ok s) d

-- the words are a sender's
module _ (w b : List ℕ) (call : Sender → Left) (s : Sender) (e : done s ≡ of_words w) where
  -- a refusal leaves them
  pub refuses : (k : Refusal) (b' : List ℕ) (r : Result ⊤ Refusal) → r ≡ Err k → record { given = refusal (number k); buffer = b' } ≡ call s
      → (record { number = number_of r; state = w; buffer = b' } ≡ in_words w b call) × Lasting (number_of r) w
  refuses k b' r d f =
      let n : number_of r ≡ number k = ap number_of d in
      (goes w b call (Ok s) e s (Err k) b' w (number_of r) refl f (tells_refusal w (Err k) k (number_of r) refl n), lasts_refused w k (number_of r) n)

  -- and what the call leaves is put into words, which last if it is sound
  pub writes : (t : Sender) (b' v : List ℕ) → record { given = done t; buffer = b' } ≡ call s → v ≡ words_of t
      → (record { number = 0; state = v; buffer = b' } ≡ in_words w b call) × (Sound t → Lasting 0 v)
  writes t b' v f d = (goes w b call (Ok s) e s (Ok t) b' v 0 refl f (tells_sender w v (Ok t) t refl d), λ h. lasts v t h d)
