-- What the sender's calls give to a program in C (document 01, "Sender"), over the definitions of crate `sender`. Assumes nothing.
use Rattle.std.specs.Prelude.{List, true, ◌≡◌, ℕ, Result, Ok, Err, ⊤}
use Rattle.sender.specs.declared.Refusal.{Refusal}
use Rattle.sender.specs.declared.Sender.{Sender}
use Rattle.sender.specs.Answers.{Given, done, refusal, Left, number, refused}
use Rattle.sender.specs.Words.{words_of, sender_in, sound, of_words}

-- document 01's number, 0 where there is no refusal
abbrev pub number_of : Result ⊤ Refusal → ℕ
number_of (Ok u) = 0
number_of (Err k) = number k

-- that number, and the state's words: a refusal leaves them as they were
pub record Told : Type 0 where
  pub number : ℕ
  pub state : List ℕ

abbrev pub told : List ℕ → Given → Told
told w (done s) = record { number = 0; state = words_of s }
told w (refusal n) = record { number = n; state = w }

-- and the one buffer that the call may write
pub record Sent : Type 0 where
  pub number : ℕ
  pub state : List ℕ
  pub buffer : List ℕ

abbrev pub sent : List ℕ → Left → Sent
sent w x = let t = told w x.given in record { number = t.number; state = t.state; buffer = x.buffer }

-- a call of the sender that words are, if they are one's
abbrev pub called : Given → List ℕ → (Sender → Left) → Left
called (done s) b call = call s
called (refusal n) b call = refused n b

-- the call in words: w are the state's, b is the buffer that it may write
abbrev pub in_words : List ℕ → List ℕ → (Sender → Left) → Sent
in_words w b call = sent w (called (of_words w) b call)

-- the words that a call leaves with 0 are a sender's, so that the next call takes them
abbrev pub Lasting : ℕ → List ℕ → Type 0
Lasting n w = n ≡ 0 → sound (sender_in w) ≡ true
