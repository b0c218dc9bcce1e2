-- What the receiver's calls give to a program in C (document 01, "Receiver"; R-2 and R-4 of document 02), over the definitions of crate
-- `receiver`. Assumes nothing.
use Rattle.std.specs.Prelude.{ℕ, ◌≡◌, List, [], ◌∷◌, Option, None, Some}
use Rattle.receiver.specs.declared.About.{About}
use Rattle.receiver.specs.declared.Find.{Find}
use Rattle.receiver.specs.declared.Find.TheVariants as F
use Rattle.receiver.specs.declared.Receiver.{Receiver}
use Rattle.receiver.specs.declared.Step.{Step}
use Rattle.receiver.specs.Call.{Answered, Gives, call_of, find_number, gap_of}
use Rattle.receiver.specs.Place.{own_of, start_of}
use Rattle.receiver.specs.Words.{Fit, words_of}
use Rattle.jenugathi.specs.Sending.{Told}

-- a find's seven words: sort, content or number, start, length; the bits repaired; the TP and the place where it began
abbrev pub seven_of : ℕ → ℕ → ℕ → ℕ → About → List ℕ
seven_of sort what start len a = sort ∷ what ∷ start ∷ len ∷ a.repaired ∷ a.at.stamp.number ∷ a.at.at ∷ []

abbrev pub find_words : Find → About → List ℕ
find_words F.Nothing a = seven_of 0 0 0 0 a
find_words F.Refused a = seven_of 1 1 0 0 a
find_words (F.Notice n) a = seven_of 2 n 0 0 a
find_words (F.Low c start n) a = seven_of 3 c start n a
find_words (F.Ordinary c n) a = seven_of 4 c 0 n a

-- document 01's number, 0 where there is none
abbrev pub or_zero : Option ℕ → ℕ
or_zero None = 0
or_zero (Some n) = n

-- AN OPENING writes the words of what it opens; a refusal leaves them as they were
abbrev pub state_of : Option Receiver → List ℕ → List ℕ
state_of None w = w
state_of (Some r) w = words_of r

abbrev pub opened_to : Answered → List ℕ → Told
opened_to a w = record { number = or_zero a.number; state = state_of a.opened w }

-- A GAP, told to the receiver that the words are
abbrev pub gapped_to : Option Receiver → List ℕ → Told
gapped_to None w = record { number = 1; state = w }
gapped_to (Some r) w = record { number = 0; state = words_of (gap_of r) }

-- A CALL of the receiver that the words are: a step that it promises, in words; what it leaves fits
pub record Tells (r : Receiver) (tp m₀ : List ℕ) (n : ℕ) (w f m : List ℕ) : Type 0 where
  pub step : Step
  pub gives : Gives (call_of r tp m₀) step tp m
  pub fits : Fit step.receiver
  pub number : n ≡ or_zero (find_number step.find)
  pub state : w ≡ words_of step.receiver
  pub find : f ≡ find_words step.find step.about

-- words of none: 1, and all but the find is as it was
pub record Stays (w₀ m₀ : List ℕ) (n : ℕ) (w f m : List ℕ) : Type 0 where
  pub number : n ≡ 1
  pub state : w ≡ w₀
  pub find : f ≡ find_words F.Refused (record { repaired = 0; at = start_of (own_of 0) })
  pub room : m ≡ m₀

abbrev pub NextAs : Option Receiver → (w₀ tp m₀ : List ℕ) (n : ℕ) (w f m : List ℕ) → Type 0
NextAs None w₀ tp m₀ n w f m = Stays w₀ m₀ n w f m
NextAs (Some r) w₀ tp m₀ n w f m = Tells r tp m₀ n w f m
