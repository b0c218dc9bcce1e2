-- What the private functions of src/over.rt promise one another: what a TP and a receiver's phase must be for the next call to pass over it.
-- Assumes nothing.
use Rattle.std.specs.Prelude.{ℕ, ◌+◌, ◌-◌, ◌*◌, ◌≤◌, ◌≡◌, Bool, true, false, List, length, take, drop, get_or}
use Rattle.digits.specs.Digits.{number}
use Rattle.golay.specs.Golay.{code_word}
use Rattle.receiver.specs.declared.walk.Phase.{Phase}
use Rattle.receiver.specs.declared.walk.Phase.TheVariants.{Lost, Head, Judged, Body}

-- three bytes as a number
abbrev pub word_at : ℕ → List ℕ → ℕ
word_at at tp = number 0 (take 3 (drop at tp))

-- six bytes behind the first one, least significant first
abbrev pub six_of : List ℕ → ℕ
six_of tp =
    get_or tp 1 0 + 256 * (get_or tp 2 0 + 256 * (get_or tp 3 0 + 256 * (get_or tp 4 0 + 256 * (get_or tp 5 0 + 256 * get_or tp 6 0))))

-- no byte of a header is read, and the word at 7 is the intact one of what is left of the TP behind place 10
abbrev pub FillsAll : Phase → List ℕ → Type 0
FillsAll Lost tp = 1 ≤ 0
FillsAll (Head n w) tp = (n ≡ 0) × (length tp - 10 ≤ 4095) × (word_at 7 tp ≡ code_word (length tp - 10))
FillsAll (Judged h) tp = 1 ≤ 0
FillsAll (Body h n) tp = 1 ≤ 0

abbrev pub FillIf : Bool → Phase → List ℕ → Type 0
FillIf false p tp = 0 ≤ 0
FillIf true p tp = FillsAll p tp

-- out of step, three bytes are the code word of 2047
abbrev pub Startless : Phase → List ℕ → Type 0
Startless Lost tp = word_at 1 tp ≡ code_word 2047
Startless (Head n w) tp = 1 ≤ 0
Startless (Judged h) tp = 1 ≤ 0
Startless (Body h n) tp = 1 ≤ 0

abbrev pub StartlessIf : Bool → Phase → List ℕ → Type 0
StartlessIf false p tp = 0 ≤ 0
StartlessIf true p tp = Startless p tp

-- the one or the other
abbrev pub Void : Phase → List ℕ → Type 0
Void Lost tp = Startless Lost tp
Void (Head n w) tp = (six_of tp ≡ 0) × FillsAll (Head n w) tp
Void (Judged h) tp = 1 ≤ 0
Void (Body h n) tp = 1 ≤ 0

abbrev pub VoidIf : Bool → Phase → List ℕ → Type 0
VoidIf false p tp = 0 ≤ 0
VoidIf true p tp = Void p tp
