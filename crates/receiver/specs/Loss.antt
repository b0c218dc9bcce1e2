-- "The held series is never older than the last loss of step." (document 02, R-4): the statement, of each loss of step among any
-- number of TPs and told gaps, so of the last. Assumes nothing.
use Rattle.std.specs.Prelude.{ℕ, ◌%◌, ◌≤◌, ◌<◌, ◌≡◌, ◌⊎◌, List, [], ◌∷◌, ◌++◌, take, drop, None, Option, Some}
use Rattle.digits.specs.Digits.{number}
use Rattle.wire.specs.Reading.{tp_number_in}
use Rattle.receiver.specs.declared.Place.{Place}
use Rattle.receiver.specs.Place.{count_of}
use Rattle.receiver.specs.Frame.{Event, lose, gap, opened, entered, fed, closed}
use Rattle.receiver.specs.Join.{held}
use Rattle.receiver.specs.Low.{Tag, wire}
use Rattle.receiver.specs.Tp.{Setting, Stand, Input, tp_in, gap_told, input_of, stamping_of, count_after, listing_all, events_all}

-- an event is a loss of step: by a notice, or by a told gap
abbrev pub Loss : Event wire → Type 0
Loss (lose n p) = Unit {0}
Loss gap = Unit {0}
Loss (opened h) = ⊥
Loss (entered h) = ⊥
Loss (fed b) = ⊥
Loss (closed h) = ⊥

-- one of these events is
abbrev pub Loses : List (Event wire) → Type 0
Loses [] = ⊥
Loses (e ∷ es) = Loss e ⊎ Loses es

-- so many TPs are counted behind these inputs
abbrev pub count_all : Setting → ℕ → List Input → ℕ
count_all s n [] = n
count_all s n (x ∷ xs) = count_all s (count_after s n x) xs

-- "bits 10 to 0: offset": the payload place at which reading resumes; behind a told gap any will do
abbrev pub offset_by : Option ℕ → ℕ
offset_by None = 0
offset_by (Some w) = w % 2048

abbrev pub offset_of : Input → ℕ
offset_of (tp_in tp) = offset_by (tp_number_in (number 0 (take 3 (drop 1 tp))))
offset_of gap_told = 0

-- the first of these events is a loss of step, and no other one is
abbrev pub LostFirst : List (Event wire) → Type 0
LostFirst [] = ⊥
LostFirst (e ∷ es) = Loss e × (Loses es → ⊥)

-- of TP n, which brought these events: step was lost before its ordinary bytes were read and not amid them, and the place is i or
-- behind it; or of a later TP. (A count that stands at its stop doesn't tell TPs apart.)
abbrev pub NotBefore : ℕ → ℕ → List (Event wire) → Place → Type 0
NotBefore n i es p = (n ≤ p.stamp.number) × (p.stamp.number ≡ n → n < 4294967295 → (i ≤ p.at) × LostFirst es)

-- what an input that comes behind these brings to light
abbrev pub told_by : Setting → ℕ → Stand → List Input → Input → List (Event wire)
told_by s n t before x = (input_of s (stamping_of (count_all s n before)) (listing_all s n t before).1.frame x).told

-- BY THE COUNT: an input that loses step is TP n, or, if a told gap, the next TP is; what is held at the end began there, behind
-- the loss and at the offset or behind it, or in a later TP
abbrev pub HeldSinceLoss : Type 0
HeldSinceLoss = (s : Setting) (n : ℕ) (t : Stand) (before : List Input) (x : Input) (behind : List Input)
    → Loses (told_by s n t before x)
    → (k : Tag) (d : List ℕ) → (listing_all s n t (before ++ x ∷ behind)).1.held ≡ held k d
    → NotBefore (count_of (count_all s n before)) (offset_of x) (told_by s n t before x) k.at

-- an EP of this place is entered
abbrev pub Enters : Place → Event wire → Type 0
Enters p (lose n q) = ⊥
Enters p gap = ⊥
Enters p (opened h) = ⊥
Enters p (entered h) = h.at ≡ p
Enters p (fed b) = ⊥
Enters p (closed h) = ⊥

abbrev pub EnteredAt : Place → List (Event wire) → Type 0
EnteredAt p [] = ⊥
EnteredAt p (e ∷ es) = Enters p e ⊎ EnteredAt p es

-- BY THE EVENTS: what is held at the end began with an EP that was entered behind the loss of step
abbrev pub BegunSinceLoss : Type 0
BegunSinceLoss = (s : Setting) (n : ℕ) (t : Stand) (xs : List Input) (before : List (Event wire)) (l : Event wire) (behind : List (Event wire))
    → Loss l → events_all s n t.frame xs ≡ before ++ l ∷ behind
    → (k : Tag) (d : List ℕ) → (listing_all s n t xs).1.held ≡ held k d
    → EnteredAt k.at behind
