-- WHAT `turn` PROMISES, and what its pieces do to a room. Assumes nothing.
use Rattle.std.specs.Prelude.{ℕ, ◌+◌, ◌-◌, ◌*◌, ◌≤◌, ◌<◌, Bool, true, false, ◌≡◌, List, length, drop, None, Option, Some}
use Rattle.std.proofs.Math.Seq.{paste}
use Rattle.receiver.specs.declared.Find.{Find}
use Rattle.receiver.specs.declared.About.{About}
use Rattle.receiver.specs.declared.Receiver.{Receiver}
use Rattle.receiver.specs.declared.Role.{Role}
use Rattle.receiver.specs.declared.Role.TheVariants as R
use Rattle.receiver.specs.declared.Piece.{Piece}
use Rattle.receiver.specs.declared.Turned.{Turned}
use Rattle.receiver.specs.declared.Stage.{Stage}
use Rattle.receiver.specs.declared.Stage.TheVariants.{Fresh, Low, Due, Plain}
use Rattle.receiver.specs.declared.walk.Walk.{Walk}
use Rattle.receiver.specs.Call.{call_of, Gives, lasts}
use Rattle.receiver.specs.Pieces.{turn_of}
use Rattle.receiver.specs.State.{Able}
use Rattle.receiver.specs.Turns.{toil}

-- data that are kept have place in the room
abbrev pub Fits : Role → ℕ → ℕ → Type 0
Fits R.Passed n cap = 0 ≤ 0
Fits (R.Llep h) n cap = 0 ≤ 0
Fits R.Broken n cap = 0 ≤ 0
Fits R.Cut n cap = 0 ≤ 0
Fits (R.Whole h) n cap = 0 ≤ 0
Fits R.Skipped n cap = 0 ≤ 0
Fits (R.Kept i) n cap = i + n ≤ cap

-- a piece lies within the TP, and its data within the room
pub record Within (p : Piece) (len cap : ℕ) : Type 0 where
  pub from : p.from ≤ p.to
  pub to : p.to ≤ len
  pub fits : Fits p.role (p.to - p.from) cap

-- how much is left to do of a TP of so many bytes
abbrev pub stages_left : Stage → ℕ
stages_left Fresh = 3
stages_left (Low o) = 2
stages_left (Due o) = 1
stages_left Plain = 0

abbrev pub effort_by : ℕ → Stage → Walk → ℕ
effort_by len g w = stages_left g * (3 * len + 3) + toil len w

abbrev pub effort : ℕ → Receiver → ℕ
effort len r = effort_by len r.stage r.walk

-- whether the TP has more to give
abbrev pub told_goes_on : Option Find → Bool
told_goes_on None = true
told_goes_on (Some f) = lasts f

abbrev pub LessIf : Bool → ℕ → ℕ → Type 0
LessIf true a b = a < b
LessIf false a b = 0 ≤ 0

-- a turn after which the TP goes on leaves less to do
abbrev pub Nearer : Option Find → ℕ → Receiver → Receiver → Type 0
Nearer t len r q = LessIf (told_goes_on t) (effort len q) (effort len r)

-- THE PROMISE of a turn
pub record TurnedAs (r : Receiver) (tp : List ℕ) (q : Turned) : Type 0 where
  pub same : q ≡ turn_of r tp
  pub able : Able q.receiver
  pub within : Within q.piece (length tp) r.limit
  pub nearer : Nearer q.told (length tp) r q.receiver

-- what a piece puts into a room
abbrev pub put_by : Role → ℕ → ℕ → List ℕ → List ℕ → List ℕ
put_by R.Passed from to tp m = m
put_by (R.Llep h) from to tp m = m
put_by R.Broken from to tp m = m
put_by R.Cut from to tp m = m
put_by (R.Whole h) from to tp m = m
put_by R.Skipped from to tp m = m
put_by (R.Kept i) from to tp m = paste m i (drop from tp) (to - from)

unfoldable pub put_of : Piece → List ℕ → List ℕ → List ℕ
put_of p tp m = put_by p.role p.from p.to tp m

-- what a turn makes of the call, whatever room is lent: its answer, or the same call still to be made
abbrev pub Makes : Option Find → About → Receiver → List ℕ → List ℕ → Receiver → List ℕ → Type 0
Makes None a r tp m q m' = (length m' ≡ q.limit) × (call_of q tp m' ≡ call_of r tp m)
Makes (Some f) a r tp m q m' = Gives (call_of r tp m) (record { receiver = q; find = f; about = a }) tp m'

-- where reading stands in the payload
abbrev pub stands_by : Stage → Walk → ℕ
stands_by Fresh w = 4
stands_by (Low o) w = w.at
stands_by (Due o) w = w.at
stands_by Plain w = w.at

-- how a piece lies behind this place: none of a TP that is refused; up to where reading then stands; or up to the TP's end
pub data Tiles (from len : ℕ) (r : Receiver) (q : Turned) : Type 0 where
  refused : q.receiver ≡ r → q.piece.from ≡ q.piece.to → Tiles from len r q
  on_to : q.piece.from ≡ from → (q.receiver.stage ≡ Fresh → ⊥) → q.piece.to ≡ q.receiver.walk.at → Tiles from len r q
  ends : q.piece.from ≡ from → q.receiver.stage ≡ Fresh → q.piece.to ≡ len → Tiles from len r q
