-- A TP THAT ONE CALL IS DONE WITH: it is passed over, or all of it is data of the EP under way. Assumes nothing.
use Rattle.std.specs.Prelude.{ℕ, ◌-◌, ◌≤◌, ◌<◌, ◌≡◌, Bool, true, false, List, length, drop, None, Option, Some}
use Rattle.receiver.specs.declared.Receiver.{Receiver}
use Rattle.receiver.specs.declared.Stage.TheVariants.{Fresh}
use Rattle.receiver.specs.declared.walk.Kept.{Kept}
use Rattle.receiver.specs.declared.walk.Phase.{Phase}
use Rattle.receiver.specs.declared.walk.Phase.TheVariants.{Lost, Head, Judged, Body}
use Rattle.receiver.specs.Call.{Gives, call_of, walk_to}
use Rattle.receiver.specs.InWalk.{pasted}
use Rattle.receiver.specs.Lanes.{ends_in}
use Rattle.receiver.specs.Place.{count_of, own_of}
use Rattle.receiver.specs.Turns.{grown_by, walk_at}

-- one TP more is counted
abbrev pub over_of : Receiver → Receiver
over_of r = record { size = r.size; stream = r.stream; limit = r.limit; count = count_of r.count; stage = Fresh; walk = walk_to r 0 }

-- if the answer is yes, the room is as long as at the opening, and the next call says none and leaves room and receiver as they are, but for the count
abbrev pub OverIf : Bool → Receiver → List ℕ → ℕ → Type 0
OverIf false r tp room = 0 ≤ 0
OverIf true r tp room =
    (room ≡ r.limit) × ((m : List ℕ) → length m ≡ room → Gives (call_of r tp m) (ends_in (over_of r) (own_of (count_of r.count))) tp m)

-- more than n bytes are left of the EP under way
abbrev pub LeftOver : ℕ → Phase → Type 0
LeftOver n Lost = 1 ≤ 0
LeftOver n (Head k w) = 1 ≤ 0
LeftOver n (Judged h) = 1 ≤ 0
LeftOver n (Body h left) = n < left

-- its data are kept
abbrev pub Keeping : Option Kept → Type 0
Keeping None = 1 ≤ 0
Keeping (Some k) = 0 ≤ 0

-- the payload of a TP of so many bytes is data that are kept, and more of them follow
pub record InData (r : Receiver) (len : ℕ) : Type 0 where
  pub payload : 4 ≤ len
  pub more : LeftOver (len - 4) r.walk.phase
  pub kept : Keeping r.walk.kept

-- so many bytes fewer are left
abbrev pub less_by : ℕ → Phase → Phase
less_by n Lost = Lost
less_by n (Head k w) = Head k w
less_by n (Judged h) = Judged h
less_by n (Body h left) = Body h (left - n)

-- one TP more is counted, and n bytes more are kept
abbrev pub taken_of : Receiver → ℕ → Receiver
taken_of r n = record {
  size = r.size;
  stream = r.stream;
  limit = r.limit;
  count = count_of r.count;
  stage = Fresh;
  walk = walk_at 0 (less_by n r.walk.phase) r.walk.began (grown_by n r.walk.kept);
}

-- the payload goes to the room, behind what is kept
abbrev pub put_of : Receiver → List ℕ → List ℕ → List ℕ
put_of r tp m = pasted r.walk.kept m (drop 4 tp) (length tp - 4)

-- if the answer is yes, the room is as long as at the opening, and the next call takes the payload and says none
abbrev pub DataIf : Bool → Receiver → List ℕ → ℕ → Type 0
DataIf false r tp room = 0 ≤ 0
DataIf true r tp room =
    (room ≡ r.limit)
    × InData r (length tp)
    × ((m : List ℕ) → length m ≡ room → Gives (call_of r tp m) (ends_in (taken_of r (length tp - 4)) (own_of (count_of r.count))) tp (put_of r tp m))
