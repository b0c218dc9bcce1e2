-- What a receiver by value stands for, with the room and the TP lent to a call. Assumes nothing.
use Rattle.std.specs.Prelude.{ℕ, ◌+◌, ◌-◌, ◌^◌, ◌≤◌, ◌<◌, List, [], ◌∷◌, length, take, drop, None, Option, Some}
use Rattle.digits.specs.Digits.{digits}
use Rattle.receiver.specs.declared.Place.{Place}
use Rattle.receiver.specs.declared.Receiver.{Receiver}
use Rattle.receiver.specs.declared.Stamp.{Stamp}
use Rattle.receiver.specs.declared.Stage.{Stage}
use Rattle.receiver.specs.declared.Stage.TheVariants.{Fresh, Low, Due, Plain}
use Rattle.receiver.specs.declared.walk.Phase.{Phase}
use Rattle.receiver.specs.declared.walk.Phase.TheVariants.{Lost, Head, Judged, Body}
use Rattle.receiver.specs.declared.walk.Kept.{Kept}
use Rattle.receiver.specs.declared.walk.Walk.{Walk}
use Rattle.receiver.specs.Place.{placed}
use Rattle.receiver.specs.Frame.{Frame, lost, idle, head, Event, entered, within, ending}
use Rattle.receiver.specs.Forecast.{Start}
use Rattle.receiver.specs.Join.{Held, free, held}
use Rattle.receiver.specs.Low.{wire, tag_of, ep_at}
use Rattle.receiver.specs.Pull.{Pulled, pull, meet}

-- with these bytes read of a header that began there
abbrev pub headed : Place → List ℕ → Frame wire
headed g [] = idle
headed g (b ∷ bs) = head g (4 - length bs) (b ∷ bs)

-- where the header or EP under way began, and the phase
abbrev pub frame_of : Place → Phase → Frame wire
frame_of g Lost = lost
frame_of g (Head n w) = headed g (digits n w)
frame_of g (Judged h) = within wire (ep_at g h) h.size
frame_of g (Body h n) = within wire (ep_at g h) n

-- events of bytes read that are still to be taken in: one header can give two finds
abbrev pub todo_of : Place → Phase → List (Event wire)
todo_of g Lost = []
todo_of g (Head n w) = []
todo_of g (Judged h) = entered (ep_at g h) ∷ ending wire (ep_at g h) h.size
todo_of g (Body h n) = ending wire (ep_at g h) n

-- so many bytes of a packet of this content, of this total repaired and begun there, are kept
abbrev pub kept_by : ℕ → ℕ → Place → ℕ → Option Kept
kept_by c e g n = Some (record { content = c; repaired = e; began = g; len = n })

-- what is kept stands at the room's start
abbrev pub held_of : Option Kept → List ℕ → Held wire
held_of None m = free
held_of (Some k) m = held (tag_of k.content k.repaired k.began) (take k.len m)

abbrev pub keeps : Option Kept → ℕ
keeps None = 0
keeps (Some k) = k.len

-- the call that a walk among ordinary bytes asks for
unfoldable pub pull_of : ℕ → Stamp → Walk → List ℕ → List ℕ → Pulled wire
pull_of cap t w tp m =
    pull wire cap (frame_of w.began w.phase) w.at (meet wire cap (held_of w.kept m) m (todo_of w.began w.phase)) (placed t w.at (drop w.at tp))

-- the call that sets about them
abbrev pub from : ℕ → Stamp → Start wire → Walk → List ℕ → List ℕ → Pulled wire
from cap n t w tp m =
    pull wire cap t.frame (w.at + t.past) (meet wire cap (held_of w.kept m) m t.told) (placed n (w.at + t.past) (drop (w.at + t.past) tp))

-- with n more bytes the packet kept stays in the room
abbrev pub Roomy : ℕ → Option Kept → ℕ → Type 0
Roomy cap None n = 0 ≤ 0
Roomy cap (Some q) n = q.len + n ≤ cap

-- and its length is a number of the machine
abbrev pub Counts : Option Kept → ℕ → Type 0
Counts k n = Roomy 18446744073709551615 k n

abbrev pub Fine : ℕ → Phase → Option Kept → Type 0
Fine cap Lost k = Roomy cap k 0
Fine cap (Head n w) k = (n ≤ 5) × (w < 256 ^ n) × Roomy cap k 0
Fine cap (Judged h) k = Roomy cap k 0
Fine cap (Body h n) k = Roomy cap k n

pub record Sound (cap len : ℕ) (w : Walk) : Type 0 where
  pub at : w.at ≤ len
  pub phase : Fine cap w.phase w.kept

-- before a TP's ordinary bytes no event is still to be taken in
abbrev pub Settled : Phase → Type 0
Settled Lost = 0 ≤ 0
Settled (Head n w) = (n ≤ 5) × (w < 256 ^ n)
Settled (Judged h) = 1 ≤ 0
Settled (Body h n) = 0 < n

abbrev pub Staged : Stage → Walk → Type 0
Staged Fresh w = Settled w.phase
Staged (Low offset) w = (offset < 2048) × (4 ≤ w.at) × Settled w.phase
Staged (Due offset) w = (offset < 2048) × (4 ≤ w.at) × Settled w.phase
Staged Plain w = 0 ≤ 0

-- the receiver came from an opening and its calls
pub record Able (r : Receiver) : Type 0 where
  pub size : 16 ≤ r.size
  pub walk : Sound r.limit r.size r.walk
  pub stage : Staged r.stage r.walk
