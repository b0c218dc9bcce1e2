-- What the private functions of src/walk.rt promise one another: a turn carries the call on that reading asks for, or ends it.
-- Assumes nothing.
use Rattle.std.specs.Prelude.{ℕ, ◌+◌, ◌-◌, ◌≤◌, ◌<◌, min, ◌≡◌, List, length, take, drop, None, Option, Some}
use Rattle.std.proofs.Math.Seq.{paste}
use Rattle.receiver.specs.declared.Place.{Place}
use Rattle.receiver.specs.declared.Stamp.{Stamp}
use Rattle.receiver.specs.declared.walk.Answer.{Answer}
use Rattle.receiver.specs.declared.walk.Gain.{Gain}
use Rattle.receiver.specs.declared.walk.Gain.TheVariants.{Nothing, Notice, Packet}
use Rattle.receiver.specs.declared.walk.Kept.{Kept}
use Rattle.receiver.specs.declared.walk.Phase.{Phase}
use Rattle.receiver.specs.declared.walk.Phase.TheVariants.{Lost, Head, Judged, Body}
use Rattle.receiver.specs.declared.walk.Turn.{Turn}
use Rattle.receiver.specs.declared.walk.Turn.TheVariants.{More, Stop}
use Rattle.receiver.specs.declared.walk.Walk.{Walk}
use Rattle.receiver.specs.Join.{Finding, notice, ordinary}
use Rattle.receiver.specs.Low.{wire, tag_of}
use Rattle.receiver.specs.Pull.{Pulled}
use Rattle.receiver.specs.State.{frame_of, todo_of, held_of, pull_of, Sound}
use Rattle.receiver.specs.Turns.{toil}

abbrev pub pasted : Option Kept → List ℕ → List ℕ → ℕ → List ℕ
pasted None m ds n = m
pasted (Some q) m ds n = paste m q.len ds n

abbrev pub room_by : Phase → ℕ → Option Kept → List ℕ → List ℕ → List ℕ
room_by Lost at k tp m = m
room_by (Head n x) at k tp m = m
room_by (Judged h) at k tp m = m
room_by (Body h left) at k tp m = pasted k m (drop at tp) (min left (length tp - at))

-- the room behind a turn
unfoldable pub room_of : Walk → List ℕ → List ℕ → List ℕ
room_of w tp m = room_by w.phase w.at w.kept tp m

-- a notice is of the EP under way, which began there
abbrev pub find_of : Gain → Place → List ℕ → Option (Finding wire)
find_of Nothing b m = None
find_of (Notice n) b m = Some (notice n b)
find_of (Packet c e g n) b m = Some (ordinary (tag_of c e g) (take n m))

-- the call that was answered
unfoldable pub shown : Answer → List ℕ → Pulled wire
shown a m = record {
  find = find_of a.gain a.walk.began m;
  at = a.walk.at;
  frame = frame_of a.walk.began a.walk.phase;
  todo = todo_of a.walk.began a.walk.phase;
  held = held_of a.walk.kept m;
  room = m;
}

-- a packet lies in the room
abbrev pub Gained : ℕ → Gain → Type 0
Gained cap Nothing = 0 ≤ 0
Gained cap (Notice n) = 0 ≤ 0
Gained cap (Packet c e g n) = n + 0 ≤ cap

-- one turn of a call: from w with the room's bytes m to x with those of m'
pub record On (cap : ℕ) (t : Stamp) (w : Walk) (tp m : List ℕ) (x : Walk) (m' : List ℕ) : Type 0 where
  pub same : pull_of cap t x tp m' ≡ pull_of cap t w tp m
  pub sound : Sound cap (length tp) x
  pub less : toil (length tp) x < toil (length tp) w

pub record Ends (cap : ℕ) (t : Stamp) (w : Walk) (tp m : List ℕ) (a : Answer) (m' : List ℕ) : Type 0 where
  pub same : shown a m' ≡ pull_of cap t w tp m
  pub sound : Sound cap (length tp) a.walk
  pub gained : Gained cap a.gain

unfoldable pub Carries : ℕ → Stamp → Walk → List ℕ → List ℕ → Turn → List ℕ → Type 0
Carries cap t w tp m (More x) m' = On cap t w tp m x m'
Carries cap t w tp m (Stop a) m' = Ends cap t w tp m a m'
