-- What the private functions of src/track.rt promise one another. Assumes nothing.
use Rattle.std.specs.Prelude.{ℕ, ◌≤◌, ◌<◌}
use Rattle.wire.specs.declared.Header.{Header}
use Rattle.receiver.specs.declared.Place.{Place}
use Rattle.receiver.specs.declared.track.Sight.{Sight}
use Rattle.receiver.specs.declared.track.Track.{Track}
use Rattle.receiver.specs.declared.walk.Phase.{Phase}
use Rattle.receiver.specs.declared.walk.Walk.{Walk}
use Rattle.receiver.specs.InLanes.{StandsAs}
use Rattle.receiver.specs.State.{Fine, Settled, kept_by}
use Rattle.receiver.specs.Tracks.{OwnIn, lane_in}
use Rattle.receiver.specs.Turns.{walk_at}

-- a track, or none, stands for a walk at place 0 with nothing kept, however long the room
pub record UnkeptAs (t : Track) (w : Walk) : Type 0 where
  pub sort : t.sort ≤ 4
  pub flips : t.flips < 256
  pub lane : (cap : ℕ) → StandsAs cap (lane_in t) w

-- or for one with so many data of the EP under way kept, if they are its own, in a room of so many bytes
pub record KeptAs (t : Track) (p : Phase) (g : Place) (len cap : ℕ) : Type 0 where
  pub sort : t.sort ≤ 4
  pub flips : t.flips < 256
  pub lane : (c e : ℕ) (b : Place) → Settled p → Fine cap p (kept_by c e b len) → OwnIn g p (kept_by c e b len) → StandsAs cap (lane_in t) (walk_at 0 p g (kept_by c e b len))

-- an EP seen there, by its header
abbrev pub sight_of : ℕ → ℕ → Header → Sight
sight_of s from h = record { sort = s; from = from; size = h.size; content = h.content; flips = h.flips }
