-- What the private functions of src/entry.rt and src/stages.rt promise one another: up to the ordinary bytes each answers the
-- call, whatever room is lent. Assumes nothing.
use Rattle.std.specs.Prelude.{ℕ, ◌≤◌, ◌<◌, Bool, cond, ◌≡◌, List, length, drop}
use Rattle.receiver.specs.declared.Receiver.{Receiver}
use Rattle.receiver.specs.declared.Stamp.{Stamp}
use Rattle.receiver.specs.Place.{start_of, placed}
use Rattle.receiver.specs.declared.low.Lows.TheVariants as L
use Rattle.receiver.specs.declared.entry.Begun.{Begun}
use Rattle.receiver.specs.declared.entry.Begun.TheVariants as B
use Rattle.receiver.specs.declared.stages.Course.{Course}
use Rattle.receiver.specs.declared.stages.Course.TheVariants as C
use Rattle.receiver.specs.declared.walk.Walk.{Walk}
use Rattle.receiver.specs.Call.{Gave, Gives, low_call, ordinary_call, start_call, walk_to}
use Rattle.receiver.specs.Forecast.{start}
use Rattle.receiver.specs.Low.{wire}
use Rattle.receiver.specs.Lows.{lows_of}
use Rattle.receiver.specs.State.{frame_of, pull_of, Sound, Settled}

-- in the middle of a call: the TP's length is right, and reading stands before the ordinary bytes
pub record Lent (r : Receiver) (at : ℕ) (tp : List ℕ) : Type 0 where
  pub size : 16 ≤ r.size
  pub whole : length tp ≡ r.size
  pub payload : 4 ≤ at
  pub walk : Sound r.limit r.size (walk_to r at)
  pub settled : Settled r.walk.phase

-- the ordinary bytes from this place on, of which n stand before the first EP that begins here
abbrev pub set_call : Receiver → Stamp → ℕ → ℕ → List ℕ → List ℕ → Gave
set_call r t at n tp m = start_call r t at (start wire (start_of t) (frame_of r.walk.began r.walk.phase) n (placed t at (drop at tp))) tp m

-- the low-latency part from this place on, if there is one
abbrev pub part_call : Bool → Receiver → Stamp → ℕ → ℕ → List ℕ → List ℕ → Gave
part_call low r t offset at tp m = low_call (cond low (lows_of tp at) (L.End at)) r t offset tp m

-- reading on with w answers the call, whatever room is lent
pub record Onward (g : List ℕ → Gave) (r : Receiver) (t : Stamp) (tp : List ℕ) (w : Walk) : Type 0 where
  pub same : (m : List ℕ) → length m ≡ r.limit → ordinary_call r t (pull_of (length m) t w tp m) ≡ g m
  pub sound : Sound r.limit r.size w

-- and so does a course
unfoldable pub Leads : (List ℕ → Gave) → Receiver → Stamp → List ℕ → Course → Type 0
Leads g r t tp (C.Gives q) = (m : List ℕ) → length m ≡ r.limit → Gives (g m) q tp m
Leads g r t tp (C.Reads w) = Onward g r t tp w

-- a low-latency part, or none, from this place on answers the call
pub record PartAt (g : List ℕ → Gave) (r : Receiver) (t : Stamp) (tp : List ℕ) (low : Bool) (offset at : ℕ) : Type 0 where
  pub same : (m : List ℕ) → part_call low r t offset at tp m ≡ g m
  pub small : offset < 2048
  pub lent : Lent r at tp

-- and so does where a call takes a TP up
unfoldable pub Begins : (List ℕ → Gave) → Receiver → Stamp → List ℕ → Begun → Type 0
unfolding Leads
Begins g r t tp (B.Gives q) = Leads g r t tp (C.Gives q)
Begins g r t tp (B.Part low offset at) = PartAt g r t tp low offset at
Begins g r t tp B.Plain = Leads g r t tp (C.Reads r.walk)
