-- What the private functions of src/outset.rt and src/stages.rt promise one another about setting out. Assumes nothing.
use Rattle.std.specs.Prelude.{ℕ, ◌+◌, ◌-◌, min, ◌≡◌, cond, List, ltb, eqb, length, take, drop, Err, Ok, Result, None, Option, Some}
use Rattle.digits.specs.Digits.{number}
use Rattle.wire.specs.declared.Header.{Header}
use Rattle.wire.specs.Reading.{header_in}
use Rattle.receiver.specs.declared.Place.{Place}
use Rattle.receiver.specs.declared.Stamp.{Stamp}
use Rattle.receiver.specs.declared.outset.Fore.{Fore}
use Rattle.receiver.specs.declared.outset.Fore.TheVariants.{Bad, At}
use Rattle.receiver.specs.declared.walk.Answer.{Answer}
use Rattle.receiver.specs.declared.walk.Gain.TheVariants.{Notice}
use Rattle.receiver.specs.declared.walk.Walk.{Walk}
use Rattle.receiver.specs.Forecast as F
use Rattle.receiver.specs.Low.{wire}
use Rattle.receiver.specs.Pull.{Pulled}
use Rattle.receiver.specs.State.{frame_of, from, pull_of, Sound}
use Rattle.receiver.specs.Outset.{upon_of, lost_at}
use Rattle.receiver.specs.Place.{start_of, placed}
use Rattle.receiver.specs.InWalk.{shown}

-- the forecast of a header that is read on for it only
abbrev pub behind_of : Option Header → ℕ → ℕ → Fore
behind_of None n rest = Bad
behind_of (Some h) n rest = At (n + min h.size (rest - n))

unfoldable pub ahead_of : List ℕ → ℕ → ℕ → ℕ → Fore
ahead_of tp at n w =
    cond (eqb n 0) (At 0)
    (cond (ltb (length tp - at) (6 - n)) (At (length tp - at))
    (behind_of (header_in (number w (take (6 - n) (drop at tp)))) (6 - n) (length tp - at)))

-- the call that sets about the bytes
unfoldable pub set_out : ℕ → Stamp → Walk → ℕ → List ℕ → List ℕ → Pulled wire
set_out cap t w n tp m = from cap t (F.start wire (start_of t) (frame_of w.began w.phase) n (placed t w.at (drop w.at tp))) w tp m

-- out of step by this notice of this place, and on from there
abbrev pub lose_of : ℕ → ℕ → ℕ → Place → Answer
lose_of at len n g = record { walk = record { at = at; phase = upon_of at len; began = g; kept = None }; gain = Notice n }

-- reading on with x answers the call that sets about the bytes, whatever room is lent
pub record ReadsOn (w : Walk) (n : ℕ) (tp : List ℕ) (x : Walk) : Type 0 where
  pub same : (t : Stamp) (m : List ℕ) → pull_of (length m) t x tp m ≡ set_out (length m) t w n tp m
  pub sound : (cap : ℕ) → Sound cap (length tp) w → Sound cap (length tp) x

unfoldable pub SetsOut : Walk → ℕ → List ℕ → Result Walk ℕ → Type 0
SetsOut w n tp (Ok x) = ReadsOn w n tp x
SetsOut w n tp (Err i) = (t : Stamp) (m : List ℕ) → shown (lose_of (w.at + n) (length tp) i (lost_at i t w.began)) m ≡ set_out (length m) t w n tp m
