-- HOW A TP'S ORDINARY BYTES ARE SET ABOUT, by value: 10, 21; the forecast against the offset, 12 and 13 (`Forecast`).
-- Assumes nothing.
use Rattle.std.specs.Prelude.{ℕ, ◌+◌, ◌-◌, cond, List, ltb, leb, eqb, length, drop, Err, Ok, Result, None, Option, Some}
use Rattle.receiver.specs.declared.outset.Fore.{Fore}
use Rattle.receiver.specs.declared.outset.Fore.TheVariants.{Off, Bad, At}
use Rattle.receiver.specs.declared.Place.{Place}
use Rattle.receiver.specs.declared.Stamp.{Stamp}
use Rattle.receiver.specs.declared.walk.Phase.{Phase}
use Rattle.receiver.specs.declared.walk.Phase.TheVariants.{Lost, Head}
use Rattle.receiver.specs.declared.walk.Walk.{Walk}
use Rattle.receiver.specs.Place.{start_of, placed, own_of}
use Rattle.receiver.specs.Forecast as F
use Rattle.receiver.specs.Low.{wire}
use Rattle.receiver.specs.State.{frame_of}

-- 10: "an offset that is not 2047 and is at least P"; 21: one "before the low-latency part's end". The payload begins at place 4
unfoldable pub place_of : ℕ → ℕ → ℕ → Result ℕ ℕ
place_of offset at len =
    cond (eqb offset 2047) (Ok (len - at))
    (cond (leb len (offset + 4)) (Err 10)
    (cond (ltb (offset + 4) at) (Err 21) (Ok (offset + 4 - at))))

-- the forecast; out of step there is none
abbrev pub foretells : Option ℕ → Fore
foretells None = Bad
foretells (Some n) = At n

abbrev pub seen : F.Phase → Option ℕ → Fore
seen F.off o = Off
seen F.between o = foretells o
seen F.inside o = foretells o

abbrev pub fore_at : Place → Phase → List (Place × ℕ) → Fore
fore_at g p bs = seen (F.phase wire (frame_of g p)) (F.foretold wire (frame_of g p) bs)

-- it doesn't look at places, so any will do
unfoldable pub fore_of : Phase → List ℕ → Fore
fore_of p bs = fore_at (start_of (own_of 0)) p (placed (own_of 0) 0 bs)

-- the place that the notice of a loss carries: 12 that of the header under way, 13 place 0
abbrev pub lost_at : ℕ → Stamp → Place → Place
lost_at n t b = cond (eqb n 12) b (start_of t)

-- in step from an EP's first byte on, if there is one
unfoldable pub upon_of : ℕ → ℕ → Phase
upon_of at len = cond (ltb at len) (Head 0 0) Lost

-- what the forecast decides, where n bytes stand before the first EP that begins here. 12, 13: out of step
abbrev pub out_by : Fore → Walk → ℕ → ℕ → Result Walk ℕ
out_by Off w n len = Ok (record { at = w.at + n; phase = upon_of (w.at + n) len; began = w.began; kept = w.kept })
out_by Bad w n len = Err 12
out_by (At k) w n len = cond (eqb k n) (Ok w) (Err 13)

unfoldable pub set_out_of : Walk → ℕ → List ℕ → Result Walk ℕ
set_out_of w n tp = out_by (fore_of w.phase (drop w.at tp)) w n (length tp)
