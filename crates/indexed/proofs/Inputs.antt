-- WHAT AN INPUT BRINGS, read with the stamp of its record: its way, and the finds of its low-latency part, hang on the input alone.
-- Assumes nothing.
use mathlib.Core.Path.{◌≡◌, refl}
use mathlib.Core.List.{List, [], ◌++◌}
use Rattle.receiver.specs.declared.Stamp.{Stamp}
use Rattle.receiver.specs.Forecast.{by_way}
use Rattle.receiver.specs.Join.{Finding, finds}
use Rattle.receiver.specs.Low.{wire}
use Rattle.receiver.specs.Tp as T
use Rattle.receiver.specs.Tp.{Setting, brings, Input, tp_in, gap_told, way_of}
use Rattle.receiver.specs.Call.{always}
use Rattle.indexed.specs.Index.{record_of}
use Rattle.indexed.proofs.Ways.{Stand, next}

abbrev pub lows_of : Setting → Stamp → Input → List (Finding wire)
lows_of s p (tp_in tp) = (brings s (always p) tp).lows
lows_of s p gap_told = []

abbrev pub bare : T.Stand → Stand wire
bare t = record { frame = t.frame; held = t.held }

abbrev pub clad : Stand wire → T.Stand
clad t = record { frame = t.frame; held = t.held }

pub finds_are : (s : Setting) (p : Stamp) (t : T.Stand) (x : Input)
    → (record_of s p t x).0 ≡ lows_of s p x ++ finds wire s.room t.held (by_way wire t.frame (way_of s (always p) x)).1
finds_are s p t (tp_in tp) = refl
finds_are s p t gap_told = refl

pub stand_is : (s : Setting) (p : Stamp) (t : T.Stand) (x : Input)
    → (record_of s p t x).1 ≡ clad (next wire s.room (bare t) (way_of s (always p) x))
stand_is s p t (tp_in tp) = refl
stand_is s p t gap_told = refl
