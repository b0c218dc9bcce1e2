-- WHERE WAYS LEAD: what an input leaves of where a receiver stands, and hands out; and any number of inputs.
-- Assumes nothing.
use Prim.Native.Nat.{ℕ}
use mathlib.Core.List.{List, [], ◌∷◌, ◌++◌, map}
use Rattle.receiver.specs.Frame.{Code, Frame, lost, Out}
use Rattle.receiver.specs.Forecast.{Way, stays, drops, gaps, goes, by_way}
use Rattle.receiver.specs.Join.{Held, free, holding, finds}
use Rattle.indexed.specs.Packets.{Packet, handed}

module _ (C : Code) where
  -- the places of its ordinary bytes
  abbrev pub marks : Way C → List C.S
  marks stays = []
  marks (drops n p) = []
  marks gaps = []
  marks (goes p n bs) = map C.mark bs

  abbrev pub marks_of : List (Way C) → List C.S
  marks_of [] = []
  marks_of (w ∷ ws) = marks w ++ marks_of ws

  pub record Stand : Type 0 where
    pub frame : Frame C
    pub held : Held C

  abbrev pub fresh : Stand
  fresh = record { frame = lost; held = free }

module _ (C : Code) (room : ℕ) where
  abbrev pub joins : Held C → Out C → Stand C
  joins s o = record { frame = o.0; held = holding C room s o.1 }

  abbrev pub next : Stand C → Way C → Stand C
  next t w = joins t.held (by_way C t.frame w)

  abbrev pub run : Stand C → List (Way C) → Stand C
  run t [] = t
  run t (w ∷ ws) = run (next t w) ws

  abbrev pub gives : Stand C → Way C → List (Packet C)
  gives t w = handed C (finds C room t.held (by_way C t.frame w).1)

  abbrev pub gives_all : Stand C → List (Way C) → List (Packet C)
  gives_all t [] = []
  gives_all t (w ∷ ws) = gives t w ++ gives_all (next t w) ws
