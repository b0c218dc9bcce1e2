-- `receiver::stride::past_middles` meets its contract: the invariant: the call asked for from here, with what is kept, is the one asked for from the start. The measure is what is left of the TP.
-- Assumes nothing.
use mathlib.Core.Path.{◌≡◌}
use Prim.Native.Nat.{◌-◌}
use lib.ListN.{length}
use Rattle.receiver.specs.InStride.{Joins}
use Rattle.receiver.proofs.stride.past_middles.Given as goal

abbrev pub invariant-loop-h : goal.invariant-loop-h
invariant-loop-h l = (length l.room ≡ length l.initial.room) × Joins (length l.initial.room) l.tp l.content l.start l.first l.initial.room l.at l.len l.room

abbrev pub decreases-loop-h : goal.decreases-loop-h
decreases-loop-h l = length l.tp - l.at
