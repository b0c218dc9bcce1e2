-- `Sending::turns` holds what the records taken write, and ends: each record moves on in the stretch.
-- Assumes nothing.
use Prim.Native.Nat.{◌-◌}
use lib.ListN.{length, drop}
use Rattle.console.specs.Taking.{Whole}
use Rattle.house.specs.declared.Place.TheVariants as P
use Rattle.send_loop.specs.Running.{Ready, Sent}
use Rattle.send_loop.proofs.Sending.turns.Given as goal

abbrev pub invariant-loop-self : goal.invariant-loop-self
invariant-loop-self l = record { ready : Ready l.self l.buffers; whole : Whole P.Sending l.unread l.bytes; sent : Sent l.initial.self l.initial.buffers l.unread l.self l.buffers (drop l.bytes l.unread) }

abbrev pub decreases-loop-self : goal.decreases-loop-self
decreases-loop-self l = length l.unread - l.bytes
