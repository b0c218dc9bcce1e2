-- `Packing::take` takes whole records, and ends: each moves on in the stretch.
-- Assumes nothing.
use Prim.Native.Nat.{◌-◌}
use lib.ListN.{length}
use Rattle.console.specs.Taking.{Whole}
use Rattle.house.specs.declared.Place.TheVariants.{Sending}
use Rattle.pack_loop.proofs.PackingLent.take.Given as goal

abbrev pub invariant-loop-self : goal.invariant-loop-self
invariant-loop-self l = Whole Sending l.unread l.bytes

abbrev pub decreases-loop-self : goal.decreases-loop-self
decreases-loop-self l = length l.unread - l.bytes
