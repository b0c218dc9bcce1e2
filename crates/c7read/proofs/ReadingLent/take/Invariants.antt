-- `Reading::take` takes whole records with a receiver that can be called, and ends: each moves on in the stretch.
-- Assumes nothing.
use Prim.Native.Nat.{◌-◌}
use lib.ListN.{length}
use Rattle.console.specs.Taking.{Whole}
use Rattle.house.specs.declared.Place.TheVariants.{Listing}
use Rattle.receiver.specs.State.{Able}
use Rattle.c7read.proofs.ReadingLent.take.Given as goal

abbrev pub invariant-loop-self : goal.invariant-loop-self
invariant-loop-self l = record { able : Able l.self.receiver; whole : Whole Listing l.unread l.bytes }

abbrev pub decreases-loop-self : goal.decreases-loop-self
decreases-loop-self l = length l.unread - l.bytes
