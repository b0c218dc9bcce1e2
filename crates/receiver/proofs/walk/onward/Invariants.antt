-- `receiver::walk::onward` meets its contract: the invariant: the call that the walk still asks for is the one asked for at first. The measure counts bytes, then events.
-- Assumes nothing.
use mathlib.Core.Path.{◌≡◌}
use lib.ListN.{length}
use Rattle.receiver.specs.State.{Sound, pull_of}
use Rattle.receiver.specs.Turns.{toil}
use Rattle.receiver.proofs.walk.onward.Given as goal

abbrev pub invariant-loop-a : goal.invariant-loop-a
invariant-loop-a l = (length l.room ≡ length l.initial.room) × Sound (length l.initial.room) (length l.tp) l.w × (pull_of (length l.initial.room) l.stamp l.w l.tp l.room ≡ pull_of (length l.initial.room) l.stamp l.initial.w l.tp l.initial.room)

abbrev pub decreases-loop-a : goal.decreases-loop-a
decreases-loop-a l = toil (length l.tp) l.w
