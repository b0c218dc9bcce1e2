-- Each EP lies within the queue. Assumes nothing.
use Rattle.std.proofs.Common.{◌-◌, ◌≤◌, length}
use Rattle.lengths.proofs.queued.print_eps.Given as goal

abbrev pub invariant-loop-ep : goal.invariant-loop-ep
invariant-loop-ep l = l.at ≤ length l.queue

abbrev pub decreases-loop-ep : goal.decreases-loop-ep
decreases-loop-ep l = length l.queue - l.at
