-- Each call has one flip less. Assumes nothing.
use Rattle.vectors.proofs.flips.Tally.+up_to.Given as goal

abbrev pub decreases-up_to : goal.decreases-up_to
decreases-up_to l = l.flips
