-- The digest stays below its modulus. Assumes nothing.
use Rattle.std.proofs.Common.{◌<◌}
use Rattle.words.proofs.answers.digest_of.Given as goal

abbrev pub invariant-loop-i : goal.invariant-loop-i
invariant-loop-i g l = l.digest < 4294967291
