-- `calls::digest::digest` meets its contract. The invariant: what is left to digest, from here, gives the digest of all.
-- Assumes nothing.
use Rattle.std.proofs.Common.{◌≡◌, ◌<◌, drop}
use Rattle.calls.specs.Digest.{digest}
use Rattle.calls.proofs.digest.digest.Given as goal

abbrev pub invariant-loop-x : goal.invariant-loop-x
invariant-loop-x l = (l.d < 4294967291) × (digest l.d (drop l.x-index l.s) ≡ digest 0 l.s)
