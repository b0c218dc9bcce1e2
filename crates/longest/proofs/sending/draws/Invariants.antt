-- `longest::sending::draws` keeps the sender sound. Assumes nothing.
use Rattle.sender.specs.Opening.{Sound}
use Rattle.longest.proofs.sending.draws.Given as goal

abbrev pub invariant-loop : goal.invariant-loop
invariant-loop l = Sound l.run.sender
