-- `calls::receiving::next` keeps the state fine. Assumes nothing.
use Rattle.calls.specs.Running.{Fine}
use Rattle.calls.proofs.receiving.next.Given as goal

abbrev pub invariant-loop : goal.invariant-loop
invariant-loop l = Fine l.s
