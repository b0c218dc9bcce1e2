-- `calls::turns` keeps the state fine. Assumes nothing.
use Rattle.calls.specs.Running.{Fine}
use Rattle.calls.proofs.turns.Given as goal

abbrev pub invariant-loop : goal.invariant-loop
invariant-loop l = Fine l.s
