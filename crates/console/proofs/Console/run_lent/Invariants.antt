-- `Console::run_lent`: what the program asks before the bytes that are unread holds in each round, of the program that the loop began with, and with
-- as many blocks as are left.
-- Assumes nothing.
use Prim.Native.Nat.{◌-◌, ◌*◌, ◌≤◌}
use mathlib.Core.Path.{◌≡◌}
use lib.ListN.{length}
use Rattle.console.specs.Taking.{stretch}
use Rattle.console.specs.declared.TheConstants.{BLOCKS, SIZE}
use Rattle.console.proofs.Console.run_lent.Given as goal

abbrev pub invariant-loop : goal.invariant-loop
invariant-loop g l = record {
  from : l.unread.from ≤ l.unread.till;
  till : l.unread.till ≤ SIZE;
  size : length l.block ≡ SIZE;
  before : g.P.Lent.Before l.initial.program l.program l.buffers ((BLOCKS - l.counter) * SIZE) (stretch l.block l.unread);
}
