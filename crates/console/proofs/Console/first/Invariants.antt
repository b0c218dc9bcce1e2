-- `console::first` meets its contract: each turn reads on, and the stretch begins at the block's start. The measure is what is left of the block.
-- Assumes nothing.
use Prim.Native.Nat.{◌-◌, ◌≤◌}
use mathlib.Core.Path.{◌≡◌}
use lib.ListN.{length}
use Rattle.console.proofs.Console.first.Given as goal

abbrev pub invariant-loop-unread : goal.invariant-loop-unread
invariant-loop-unread l = record { starts : l.unread.from ≡ 0; within : l.unread.till ≤ length l.block; same : length l.block ≡ length l.initial.block }

abbrev pub decreases-loop-unread : goal.decreases-loop-unread
decreases-loop-unread l = length l.initial.block - l.unread.till
