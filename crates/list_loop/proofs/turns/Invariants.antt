-- `list_loop::turns` holds the lines of the records taken, and ends: each record that is turned moves on in the input block or fills the output
-- block, and the TPs taken in tracks before it give nothing back.
-- Assumes nothing.
use Prim.Native.Nat.{◌+◌, ◌-◌}
use Rattle.list_loop.specs.Running.{Ahead, Listed}
use Rattle.list_loop.proofs.turns.Given as goal

abbrev pub invariant-loop-run : goal.invariant-loop-run
invariant-loop-run l = record { ahead : Ahead l.initial.run l.till l.run; listed : Listed l.till l.block l.initial.run l.initial.room l.initial.out l.run l.room l.out }

abbrev pub decreases-loop-run : goal.decreases-loop-run
decreases-loop-run l = (l.till - l.run.from) + (61440 - l.run.at)
