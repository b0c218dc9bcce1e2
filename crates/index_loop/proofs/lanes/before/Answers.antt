-- `index_loop::lanes::before` meets its contract: before a TP a receiver in a tidy lane can be called.
-- Assumes nothing.
use native.Mathlib.Omega.{arith}
use Rattle.receiver.specs.declared.Stage.TheVariants.{Fresh}
use Rattle.receiver.proofs.Laning.{lane_able}
use Rattle.index_loop.proofs.lanes.before.Goals as goal

pub run_of-requires : goal.run_of-requires
run_of-requires c = record { tidy = c.requires.1; able = lane_able c.args.base c.args.count c.args.lane Fresh 0 c.requires.0.size c.requires.1 (omega arith) (omega arith) }
