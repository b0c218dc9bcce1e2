-- `receiver::stages::low_walk` meets its contract: without a low-latency part, its end is its place.
-- Assumes nothing.
use Rattle.receiver.proofs.stages.low_walk.Goals as goal

pub returns-then-low : goal.returns-then-low
returns-then-low c = simp (c.if-low.true, c.walk.ensures)

pub returns : goal.returns
returns c = simp c.if-low.false
