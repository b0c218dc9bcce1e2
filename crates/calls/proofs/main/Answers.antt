-- `calls::main` is safe: each buffer has its length.
-- Assumes nothing.
use Rattle.calls.proofs.Zeros.{counted}
use Rattle.calls.proofs.main.Goals as goal

pub slice_bounds-turns-end : goal.slice_bounds-turns-end
slice_bounds-turns-end c = counted 1048580

pub slice_bounds-turns-end-2 : goal.slice_bounds-turns-end-2
slice_bounds-turns-end-2 c = counted 1048580
