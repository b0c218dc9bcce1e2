-- `reading::size_in` meets its contract: it is the definition. Assumes nothing.
use mathlib.Core.Path.{refl}
use native.Mathlib.Omega.{arith}
use Rattle.sender.specs.Drawing.{size_in}
use Rattle.sender.proofs.reading.size_in.Goals as goal

pub returns : goal.returns
unfolding size_in
returns c = (refl, omega arith)
