-- `receiver::track::is_fill` meets its contract: an intact fill header that takes all of the TP.
-- Assumes nothing.
use mathlib.Core.Path.{sym, ◌∙◌}
use native.Mathlib.Omega.{arith}
use Rattle.receiver.proofs.TrackOver.{filled_if}
use Rattle.receiver.proofs.track.is_fill.Goals as goal

pub overflow_cast-tp : goal.overflow_cast-tp
overflow_cast-tp c = omega (arith, c.type_inv.tp 0)

pub returns : goal.returns
returns c = rw (c.from_three.ensures, c.encode.ensures) (filled_if c.args.r c.args.tp.now c.requires c.if-tp-r.false c.if-tp-r-2.false (sym c.six.ensures ∙ c.if-six-ne0.false) c.if-tp-gt4095.false (λ i. omega (arith, c.type_inv.tp i)))
