-- `golay::decode` meets its contract: a word of syndrome 0 is intact; of any other the bits that differ from the code word that
-- it is mended to are the flips. Assumes nothing.
use mathlib.Core.Path.{sym, ◌∙◌}
use Rattle.golay.specs.Answers.{Mends}
use Rattle.golay.proofs.Decoder.{intact}
use Rattle.golay.proofs.decode.Goals as goal

pub returns-then-s-eq0 : goal.returns-then-s-eq0
returns-then-s-eq0 c = intact c.args.w (sym c.syndrome_of-s.ensures ∙ c.if-s-eq0.true)

pub returns-in_err-number : goal.returns-in_err-number
unfolding Mends
returns-in_err-number c = rw c.from_residual.ensures c.in_err-number.ensures

pub returns : goal.returns
unfolding Mends
returns c = rw c.places_to.ensures c.in_ok-number.ensures
