-- `reading::low_at` meets its contract: fewer than six bytes, or by the header's two words. Assumes nothing.
use mathlib.Core.Path.{refl, ap, ◌∙◌}
use native.Mathlib.Omega.{arith}
use Rattle.queue.specs.Ring.{held}
use Rattle.queue.proofs.Puts.{length_held}
use Rattle.sender.specs.Drawing.{low_at}
use Rattle.sender.specs.Steps.{found}
use Rattle.sender.proofs.Heads.{low_few}
use Rattle.sender.proofs.reading.low_at.Goals as goal

pub returns-then-q-lt6 : goal.returns-then-q-lt6
returns-then-q-lt6 c =
    let a = c.args in
    let l = length_held a.buf.now a.q c.requires.kept in
    ap found (low_few a.payload (held a.buf.now a.q) (omega arith))

pub returns : goal.returns
unfolding low_at
returns c =
    let a = c.args in
    let l = length_held a.buf.now a.q c.requires.kept in
    c.low_in.ensures ∙ rw (c.words_at.ensures.0, l) refl
