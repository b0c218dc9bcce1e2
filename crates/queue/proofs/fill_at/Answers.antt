-- A part of a list of v's, pasted over. Assumes nothing.
use Rattle.queue.proofs.Takes.{part_filled}
use Rattle.queue.proofs.fill_at.Goals as goal

pub returns : goal.returns
returns c =
    let a = c.args in
    part_filled a.dst.now _ a.at a.n a.v _ c.if-dst-at.false c.clamped.ensures (c.fill.ensures.after (λ y e. e))
