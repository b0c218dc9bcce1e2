-- `ordinary::padded_part` meets its contract, by the law `owned`. Assumes nothing.
use native.Mathlib.Omega.{arith}
use Rattle.sender.proofs.Stream.{owned, owed_few}
use Rattle.sender.proofs.ordinary.padded_part.Goals as goal

pub overflow_add-result : goal.overflow_add-result
overflow_add-result c =
    let m = owed_few _ _ c.fill_part-more.ensures.value in
    let o = c.requires.at_in_bounds.2 in
    omega arith

pub returns : goal.returns
returns c =
    let a = c.args in
    owned a.buf.now a.q _ a.owed a.tp.now _ _ _ a.at _ _ _ c.requires.kept c.requires.at_in_bounds.0 c.min-k.ensures c.fill_at.ensures c.min-n.ensures c.pop_into-t.ensures c.fill_part-more.ensures.dst_after c.fill_part-more.ensures.value
