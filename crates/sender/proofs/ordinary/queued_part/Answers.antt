-- `ordinary::queued_part` meets its contract, by the law `owned` with nothing lacking. Assumes nothing.
use Rattle.sender.proofs.Stream.{owned_queued}
use borrow.Author.Rules.{rules}
use Rattle.sender.proofs.ordinary.queued_part.Goals as goal

pub returns : goal.returns
returns c =
    let a = c.args in
    owned_queued a.buf.now a.q _ a.owed a.tp.now _ _ a.at c.requires.kept c.requires.at_in_bounds.0 c.requires.at_in_bounds.2 c.requires.at_in_bounds.3 c.fill_at.ensures c.pop_into-t.ensures (search rules)
