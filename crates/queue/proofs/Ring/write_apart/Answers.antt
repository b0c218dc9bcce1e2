-- One write after the other. Assumes nothing.
use mathlib.Core.Path.{◌≡◌}
use lib.ListN.{length}
use Rattle.queue.proofs.Puts.{write_both}
use borrow.Author.Rules.{rules}
use Rattle.queue.proofs.Ring.write_apart.Goals as goal

pub returns : goal.returns
returns c =
    let a = c.args in
    let l : length a.h ≡ 6 = search rules in
    write_both a.buf.now a.h a.body.now a.self c.requires.kept l c.requires.body_in_bounds _ _ c.write.ensures c.write-2.ensures
