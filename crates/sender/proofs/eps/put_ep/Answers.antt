-- `eps::put_ep` meets its contract: there is room for what is put. Assumes nothing.
use mathlib.Core.Path.{◌≡◌}
use mathlib.Core.List.{◌++◌}
use native.Mathlib.Omega.{arith}
use lib.ListN.{length, length-append}
use Rattle.sender.proofs.Puts.{is_put}
use borrow.Author.Rules.{rules}
use Rattle.sender.proofs.eps.put_ep.Goals as goal

pub returns : goal.returns
returns c =
    let a = c.args in
    let l : length a.h ≡ 6 = search rules in
    is_put a.buf.now a.q c.requires.kept (a.h ++ a.body.now) _ (omega (arith, length-append a.h a.body.now, c.requires.body_in_bounds.0)) c.push.ensures
