-- `Lister::empty`: emptied, the program goes on with what was read behind.
-- Assumes nothing.
use native.Mathlib.Omega.{arith}
use lib.ListN.{length-append}
use Rattle.list_loop.proofs.Rounds.{comes}
use Rattle.list_loop.proofs.ListerLent.empty.Goals as goal

pub returns : goal.returns
returns c = λ begun lent n m rest more left size b. (
    let both = length-append rest more in
    record {
      ready = record { able = b.ready.able; placed = b.ready.placed; ten = b.ready.ten; room = b.ready.room };
      size = omega arith;
      count = omega (arith, b.count);
      comes = comes c.args.self.now.run lent.room lent.out rest more b.went;
    })
