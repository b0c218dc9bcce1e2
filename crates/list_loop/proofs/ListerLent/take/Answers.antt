-- `Lister::take`: the records of a block are taken, and no more TPs are new than bytes were taken.
-- Assumes nothing.
use mathlib.Core.Path.{refl}
use native.Mathlib.Omega.{arith}
use lib.ListN.{length-drop}
use Rattle.list_loop.proofs.Rounds.{went, listed_whole}
use Rattle.list_loop.proofs.ListerLent.take.Goals as goal

pub returns-clause-whole : goal.returns-clause-whole
returns-clause-whole c = listed_whole refl c.turns-self.ensures.listed

pub returns-clause-behind : goal.returns-clause-behind
returns-clause-behind c = λ begun n b. (
    let a = c.turns-self.ensures.ahead in
    let left = length-drop c.turns-self.result.from c.args.unread.now in
    record {
      ready = record { able = a.able; placed = a.placed; ten = a.ten; room = omega (arith, b.ready.room) };
      count = omega (arith, a.count, a.end, b.count);
      went = went b.comes c.turns-self.ensures.listed;
    })
