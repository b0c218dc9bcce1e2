-- `receiver::swift::count_in` meets its contract.
-- Assumes nothing.
use Rattle.receiver.proofs.OnWords.{count_first, count_later}
use Rattle.receiver.proofs.swift.count_in.Goals as goal

pub returns-then-w-eq0 : goal.returns-then-w-eq0
returns-then-w-eq0 c = count_first c.args.w.now _ c.if-w-eq0.true c.counted.ensures

pub returns : goal.returns
returns c = count_later c.args.w.now c.if-w-eq0.false
