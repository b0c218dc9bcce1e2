-- `receiver::swift::ahead` meets its contract: among ordinary bytes.
-- Assumes nothing.
use Rattle.receiver.proofs.OnWords.{on_reads}
use Rattle.receiver.proofs.swift.ahead.Goals as goal

pub returns : goal.returns
returns c = on_reads c.args.count c.args.tp.now c.args.room.now _ c.args.met c.look_ahead.result _ c.in-Reads.is (rw c.own.ensures at c.look_ahead.ensures)
