-- `receiver::swift::due` meets its contract: from its spot on.
-- Assumes nothing.
use Rattle.receiver.proofs.OnWords.{due_out, due_plain}
use Rattle.receiver.proofs.swift.due.Goals as goal

pub returns-in-Due : goal.returns-in-Due
returns-in-Due c = due_out c.args.lane c.args.tp.now c.args.room.now c.args.spot _ _ c.set_out.result _ c.in-Due.is c.set_out.ensures

pub returns-in-Plain : goal.returns-in-Plain
returns-in-Plain c = due_plain c.args.lane c.args.tp.now c.args.room.now c.args.spot _ c.in-Plain.is
