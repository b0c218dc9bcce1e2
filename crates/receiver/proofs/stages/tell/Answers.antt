-- `receiver::stages::tell` meets its contract: what the ordinary bytes gave.
-- Assumes nothing.
use Rattle.receiver.proofs.stages.tell.Goals as goal

pub returns-in-Nothing : goal.returns-in-Nothing
returns-in-Nothing c = simp (c.in-Nothing.is, c.step_with.ensures, c.start.ensures)

pub returns-in-Notice : goal.returns-in-Notice
returns-in-Notice c = simp (c.in-Notice.is, c.step_with-in-Notice.ensures)

pub returns-in-Packet : goal.returns-in-Packet
returns-in-Packet c = simp (c.in-Packet.is, c.step_with-in-Packet.ensures)
