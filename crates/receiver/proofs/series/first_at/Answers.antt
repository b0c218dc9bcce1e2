-- `receiver::series::first_at` meets its contract: what the header says.
-- Assumes nothing.
use Rattle.receiver.proofs.Serially.{first_kind}
use Rattle.receiver.proofs.Standing.{intact_of, stands_of}
use Rattle.receiver.proofs.series.first_at.Goals as goal

pub returns : goal.returns
returns c =
    let s = stands_of _ _ _ _ c.header_at.ensures c.in_ok-h.was in
    (record { stands = s; kind = first_kind _ c.if-h-lt1.false c.if-h-gt6.false c.if-h-ne1.false }, c.if-h-lt1.false, c.if-most-h.false, intact_of _ _ _ _ c.header_at.ensures c.in_ok-h.was)
