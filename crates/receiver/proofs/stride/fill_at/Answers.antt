-- `receiver::stride::fill_at` meets its contract.
-- Assumes nothing.
use native.Mathlib.Omega.{arith}
use Rattle.receiver.proofs.Standing.{fill_kind, header_stands, stands_of}
use Rattle.receiver.proofs.stride.fill_at.Goals as goal

pub returns : goal.returns
returns c =
    let a = c.args in
    let header = header_stands a.tp.now a.at _ _ c.if-rest-lt6.false c.six.ensures c.read_intact.ensures in
    let s = stands_of _ _ _ _ header c.in_ok-h.was in
    (record { stands = s; kind = fill_kind _ c.if-h-ne0.false }, omega (arith, s.six, c.if-rest-h.false))
