-- `receiver::over::is_over` meets its contract.
-- Assumes nothing.
use native.Mathlib.Omega.{arith}
use Rattle.receiver.proofs.PassingOver.{over_if}
use Rattle.receiver.proofs.over.is_over.Goals as goal

pub returns : goal.returns
returns c =
    let a = c.args in
    over_if a.r a.tp.now a.room c.is_void.result c.requires (λ i. omega (arith, c.type_inv.tp i)) (omega (arith, c.if-tp-lt10.false)) c.is_void.ensures (c.if-not-is_void.false)
    c.in-Fresh.is c.in-None.is c.if-tp-r.false c.if-room-r.false c.if-b-r.false
