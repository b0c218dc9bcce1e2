-- `receiver::over::is_data` meets its contract.
-- Assumes nothing.
use mathlib.Core.Path.{sym, ◌∙◌}
use native.Mathlib.Omega.{arith}
use Rattle.receiver.proofs.PassingOver.{data_if}
use Rattle.receiver.proofs.over.is_data.Goals as goal

pub returns : goal.returns
returns c =
    let a = c.args in
    let asked = c.says_no_start in
    let said = rw c.tp_word.ensures at (sym asked.ensures ∙ c.if-not-says_no_start.false) in
    data_if a.r a.tp.now a.room _ _ _ _ _ _ c.requires (λ i. omega (arith, c.type_inv.tp i)) (omega (arith, c.if-tp-lt10.false)) c.in-Body.is
    c.in-Some.is (omega (arith, c.if-left-tp.false)) said c.in-Fresh.is c.if-tp-r.false c.if-room-r.false c.if-first-r.false
