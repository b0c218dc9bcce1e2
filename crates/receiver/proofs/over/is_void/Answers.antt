-- `receiver::over::is_void` meets its contract.
-- Assumes nothing.
use mathlib.Core.Path.{sym, ◌∙◌}
use Rattle.receiver.proofs.PassingOver.{fill_void, startless_void}
use Rattle.receiver.proofs.over.is_void.Goals as goal

pub returns-then-six-eq0 : goal.returns-then-six-eq0
returns-then-six-eq0 c =
    let a = c.args in
    fill_void c.is_fill.result a.phase a.tp.now (sym c.six.ensures ∙ c.if-six-eq0.true) c.is_fill.ensures

pub returns : goal.returns
returns c =
    let a = c.args in
    startless_void c.is_startless.result a.phase a.tp.now c.is_startless.ensures
