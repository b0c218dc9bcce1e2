-- `jenugathi::receiving::c7_receiver_next` meets its contract.
-- Assumes nothing.
use mathlib.Core.Path.{refl, sym, ◌∙◌}
use Rattle.jenugathi.proofs.Receives.{unfit}
use Rattle.jenugathi.proofs.receiving.c7_receiver_next.Goals as goal

pub call-requires : goal.call-requires
call-requires c = sym c.can_be_called.ensures ∙ c.if-can_be_called.true

pub returns : goal.returns
returns c =
    let a = c.args in
    unfit a.w.now a.tp.now a.room.now _ _ c.can_be_called.ensures c.if-can_be_called.false refl
