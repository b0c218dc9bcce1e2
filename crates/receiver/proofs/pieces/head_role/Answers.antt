-- `receiver::pieces::head_role` meets its contract: by the phase behind a header.
-- Assumes nothing.
use mathlib.Core.Path.{ap, sym}
use mathlib.Core.Logic.{inl, inr}
use Rattle.receiver.specs.Pieces.{head_role}
use Rattle.receiver.proofs.pieces.head_role.Goals as goal

pub returns-in-Judged : goal.returns-in-Judged
returns-in-Judged c =
    elim c.in-Judged.is [
      | inl e ↦ sym (ap head_role e)
      | inr e ↦ sym (ap head_role e.1)
    ]
