-- `receiver::under_way` meets its contract: a header or an EP.
-- Assumes nothing.
use mathlib.Core.Logic.{inl, inr}
use borrow.Author.Tests.{ne_eqb}
use Rattle.receiver.proofs.under_way.Goals as goal

pub returns-else-have-eq0 : goal.returns-else-have-eq0
returns-else-have-eq0 c = simp (c.in-Head.is, ne_eqb _ _ c.if-have-eq0.false)

pub returns-in-Judged : goal.returns-in-Judged
returns-in-Judged c =
    elim c.in-Judged.is [
      | inl j ↦ simp j.1
      | inr b ↦ simp b.2
    ]
