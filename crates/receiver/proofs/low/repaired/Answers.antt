-- `receiver::low::repaired` meets its contract: a total for a packet alone.
-- Assumes nothing.
use mathlib.Core.Path.{sym, ◌∙◌}
use mathlib.Core.Logic.{inl, inr}
use Rattle.receiver.proofs.low.repaired.Goals as goal

pub returns-in-Complete : goal.returns-in-Complete
returns-in-Complete c = simp (sym c.kind_of.ensures ∙ c.in-Complete.is)

pub returns-in-Fill : goal.returns-in-Fill
returns-in-Fill c =
    let e = sym c.kind_of.ensures in
    elim c.in-Fill.is [
      | inl x ↦ simp (e ∙ x)
      | inr y ↦ elim y [
        | inl x ↦ simp (e ∙ x)
        | inr y ↦ elim y [
          | inl x ↦ simp (e ∙ x)
          | inr y ↦ elim y [
            | inl x ↦ simp (e ∙ x)
            | inr x ↦ simp (e ∙ x)
          ]
        ]
      ]
    ]
