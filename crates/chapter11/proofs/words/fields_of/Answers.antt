-- The fields are whole if all four words are. Assumes nothing.
use Rattle.std.proofs.Common.{sym, ◌∙◌}
use Rattle.chapter11.proofs.Sources.{beyond_first, beyond_second, beyond_third, beyond_fourth, whole}
use Rattle.chapter11.proofs.words.fields_of.Goals as goal

pub returns-in_err-a : goal.returns-in_err-a
returns-in_err-a c =
    c.from_residual.ensures ∙ beyond_first c.args.sp.now (sym c.in_err-a.was ∙ c.number_at.ensures)

pub returns-in_err-b : goal.returns-in_err-b
returns-in_err-b c =
    c.from_residual-in_err-b.ensures ∙ beyond_second c.args.sp.now _ (sym c.in_ok-a.was ∙ c.number_at.ensures) (sym c.in_err-b.was ∙ c.number_at-2.ensures)

pub returns-in_err-c : goal.returns-in_err-c
returns-in_err-c c =
    c.from_residual-in_err-c.ensures ∙ beyond_third c.args.sp.now _ (sym c.in_ok-a.was ∙ c.number_at.ensures) _ (sym c.in_ok-b.was ∙ c.number_at-2.ensures) (sym c.in_err-c.was ∙ c.number_at-3.ensures)

pub returns-in_err-d : goal.returns-in_err-d
returns-in_err-d c =
    c.from_residual-in_err-d.ensures ∙ beyond_fourth c.args.sp.now _ (sym c.in_ok-a.was ∙ c.number_at.ensures) _ (sym c.in_ok-b.was ∙ c.number_at-2.ensures) _ (sym c.in_ok-c.was ∙ c.number_at-3.ensures) (sym c.in_err-d.was ∙ c.number_at-4.ensures)

pub returns : goal.returns
returns c =
    whole c.args.sp.now _ (sym c.in_ok-a.was ∙ c.number_at.ensures) _ (sym c.in_ok-b.was ∙ c.number_at-2.ensures) _ (sym c.in_ok-c.was ∙ c.number_at-3.ensures) _ _ (sym c.in_ok-d.was ∙ c.number_at-4.ensures) c.fields_from.ensures
