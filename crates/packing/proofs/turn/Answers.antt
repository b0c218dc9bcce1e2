-- `packing::turn` meets its contract.
-- Assumes nothing.
use mathlib.Core.Path.{sym, ◌∙◌}
use borrow.Author.Tests.{not-true, not-false}
use native.Mathlib.Omega.{arith}
use lib.ListN.{length}
use Rattle.chapter11.specs.Source.{composed_of}
use Rattle.chapter11.proofs.Outcomes.{done, front_fits, refused}
use Rattle.packing.proofs.Laws.{as_it_is, left_out, put_composed}
use borrow.Author.Rules.{rules}
use Rattle.packing.proofs.turn.Goals as goal

pub returns-then-not-is_chapter11 : goal.returns-then-not-is_chapter11
returns-then-not-is_chapter11 c =
    let a = c.args in
    as_it_is a.said a.data.now a.sp.now a.out.now a.at _ _ (sym c.is_chapter11.ensures ∙ c.if-not-is_chapter11.true) c.put_record.ensures

pub slice_bounds-put_record-end : goal.slice_bounds-put_record-end
slice_bounds-put_record-end c =
    let a = c.args in
    omega (arith, front_fits (done a.sp.now _ _ _ (composed_of a.data.now (length a.sp.now)) c.compose.ensures c.in-Ok.is))

pub returns-in-Err : goal.returns-in-Err
returns-in-Err c =
    let a = c.args in
    left_out a.said a.data.now a.sp.now a.out.now a.at _ _ (sym c.is_chapter11.ensures ∙ c.if-not-is_chapter11.false) (refused a.sp.now _ _ _ (composed_of a.data.now (length a.sp.now)) c.compose.ensures c.in-Err.is)

pub returns-in-Ok : goal.returns-in-Ok
returns-in-Ok c =
    let a = c.args in
    put_composed a.said a.data.now a.sp.now a.out.now a.at _ _ _ _ _ (sym c.is_chapter11.ensures ∙ c.if-not-is_chapter11.false) (done a.sp.now _ _ _ (composed_of a.data.now (length a.sp.now)) c.compose.ensures c.in-Ok.is) c.of_length.ensures c.put_record-in-Ok.ensures
