-- `unpacking::put_packet` meets its contract.
-- Assumes nothing.
use mathlib.Core.Path.{sym, ◌∙◌}
use native.Mathlib.Omega.{arith}
use Rattle.unpacking.proofs.Laws.{passed_over, past_the_end, left_out, ends, put_whole}
use Rattle.unpacking.proofs.put_packet.Goals as goal

pub returns-then-not-is_chapter11 : goal.returns-then-not-is_chapter11
returns-then-not-is_chapter11 c =
    let a = c.args in
    passed_over a.find a.sp.now a.out.now a.at (sym c.is_chapter11.ensures ∙ c.if-not-is_chapter11.true)

pub returns-then-out-at : goal.returns-then-out-at
returns-then-out-at c =
    let a = c.args in
    past_the_end a.find a.sp.now a.out.now a.at (sym c.is_chapter11.ensures ∙ c.if-not-is_chapter11.false) c.if-out-at.true

pub overflow_add-result : goal.overflow_add-result
overflow_add-result c =
    let a = c.args in
    omega (arith, ends a.find a.sp.now a.out.now a.at (sym c.is_chapter11.ensures ∙ c.if-not-is_chapter11.false) c.if-out-at.false _ _ _ c.reassemble.ensures c.in-Ok.is)

pub returns-in-Err : goal.returns-in-Err
returns-in-Err c =
    let a = c.args in
    left_out a.find a.sp.now a.out.now a.at (sym c.is_chapter11.ensures ∙ c.if-not-is_chapter11.false) c.if-out-at.false _ _ _ c.reassemble.ensures c.in-Err.is

pub returns-in-Ok : goal.returns-in-Ok
returns-in-Ok c =
    let a = c.args in
    put_whole a.find a.sp.now a.out.now a.at (sym c.is_chapter11.ensures ∙ c.if-not-is_chapter11.false) c.if-out-at.false _ _ _ c.reassemble.ensures c.in-Ok.is
