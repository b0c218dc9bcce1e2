-- `sender::draw` meets its contract: another buffer, fill alone, or what `filled` ensures. Assumes nothing.
use mathlib.Core.Path.{sym, subst, ◌∙◌}
use native.Mathlib.Omega.{arith}
use lib.ListN.{length}
use Rattle.queue.specs.Ring.{held}
use Rattle.queue.proofs.Puts.{length_held}
use Rattle.sender.specs.declared.Sender.{Sender}
use Rattle.sender.specs.Answers.{done}
use Rattle.sender.specs.Fields.{state}
use Rattle.sender.specs.Steps.{DrawnOver}
use Rattle.sender.proofs.Heads.{over_none, can_draw}
use Rattle.sender.proofs.Offers.{lent_low, lent_ordinary}
use Rattle.sender.proofs.Drawn.{kept_low, draw_1, draw_done}
use Rattle.sender.proofs.draw.Goals as goal

pub returns-then-not-is_lent : goal.returns-then-not-is_lent
returns-then-not-is_lent c =
    let a = c.args in
    record { tp_after = rw (← c.s.view_is) (draw_1 (state c.s.inside) a.low.now a.ordinary.now a.tp.now (sym c.is_lent.ensures ∙ c.if-not-is_lent.true)); sound_answer = tt }

pub only_fill-requires : goal.only_fill-requires
only_fill-requires c = rw (← c.s.view_is) (c.if-s-eq0.true, c.if-tp-g.true)

pub returns-then-tp-g : goal.returns-then-tp-g
returns-then-tp-g c =
    let a = c.args in
    let v = state c.s.inside in
    let e = sym c.is_lent.ensures ∙ c.if-not-is_lent.false in
    let el = lent_low _ _ _ e in
    let eo = lent_ordinary _ _ _ e in
    let z = c.if-s-eq0.true in
    let k = kept_low v c.s.invariant a.low.now el in
    let none = sym (over_none v.setting.payload (held a.low.now v.low) (omega (arith, length_held a.low.now v.low k))) in
    let d = can_draw v.setting.payload (held a.low.now v.low) (length a.tp.now) none c.if-tp-g.true in
    let o = subst (λ (s : Sender). DrawnOver s (record { given = done c.only_fill.result; buffer = c.only_fill.new.tp })) (sym c.s.view_is) c.only_fill.ensures.drawn_over in
    record { tp_after = rw (← c.s.view_is) (draw_done v a.low.now a.ordinary.now a.tp.now e _ d (o a.low.now a.ordinary.now el eo)); sound_answer = c.only_fill.ensures.sound_2 }

pub filled-requires : goal.filled-requires
filled-requires c =
    let e = sym c.is_lent.ensures ∙ c.if-not-is_lent.false in
    rw (← c.s.view_is) (lent_low _ _ _ e, lent_ordinary _ _ _ e)

pub returns : goal.returns
returns c = c.filled.ensures
