-- `sender::offer_ordinary` meets its contract: another buffer, a refusal of the checks, or the pieces put. Assumes nothing.
use mathlib.Core.Path.{sym, ◌∙◌}
use Prim.Native.Nat.{◌-◌}
use native.Mathlib.Omega.{arith}
use Rattle.sender.specs.Fields.{state}
use Rattle.sender.proofs.Passing.{passed}
use Rattle.sender.proofs.Offers.{lent_ordinary, fine_is, ordinary_1, ordinary_no, ordinary_put, ordinary_sound}
use Rattle.sender.proofs.offer_ordinary.Goals as goal

pub returns-then-not-is_lent : goal.returns-then-not-is_lent
returns-then-not-is_lent c =
    let v = state c.s.inside in
    let a = c.args in
    record { ordinary_after = rw (← c.s.view_is) (ordinary_1 v a.low.now a.ordinary.now a.content a.sp.now (sym c.is_lent.ensures ∙ c.if-not-is_lent.true)); sound_answer = tt }

pub returns-in_err-judged : goal.returns-in_err-judged
returns-in_err-judged c =
    let v = state c.s.inside in
    let a = c.args in
    let r = passed _ _ c.from_residual.ensures.1 in
    let o = ordinary_no v a.low.now a.ordinary.now a.content a.sp.now (sym c.is_lent.ensures ∙ c.if-not-is_lent.false) _ (sym c.judged.ensures ∙ c.in_err-judged.was) in
    record { ordinary_after = rw (← c.s.view_is, r) o; sound_answer = rw r tt }

pub put_sp-t-requires : goal.put_sp-t-requires
put_sp-t-requires c =
    let v = state c.s.inside in
    let a = c.args in
    let w = c.s.invariant in
    let e = lent_ordinary _ _ _ (sym c.is_lent.ensures ∙ c.if-not-is_lent.false) in
    let f = fine_is a.content a.sp.now 131072 v.setting.piece (v.setting.space - v.ordinary.len) (sym c.judged.ensures ∙ c.in_ok-judged.was) in
    let wh = c.s.invariant.head in
    let wl = c.s.invariant.len in
    let n = f.1.1 in
    record { kept = record { head = omega arith; len = omega arith }; le_piece = (w.piece_least, (w.piece_most, f.0)); sp_in_bounds = omega arith }

pub invariant_of-result : goal.invariant_of-result
invariant_of-result c =
    let v = state c.s.inside in
    let a = c.args in
    let f = fine_is a.content a.sp.now 131072 v.setting.piece (v.setting.space - v.ordinary.len) (sym c.judged.ensures ∙ c.in_ok-judged.was) in
    let u = c.put_sp-t.ensures in
    ordinary_sound v a.low.now a.ordinary.now a.content a.sp.now _ _ c.s.invariant f.1.1 u

pub returns : goal.returns
returns c =
    let v = state c.s.inside in
    let a = c.args in
    let f = fine_is a.content a.sp.now 131072 v.setting.piece (v.setting.space - v.ordinary.len) (sym c.judged.ensures ∙ c.in_ok-judged.was) in
    let u = c.put_sp-t.ensures in
    record { ordinary_after = rw (← c.s.view_is) (ordinary_put v a.low.now a.ordinary.now a.content a.sp.now (sym c.is_lent.ensures ∙ c.if-not-is_lent.false) _ _ f.0 f.1.0 f.1.1 u); sound_answer = ordinary_sound v a.low.now a.ordinary.now a.content a.sp.now _ _ c.s.invariant f.1.1 u }
