-- `sender::offer_low` meets its contract: another buffer, a refusal of the checks, or one EP put. Assumes nothing.
use mathlib.Core.Path.{refl, sym, ap, ◌∙◌}
use Prim.Native.Nat.{◌-◌}
use native.Mathlib.Omega.{arith}
use lib.ListN.{length}
use Rattle.wire.proofs.Laws.{ep_length}
use Rattle.sender.proofs.Puts.{put_as}
use Rattle.sender.proofs.Pieces.{one_piece}
use Rattle.sender.specs.Fields.{state}
use Rattle.sender.proofs.Passing.{passed}
use Rattle.sender.proofs.Offers.{lent_low, fine_is, low_1, low_no, low_put, low_sound}
use Rattle.sender.proofs.offer_low.Goals as goal

pub returns-then-not-is_lent : goal.returns-then-not-is_lent
returns-then-not-is_lent c =
    let v = state c.s.inside in
    let a = c.args in
    record { low_after = rw (← c.s.view_is) (low_1 v a.low.now a.ordinary.now a.content a.sp.now (sym c.is_lent.ensures ∙ c.if-not-is_lent.true)); sound_answer = tt }

pub returns-in_err-judged : goal.returns-in_err-judged
returns-in_err-judged c =
    let v = state c.s.inside in
    let a = c.args in
    let w = c.s.invariant in
    let p = c.s.invariant.payload_least in
    let r = passed _ _ c.from_residual.ensures.1 in
    let o = low_no v a.low.now a.ordinary.now a.content a.sp.now (sym c.is_lent.ensures ∙ c.if-not-is_lent.false) _ (omega arith) w.payload_most (sym c.judged.ensures ∙ c.in_err-judged.was) in
    record { low_after = rw (← c.s.view_is, r) o; sound_answer = rw r tt }

pub short_header-h-requires : goal.short_header-h-requires
short_header-h-requires c =
    let v = state c.s.inside in
    let a = c.args in
    let w = c.s.invariant in
    let f = fine_is a.content a.sp.now (v.setting.payload - 7) 65535 (v.setting.lowspace - v.low.len) (sym c.judged.ensures ∙ c.in_ok-judged.was) in
    let wq = c.s.invariant.payload_most in
    let m = f.1.0 in
    (f.0, omega arith)

pub put_ep-t-requires : goal.put_ep-t-requires
put_ep-t-requires c =
    let v = state c.s.inside in
    let a = c.args in
    let w = c.s.invariant in
    let e = lent_low _ _ _ (sym c.is_lent.ensures ∙ c.if-not-is_lent.false) in
    let f = fine_is a.content a.sp.now (v.setting.payload - 7) 65535 (v.setting.lowspace - v.low.len) (sym c.judged.ensures ∙ c.in_ok-judged.was) in
    let wp = c.s.invariant.payload_least in
    let wq = c.s.invariant.payload_most in
    let m = f.1.0 in
    let n = f.1.1 in
    let o = ap length (one_piece 65535 a.content a.sp.now (omega arith)) ∙ ep_length a.content 0 a.sp.now in
    let wh = c.s.invariant.head_of_low in
    let wl = c.s.invariant.low_len in
    record { kept = record { head = omega arith; len = omega arith }; body_in_bounds = omega arith }

pub invariant_of-result : goal.invariant_of-result
invariant_of-result c =
    let v = state c.s.inside in
    let a = c.args in
    let w = c.s.invariant in
    let f = fine_is a.content a.sp.now (v.setting.payload - 7) 65535 (v.setting.lowspace - v.low.len) (sym c.judged.ensures ∙ c.in_ok-judged.was) in
    let wp = c.s.invariant.payload_least in
    let wq = c.s.invariant.payload_most in
    let m = f.1.0 in
    let n = f.1.1 in
    let o = ap length (one_piece 65535 a.content a.sp.now (omega arith)) ∙ ep_length a.content 0 a.sp.now in
    let u = put_as a.low.now v.low a.content 0 (length a.sp.now) _ _ _ c.short_header-h.ensures refl c.put_ep-t.ensures in
    low_sound v a.low.now a.ordinary.now a.content a.sp.now _ _ w (omega arith) u

pub returns : goal.returns
returns c =
    let v = state c.s.inside in
    let a = c.args in
    let w = c.s.invariant in
    let f = fine_is a.content a.sp.now (v.setting.payload - 7) 65535 (v.setting.lowspace - v.low.len) (sym c.judged.ensures ∙ c.in_ok-judged.was) in
    let wp = c.s.invariant.payload_least in
    let wq = c.s.invariant.payload_most in
    let m = f.1.0 in
    let n = f.1.1 in
    let o = ap length (one_piece 65535 a.content a.sp.now (omega arith)) ∙ ep_length a.content 0 a.sp.now in
    let u = put_as a.low.now v.low a.content 0 (length a.sp.now) _ _ _ c.short_header-h.ensures refl c.put_ep-t.ensures in
    record { low_after = rw (← c.s.view_is) (low_put v a.low.now a.ordinary.now a.content a.sp.now (sym c.is_lent.ensures ∙ c.if-not-is_lent.false) _ _ f.0 (omega arith) (omega arith) u); sound_answer = low_sound v a.low.now a.ordinary.now a.content a.sp.now _ _ w (omega arith) u }
