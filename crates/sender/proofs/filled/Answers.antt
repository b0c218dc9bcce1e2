-- `sender::filled` meets its contract: each refusal, or a TP by the laws `finished` and `still_sound`. Assumes nothing.
use mathlib.Core.Path.{◌≡◌, refl, sym, ap, subst, ◌∙◌}
use native.Mathlib.Omega.{arith}
use lib.ListN.{length}
use Rattle.sender.specs.Answers.{refused}
use Rattle.sender.specs.declared.Sender.{Sender}
use Rattle.sender.specs.Fields.{state}
use Rattle.sender.proofs.Passing.{passed}
use Rattle.sender.proofs.Heads.{length_drawable}
use Rattle.sender.proofs.Drawn.{kept_own, space_most, gone_few, drawn_length, finished, still_sound, is_lent, draw_no, draw_done}
use Rattle.sender.proofs.filled.Goals as goal

pub returns-in_err-p : goal.returns-in_err-p
returns-in_err-p c =
    let v = state c.s.inside in
    let r = subst (λ (s : Sender). (length c.args.low.now ≡ s.setting.lowspace) × (length c.args.ordinary.now ≡ s.setting.space)) (sym c.s.view_is) c.requires in
    let a = c.args in
    let e = is_lent v.setting (length a.low.now) (length a.ordinary.now) r.0 r.1 in
    let k₀ = passed _ _ c.from_residual.ensures.1 in
    let k = c.in_err-p.ensures in
    let d = ap (refused _) k.1 ∙ draw_no v a.low.now a.ordinary.now a.tp.now e _ k.0 in
    record { tp_after = rw (← c.s.view_is, k₀) d; sound_answer = rw k₀ tt }

pub ordinary_part-o-requires : goal.ordinary_part-o-requires
ordinary_part-o-requires c =
    let v = state c.s.inside in
    let r = subst (λ (s : Sender). (length c.args.low.now ≡ s.setting.lowspace) × (length c.args.ordinary.now ≡ s.setting.space)) (sym c.s.view_is) c.requires in
    let w = c.s.invariant in
    let k = c.in_ok-p.ensures in
    let ed = length_drawable _ _ _ k.0 in
    let p = k.1.0.within in
    let m = c.s.invariant.payload_most in
    let o = c.s.invariant.owed in
    let d = k.1.0.same in
    record { kept = kept_own v w c.args.ordinary.now r.1; at_in_bounds = (omega arith, omega arith, o) }

pub overflow_sub-at : goal.overflow_sub-at
overflow_sub-at c =
    let w = c.s.invariant in
    let k = c.in_ok-p.ensures in
    let ed = length_drawable _ _ _ k.0 in
    let p = k.1.0 in
    let pw = p.within in
    let pe = p.end in
    let m = c.s.invariant.payload_most in
    omega arith

pub overflow_add-s-inside : goal.overflow_add-s-inside
overflow_add-s-inside c =
    let w = c.s.invariant in
    let w₁ = c.s.invariant.owed in
    let w₂ = c.s.invariant.rest in
    let w₃ = c.s.invariant.len in
    let w₄ = c.s.invariant.space in
    omega arith

pub overflow_add-g : goal.overflow_add-g
overflow_add-g c = let m = c.s.invariant.payload_most in omega arith

pub overflow_sub-g : goal.overflow_sub-g
overflow_sub-g c =
    let w = c.s.invariant in
    let k = c.in_ok-p.ensures in
    let ed = length_drawable _ _ _ k.0 in
    let p = k.1.0 in
    let pw = p.within in
    let pe = p.end in
    let m = c.s.invariant.payload_most in
    omega arith

pub offset_of-offset-requires : goal.offset_of-offset-requires
offset_of-offset-requires c =
    let w = c.s.invariant in
    let k = c.in_ok-p.ensures in
    let ed = length_drawable _ _ _ k.0 in
    let p = k.1.0 in
    let pw = p.within in
    let pe = p.end in
    let m = c.s.invariant.payload_most in
    omega arith

pub overflow_cast-g : goal.overflow_cast-g
overflow_cast-g c = let m = c.s.invariant.stream in record { fits = omega arith }

pub rest_after-rest-requires : goal.rest_after-rest-requires
rest_after-rest-requires c =
    let v = state c.s.inside in
    let r = subst (λ (s : Sender). (length c.args.low.now ≡ s.setting.lowspace) × (length c.args.ordinary.now ≡ s.setting.space)) (sym c.s.view_is) c.requires in
    let a = c.args in
    let w = c.s.invariant in
    let k = c.in_ok-p.ensures in
    let ed = length_drawable _ _ _ k.0 in
    let p = k.1.0 in
    record { kept = kept_own v w a.ordinary.now r.1; rest_le_len = (w.rest, gone_few v w a.low.now a.ordinary.now a.tp.now _ _ _ _ _ _ _ r.0 r.1 ed p c.ordinary_part-o.ensures, space_most v w) }

pub shape_of-tp : goal.shape_of-tp
shape_of-tp c =
    let v = state c.s.inside in
    let r = subst (λ (s : Sender). (length c.args.low.now ≡ s.setting.lowspace) × (length c.args.ordinary.now ≡ s.setting.space)) (sym c.s.view_is) c.requires in
    let a = c.args in
    let w = c.s.invariant in
    let k = c.in_ok-p.ensures in
    let ed = length_drawable _ _ _ k.0 in
    let p = k.1.0 in
    drawn_length v w a.low.now a.ordinary.now a.tp.now _ _ _ _ _ _ _ r.0 r.1 ed p c.ordinary_part-o.ensures _ c.tp_header_of-h.result c.copy_at.ensures

pub invariant_of-result : goal.invariant_of-result
invariant_of-result c =
    let v = state c.s.inside in
    let r = subst (λ (s : Sender). (length c.args.low.now ≡ s.setting.lowspace) × (length c.args.ordinary.now ≡ s.setting.space)) (sym c.s.view_is) c.requires in
    let a = c.args in
    let w = c.s.invariant in
    let k = c.in_ok-p.ensures in
    let ed = length_drawable _ _ _ k.0 in
    let p = k.1.0 in
    let o = c.ordinary_part-o.ensures in
    still_sound v w a.low.now a.ordinary.now a.tp.now _ _ _ _ _ _ _ r.0 r.1 ed p o _ c.rest_after-rest.ensures.1

pub returns : goal.returns
returns c =
    let v = state c.s.inside in
    let r = subst (λ (s : Sender). (length c.args.low.now ≡ s.setting.lowspace) × (length c.args.ordinary.now ≡ s.setting.space)) (sym c.s.view_is) c.requires in
    let a = c.args in
    let w = c.s.invariant in
    let k = c.in_ok-p.ensures in
    let ed = length_drawable _ _ _ k.0 in
    let p = k.1.0 in
    let o = c.ordinary_part-o.ensures in
    let e = is_lent v.setting (length a.low.now) (length a.ordinary.now) r.0 r.1 in
    let f = finished v w a.low.now a.ordinary.now a.tp.now _ _ _ _ _ _ _ r.0 r.1 ed p o _ _ _ _ _ c.offset_of-offset.ensures refl c.tp_header_of-h.ensures c.copy_at.ensures c.rest_after-rest.ensures.0 in
    record { tp_after = rw (← c.s.view_is) (draw_done v a.low.now a.ordinary.now a.tp.now e _ k.0 f); sound_answer = still_sound v w a.low.now a.ordinary.now a.tp.now _ _ _ _ _ _ _ r.0 r.1 ed p o _ c.rest_after-rest.ensures.1 }
