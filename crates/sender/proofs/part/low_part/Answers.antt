-- `part::low_part` meets its contract, by the invariant `Walk`. The measure is what is left of the TP. Assumes nothing.
use mathlib.Core.Path.{◌≡◌, refl, sym, ◌∙◌}
use Prim.Native.Nat.{◌≤◌}
use native.Mathlib.Omega.{arith}
use Rattle.sender.proofs.Passing.{found_is, found_none}
use Rattle.sender.proofs.Lows.{starts, room, fits, stays, spoilt, unfit, fit, untouched, ends, other_length, again}
use Rattle.sender.proofs.part.low_part.Goals as goal
use Rattle.sender.proofs.part.low_part.Goals.{else-at-eq4-via-then-at-eq4+else-q-gt0, else-at-eq4-via-else-at-eq4}

pub loop-n-init : goal.loop-n-init
loop-n-init c =
    starts c.args.payload c.args.buf.now c.args.q c.args.tp.now c.requires.kept

pub overflow_sub-payload : goal.overflow_sub-payload
overflow_sub-payload c = let w = c.loop-n.invariant.within in omega arith

pub low_at-requires : goal.low_at-requires
low_at-requires c =
    let a = c.args in
    let l = c.loop-n in
    let r = room a.payload a.buf.now a.q a.tp.now l.tp l.t l.at l.invariant in
    let p = c.requires.payload_bound in
    record { kept = l.invariant.sound; payload_bound = omega arith }

pub returns-then-not-is_tp : goal.returns-then-not-is_tp
returns-then-not-is_tp c =
    let a = c.args in
    let l = c.loop-n in
    let n = found_is _ _ (sym c.low_at.ensures ∙ c.in-Some.is) in
    other_length a.payload a.buf.now a.q a.tp.now l.tp l.t l.at l.invariant _ n.0 n.1 c.if-not-is_tp.true

pub pop_into-t-requires : goal.pop_into-t-requires
pop_into-t-requires c =
    let a = c.args in
    let l = c.loop-n in
    let n = found_is _ _ (sym c.low_at.ensures ∙ c.in-Some.is) in
    let s = l.invariant.size ∙ c.if-not-is_tp.false in
    let f = fits a.payload a.buf.now a.q a.tp.now l.tp l.t l.at l.invariant _ n.0 n.1 s in
    let f₀ = f.0 in
    let f₁ = f.1 in
    let p = c.requires.payload_bound in
    omega arith

pub overflow_add-tp : goal.overflow_add-tp
overflow_add-tp c =
    let a = c.args in
    let l = c.loop-n in
    let n = found_is _ _ (sym c.low_at.ensures ∙ c.in-Some.is) in
    let s = l.invariant.size ∙ c.if-not-is_tp.false in
    let f = fits a.payload a.buf.now a.q a.tp.now l.tp l.t l.at l.invariant _ n.0 n.1 s in
    let f₀ = f.0 in
    let f₁ = f.1 in
    let p = c.requires.payload_bound in
    omega arith

pub bounds-tp-at : goal.bounds-tp-at
bounds-tp-at c =
    let a = c.args in
    let l = c.loop-n in
    let n = found_is _ _ (sym c.low_at.ensures ∙ c.in-Some.is) in
    let s = l.invariant.size ∙ c.if-not-is_tp.false in
    let f = fits a.payload a.buf.now a.q a.tp.now l.tp l.t l.at l.invariant _ n.0 n.1 s in
    let f₀ = f.0 in
    let f₁ = f.1 in
    let p = c.requires.payload_bound in
    let st = stays a.payload a.buf.now a.q a.tp.now l.tp l.t l.at l.invariant _ n.0 n.1 s _ _ c.pop_into-t.ensures in
    omega arith

pub overflow_add-at : goal.overflow_add-at
overflow_add-at c =
    let a = c.args in
    let l = c.loop-n in
    let n = found_is _ _ (sym c.low_at.ensures ∙ c.in-Some.is) in
    let s = l.invariant.size ∙ c.if-not-is_tp.false in
    let f = fits a.payload a.buf.now a.q a.tp.now l.tp l.t l.at l.invariant _ n.0 n.1 s in
    let f₀ = f.0 in
    let f₁ = f.1 in
    let p = c.requires.payload_bound in
    omega arith

pub overflow_add-at-in-Some : goal.overflow_add-at-in-Some
overflow_add-at-in-Some c =
    let a = c.args in
    let l = c.loop-n in
    let n = found_is _ _ (sym c.low_at.ensures ∙ c.in-Some.is) in
    let s = l.invariant.size ∙ c.if-not-is_tp.false in
    let f = fits a.payload a.buf.now a.q a.tp.now l.tp l.t l.at l.invariant _ n.0 n.1 s in
    let f₀ = f.0 in
    let f₁ = f.1 in
    let p = c.requires.payload_bound in
    omega arith

pub loop-n-smaller : goal.loop-n-smaller
loop-n-smaller c =
    let a = c.args in
    let l = c.loop-n in
    let n = found_is _ _ (sym c.low_at.ensures ∙ c.in-Some.is) in
    let s = l.invariant.size ∙ c.if-not-is_tp.false in
    let f = fits a.payload a.buf.now a.q a.tp.now l.tp l.t l.at l.invariant _ n.0 n.1 s in
    let f₀ = f.0 in
    let f₁ = f.1 in
    let p = c.requires.payload_bound in
    omega arith

pub loop-n-preserved : goal.loop-n-preserved
loop-n-preserved c =
    let a = c.args in
    let l = c.loop-n in
    let n = found_is _ _ (sym c.low_at.ensures ∙ c.in-Some.is) in
    let s = l.invariant.size ∙ c.if-not-is_tp.false in
    again a.payload a.buf.now a.q a.tp.now l.tp l.t l.at l.invariant _ n.0 n.1 s _ _ c.pop_into-t.ensures c.requires.kept

pub returns-then-q-gt0 : goal.returns-then-q-gt0
returns-then-q-gt0 c =
    let a = c.args in
    let l = c.loop-n in
    let z = found_none _ _ c.low_at.ensures c.in_default.not-Some in
    spoilt a.payload a.buf.now a.q a.tp.now l.tp l.t l.at l.invariant _ refl z c.requires.kept _ c.if-at-eq4.true c.if-q-gt0.true

pub returns-then-not-is_tp-2 : goal.returns-then-not-is_tp-2
returns-then-not-is_tp-2 c =
    let a = c.args in
    let l = c.loop-n in
    let z = found_none _ _ c.low_at.ensures c.in_default.not-Some in
    let idle : l.at ≡ 4 → a.q.len ≤ 0 =
    elim c.else-at-eq4.branch [
      | else-at-eq4-via-then-at-eq4+else-q-gt0 w ↦ (λ e. w.if-q-gt0.false)
      | else-at-eq4-via-else-at-eq4 w ↦ (λ e. absurd (w.if-at-eq4.false e))
    ] in
    unfit a.payload a.buf.now a.q a.tp.now l.tp l.t l.at l.invariant _ refl z c.requires.kept idle c.if-not-is_tp-2.true

pub end-requires : goal.end-requires
end-requires c =
    let a = c.args in
    let l = c.loop-n in
    let z = c.loop-n.invariant.size in
    let w = c.loop-n.invariant.within in
    λ h. let e = (l.invariant.begun h).0 in omega arith

pub returns : goal.returns
returns c =
    let a = c.args in
    let l = c.loop-n in
    let z = found_none _ _ c.low_at.ensures c.in_default.not-Some in
    let idle : l.at ≡ 4 → a.q.len ≤ 0 =
    elim c.else-at-eq4.branch [
      | else-at-eq4-via-then-at-eq4+else-q-gt0 w ↦ (λ e. w.if-q-gt0.false)
      | else-at-eq4-via-else-at-eq4 w ↦ (λ e. absurd (w.if-at-eq4.false e))
    ] in
    let s = c.if-not-is_tp-2.false in
    (fit a.payload a.buf.now a.q a.tp.now l.tp l.t l.at l.invariant _ refl z c.requires.kept idle s, (ends a.payload a.buf.now a.q a.tp.now l.tp l.t l.at l.invariant _ refl z _ c.end.ensures s, untouched a.payload a.buf.now a.q a.tp.now l.tp l.t l.at l.invariant _ refl z _ c.end.ensures))
