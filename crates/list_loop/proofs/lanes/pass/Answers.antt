-- `list_loop::lanes::pass` meets its contract: a TP that is passed over or dropped is done; one whose header says its flag and offset has the
-- first call of its payload.
-- Assumes nothing.
use mathlib.Core.Path.{refl, sym, subst, ◌∙◌}
use native.Mathlib.Omega.{arith}
use Rattle.receiver.specs.declared.lane.Lane.TheVariants.{Lost, Idle}
use Rattle.receiver.specs.Tracks.{FilledIf}
use Rattle.receiver.proofs.Tracked.{lane_idle, lane_lost}
use Rattle.list_loop.proofs.Passes.{passes_all, passes_over, passes_says, passes_told, says, steady_left, told_put}
use Rattle.list_loop.proofs.lanes.pass.Goals as goal

pub dropped-n-requires : goal.dropped-n-requires
dropped-n-requires c = c.requires.0

pub returns-then-n-eq1 : goal.returns-then-n-eq1
returns-then-n-eq1 c =
    let a = c.args in
    let p = c.requires in
    record { steady = steady_left _ _ _ _ a.held.at _ refl p.1 (omega arith) p.4; passes_by = passes_over _ a.t a.base a.stamp a.number a.tp.now a.room.now a.out.now a.held.at _ Lost refl (lane_lost a.t c.if-t-eq-LOST.true) (c.dropped-n.ensures.over c.if-n-eq1.true) }

pub overflow_cast-n : goal.overflow_cast-n
overflow_cast-n c = omega (arith, c.dropped-n.ensures.small)

pub line_in-put-requires : goal.line_in-put-requires
line_in-put-requires c = c.requires.1

pub returns-then-n-ne0 : goal.returns-then-n-ne0
returns-then-n-ne0 c =
    let a = c.args in
    let p = c.requires in
    let d = c.dropped-n in
    let q = c.line_in-put in
    let told = told_put a.number d.result a.out.now a.held.at _ _ (omega (arith, p.2, p.3)) q.ensures.at_after in
    record { steady = steady_left _ _ _ _ a.held.at _ refl q.ensures.kept told.1 p.4; passes_by = passes_told _ a.t a.base a.stamp a.number a.tp.now a.room.now a.out.now a.held.at _ d.result _ _ refl (lane_lost a.t c.if-t-eq-LOST.true) (d.ensures.told (omega (arith, c.if-n-ne0.true, c.if-n-eq1.false))) told.0 }

pub is_fill-requires : goal.is_fill-requires
is_fill-requires c = c.requires.0

pub returns-then-is_fill : goal.returns-then-is_fill
returns-then-is_fill c =
    let a = c.args in
    let p = c.requires in
    let f = subst (λ x. FilledIf x a.base a.tp.now) c.if-is_fill.true c.is_fill.ensures in
    record { steady = steady_left _ _ _ _ a.held.at _ refl p.1 (omega arith) p.4; passes_by = passes_over _ a.t a.base a.stamp a.number a.tp.now a.room.now a.out.now a.held.at _ Idle refl (lane_idle a.t c.if-t-eq-IDLE.true) f }

pub top-requires : goal.top-requires
top-requires c = c.requires.0

pub returns-in_default : goal.returns-in_default
returns-in_default c =
    let a = c.args in
    let p = c.requires in
    record { steady = steady_left _ _ _ _ a.held.at _ refl p.1 (omega arith) p.4; passes_by = passes_all _ a.t a.base a.stamp a.number a.tp.now a.room.now a.out.now a.held.at _ refl }

pub payload-requires : goal.payload-requires
payload-requires c =
    let a = c.args in
    let p = c.requires in
    let w = says a.base a.tp.now _ _ (sym c.top.ensures ∙ c.in-Says.is) in
    (p.1, p.2, p.3, omega (arith, w.0, p.0.size), p.7, w.1, p.4, p.5)

pub returns : goal.returns
returns c =
    let a = c.args in
    let p = c.requires in
    let e = sym c.top.ensures ∙ c.in-Says.is in
    let r = c.payload in
    record { steady = r.ensures.steady; passes_by = passes_says r.result a.t a.base a.stamp a.number a.tp.now a.room.now a.out.now a.held.at _ _ _ _ p.0 e (omega (arith, p.2, p.3)) (omega arith) r.ensures.leaves_by }
