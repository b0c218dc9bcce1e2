-- `receiver::walk::gather` meets its contract: the invariant: the bytes read, then those left, make the same number.
-- Assumes nothing.
use mathlib.Core.Path.{refl, ◌≡◌}
use Prim.Native.Nat.{suc, ◌+◌}
use native.Mathlib.Omega.{arith}
use Rattle.receiver.proofs.Gather.{gather_off, gather_on, next_small, small}
use Rattle.receiver.proofs.walk.gather.Goals as goal

pub loop-i-init : goal.loop-i-init
loop-i-init c = let a = c.args in let e : a.have + 0 ≡ a.have = omega arith in (omega arith, rw e c.requires.1, refl)

pub overflow_mul-w : goal.overflow_mul-w
overflow_mul-w c =
    let l = c.loop-i in
    let a = c.args in
    let h = small (a.have + l.i) l.w l.invariant.1 (omega arith) in
    omega arith

pub overflow_add-w-in-loop-i : goal.overflow_add-w-in-loop-i
overflow_add-w-in-loop-i c =
    let l = c.loop-i in
    let a = c.args in
    let y = c.type_inv.tp (a.at + l.i) in
    let h = small (a.have + l.i) l.w l.invariant.1 (omega arith) in
    omega arith

pub loop-i-preserved : goal.loop-i-preserved
loop-i-preserved c =
    let l = c.loop-i in
    let a = c.args in
    let y = c.type_inv.tp (a.at + l.i) in
    let h = small (a.have + l.i) l.w l.invariant.1 (omega arith) in
    let e : a.have + (l.i + 1) ≡ suc (a.have + l.i) = omega arith in
    rw e (omega arith, next_small (a.have + l.i) l.w _ l.invariant.1 (omega arith), gather_on a.tp.now a.at a.n l.w l.i _ (omega arith) (omega arith) l.invariant.2)

pub returns : goal.returns
returns c =
    let l = c.loop-i in
    let a = c.args in
    gather_off a.tp.now a.at a.n l.w l.i _ (omega arith) (omega arith) l.invariant.2
