-- `receiver::over::taken` meets its contract.
-- Assumes nothing.
use mathlib.Core.Path.{refl}
use native.Mathlib.Omega.{arith}
use Rattle.receiver.proofs.PassingOver.{has_kept, has_left, taken_fits, taken_is, taken_less, taken_put}
use Rattle.receiver.proofs.over.taken.Goals as goal

pub returns-in_default : goal.returns-in_default
returns-in_default c =
    let a = c.args in
    absurd (has_left a.r a.tp.now a.room.now c.requires.0 c.requires.1 c.requires.2 c.in_default.not-Body)

pub returns-in_default-kept : goal.returns-in_default-kept
returns-in_default-kept c =
    let a = c.args in
    absurd (has_kept a.r a.tp.now a.room.now c.requires.0 c.requires.1 c.requires.2 c.in_default-kept.is)

pub overflow_sub-phase : goal.overflow_sub-phase
overflow_sub-phase c =
    let a = c.args in
    omega (arith, taken_less a.r a.tp.now a.room.now c.requires.0 c.requires.1 c.requires.2 _ _ _ _ _ _ c.in-Body.is c.in-Some.is)

pub overflow_add-kept : goal.overflow_add-kept
overflow_add-kept c =
    let a = c.args in
    omega (arith, taken_less a.r a.tp.now a.room.now c.requires.0 c.requires.1 c.requires.2 _ _ _ _ _ _ c.in-Body.is c.in-Some.is, taken_fits a.r a.tp.now a.room.now c.requires.0 c.requires.1 c.requires.2 _ _ _ _ _ _ c.in-Body.is c.in-Some.is)

pub returns : goal.returns
returns c =
    let a = c.args in
    record { value = rw c.behind-next.ensures (taken_is a.r a.tp.now a.room.now c.requires.0 c.requires.1 c.requires.2 _ _ _ _ _ _ c.in-Body.is c.in-Some.is _ _ refl); room_after = taken_put a.r a.tp.now a.room.now c.requires.0 c.requires.1 c.requires.2 _ _ _ _ _ _ c.in-Body.is c.in-Some.is _ c.copy_at.ensures }
