-- `receiver::lane::walk_in` meets its contract. Assumes nothing.
use mathlib.Core.Logic.{inl, inr}
use native.Mathlib.Omega.{arith}
use Rattle.receiver.proofs.lane.walk_in.Goals as goal

pub overflow_add-header : goal.overflow_add-header
overflow_add-header c = let g = rw c.in-Busy.is at c.requires in omega (arith, g.1)

pub returns-in-Other : goal.returns-in-Other
returns-in-Other c =
    elim c.in-Other.is [
      | inl e ↦ rw e
      | inr e ↦ rw e
    ]

pub returns-in-Idle : goal.returns-in-Idle
returns-in-Idle c = rw c.in-Idle.is

pub returns-in-Cut : goal.returns-in-Cut
returns-in-Cut c = rw c.in-Cut.is

pub returns-in-Busy : goal.returns-in-Busy
returns-in-Busy c = rw c.in-Busy.is
