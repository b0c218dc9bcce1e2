use borrow.Author.Tests.{lt-leb}
use Rattle.receiver.specs.Words.{below}
use native.Mathlib.Omega.{arith}
use Rattle.receiver.proofs.words.bound.Goals as goal

pub returns-in-0 : goal.returns-in-0
unfolding below
returns-in-0 c = simp c.in-0.is

pub returns-in-1 : goal.returns-in-1
unfolding below
returns-in-1 c = simp c.in-1.is

pub returns-in-2 : goal.returns-in-2
unfolding below
returns-in-2 c = simp c.in-2.is

pub returns-in-3 : goal.returns-in-3
unfolding below
returns-in-3 c = simp c.in-3.is

pub returns-in-4 : goal.returns-in-4
unfolding below
returns-in-4 c = simp c.in-4.is

pub returns-in-5 : goal.returns-in-5
unfolding below
returns-in-5 c = simp c.in-5.is

pub returns-in_default : goal.returns-in_default
unfolding below
returns-in_default c = simp (lt-leb c.args.have 5 (omega arith))
