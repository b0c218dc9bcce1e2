-- `receiver::kind::piece_of` meets its contract: each number of the match is one of the definition's cases.
-- Assumes nothing.
use native.Mathlib.Omega.{arith}
use borrow.Author.Tests.{eq-eqb, ne_eqb}
use Rattle.receiver.specs.Kind.{piece_of}
use Rattle.receiver.proofs.kind.piece_of.Goals as goal

pub returns-in-0 : goal.returns-in-0
unfolding piece_of
returns-in-0 c = simp (eq-eqb _ _ c.in-0.is)

pub returns-in-1 : goal.returns-in-1
unfolding piece_of
returns-in-1 c = simp c.in-1.is

pub returns-in-2 : goal.returns-in-2
unfolding piece_of
returns-in-2 c = simp c.in-2.is

pub returns-in_default : goal.returns-in_default
unfolding piece_of
returns-in_default c = simp (ne_eqb c.args.fragment 0 (λ e. omega arith), ne_eqb c.args.fragment 1 (λ e. omega arith), ne_eqb c.args.fragment 2 (λ e. omega arith))
