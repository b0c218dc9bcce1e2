use native.Mathlib.Omega.{arith}
use borrow.Author.Tests.{eq-eqb, ne_eqb}
use Rattle.receiver.specs.Words.{phase_in}
use Rattle.receiver.proofs.words.phase_in.Goals as goal

pub returns-in-0 : goal.returns-in-0
unfolding phase_in
returns-in-0 c = simp (eq-eqb _ _ c.in-0.is)

pub returns-in-1 : goal.returns-in-1
unfolding phase_in
returns-in-1 c = simp c.in-1.is

pub returns-in-2 : goal.returns-in-2
unfolding phase_in
returns-in-2 c = simp (c.in-2.is, c.header_in.ensures)

pub returns-in_default : goal.returns-in_default
unfolding phase_in
returns-in_default c = simp (ne_eqb c.args.sort 0 (λ e. omega arith), ne_eqb c.args.sort 1 (λ e. omega arith), ne_eqb c.args.sort 2 (λ e. omega arith), c.header_in-in_default.ensures)
