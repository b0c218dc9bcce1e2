-- `wire::sort_of` meets its contract: each arm of the match is one of the definition's cases.
-- Assumes nothing.
use native.Mathlib.Omega.{arith}
use borrow.Author.Rules.{rules}
use borrow.Author.Tests.{le-leb, lt-leb, ne_eqb}
use Rattle.wire.specs.Reading.{sort_of}
use Rattle.wire.proofs.sort_of.Goals as goal

pub returns-in-0 : goal.returns-in-0
unfolding sort_of
returns-in-0 c = search rules

pub returns-in-1-to-6 : goal.returns-in-1-to-6
unfolding sort_of
returns-in-1-to-6 c = rw (ne_eqb c.args.content 0 (λ e. omega arith), le-leb c.args.content 6 (omega arith))

pub returns-in_default : goal.returns-in_default
unfolding sort_of
returns-in_default c = rw (ne_eqb c.args.content 0 (λ e. omega arith), lt-leb c.args.content 6 (omega arith))
