-- `checks::judged` meets its contract: 2 first, then 3, then 4. Assumes nothing.
use mathlib.Core.Path.{refl, sym, ◌∙◌}
use lib.ListN.{length}
use borrow.Author.Tests.{lt-ltb, le-ltb}
use Rattle.sender.specs.Steps.{judged_of}
use Rattle.sender.proofs.checks.judged.Goals as goal

pub returns-then-not-is_known : goal.returns-then-not-is_known
unfolding judged_of
returns-then-not-is_known c = rw (sym c.is_known.ensures ∙ c.if-not-is_known.true)

pub returns-then-most-sp : goal.returns-then-most-sp
unfolding judged_of
returns-then-most-sp c = let a = c.args in rw (sym c.is_known.ensures ∙ c.if-not-is_known.false, lt-ltb a.most (length a.sp.now) c.if-most-sp.true)

pub returns : goal.returns
unfolding judged_of
returns c = let a = c.args in c.of_room.ensures ∙ rw (sym c.is_known.ensures ∙ c.if-not-is_known.false, le-ltb a.most (length a.sp.now) c.if-most-sp.false) refl
