use native.Mathlib.Omega.{arith}
use Rattle.receiver.proofs.words.kept_words.Goals as goal

pub returns-in-None : goal.returns-in-None
returns-in-None c = (simp c.in-None.is, simp c.in-None.is (omega arith))

pub returns-in-Some : goal.returns-in-Some
returns-in-Some c = (simp (c.in-Some.is, c.wide.ensures.0), simp c.in-Some.is c.wide.ensures.1)
