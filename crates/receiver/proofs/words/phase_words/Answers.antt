use native.Mathlib.Omega.{arith}
use Rattle.receiver.proofs.words.phase_words.Goals as goal

pub returns-in-Lost : goal.returns-in-Lost
returns-in-Lost c = (simp c.in-Lost.is, simp c.in-Lost.is (omega arith))

pub returns-in-Head : goal.returns-in-Head
returns-in-Head c = (simp (c.in-Head.is, c.head_words.ensures), simp c.in-Head.is (omega arith))

pub returns-in-Judged : goal.returns-in-Judged
returns-in-Judged c = (simp (c.in-Judged.is, c.header_words.ensures.0), simp c.in-Judged.is c.header_words.ensures.1)

pub returns-in-Body : goal.returns-in-Body
returns-in-Body c = (simp (c.in-Body.is, c.header_words-in-Body.ensures.0), simp c.in-Body.is c.header_words-in-Body.ensures.1)
