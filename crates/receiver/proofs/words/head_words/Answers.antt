use borrow.Author.Tests.{eq-eqb, ne_eqb}
use Rattle.receiver.specs.Words.{head_words}
use Rattle.receiver.proofs.words.head_words.Goals as goal

pub returns-then-have-eq0 : goal.returns-then-have-eq0
unfolding head_words
returns-then-have-eq0 c = simp (eq-eqb _ _ c.if-have-eq0.true)

pub returns : goal.returns
unfolding head_words
returns c = simp (ne_eqb _ _ c.if-have-eq0.false)
