-- `complete::first_word` meets its contract: each entry is a code word, by computing it. Assumes nothing.
use mathlib.Core.Path.{refl}
use native.Mathlib.Omega.{arith}
use Rattle.golay.specs.Golay.{chosen, code_word}
use Rattle.sender.specs.Offering.{known}
use Rattle.sender.specs.Steps.{first_word}
use Rattle.sender.proofs.Firsts.{entry, no_entry}
use Rattle.sender.proofs.complete.first_word.Goals as goal

pub returns-in-1 : goal.returns-in-1
unfolding first_word known code_word chosen
returns-in-1 c = entry c.args.content 1 _ c.in-1.is refl

pub returns-in-2 : goal.returns-in-2
unfolding first_word known code_word chosen
returns-in-2 c = entry c.args.content 2 _ c.in-2.is refl

pub returns-in-3 : goal.returns-in-3
unfolding first_word known code_word chosen
returns-in-3 c = entry c.args.content 3 _ c.in-3.is refl

pub returns-in-4 : goal.returns-in-4
unfolding first_word known code_word chosen
returns-in-4 c = entry c.args.content 4 _ c.in-4.is refl

pub returns-in-5 : goal.returns-in-5
unfolding first_word known code_word chosen
returns-in-5 c = entry c.args.content 5 _ c.in-5.is refl

pub returns-in-6 : goal.returns-in-6
unfolding first_word known code_word chosen
returns-in-6 c = entry c.args.content 6 _ c.in-6.is refl

pub returns-in_default : goal.returns-in_default
unfolding first_word known code_word chosen
returns-in_default c = no_entry c.args.content (λ p. omega arith)
