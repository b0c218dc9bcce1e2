-- `words::of_words` meets its contract: words are a sender's if the sender that they say is sound. Assumes nothing.
use mathlib.Core.Path.{refl}
use Rattle.sender.specs.Words.{sender_in}
use Rattle.sender.proofs.Worded.{its, not_its}
use Rattle.sender.proofs.words.of_words.Goals as goal

pub returns-then-not-is_sound-clause-result_value : goal.returns-then-not-is_sound-clause-result_value
unfolding sender_in
returns-then-not-is_sound-clause-result_value c = not_its c.args.w (sender_in c.args.w) refl _ c.is_sound.ensures c.if-not-is_sound.true

pub invariant_of-result : goal.invariant_of-result
unfolding sender_in
invariant_of-result c = (its c.args.w (sender_in c.args.w) refl _ c.is_sound.ensures c.well_formed.0.1.0.1 c.if-not-is_sound.false).1.0

pub returns : goal.returns
unfolding sender_in
returns c =
    let i = its c.args.w (sender_in c.args.w) refl _ c.is_sound.ensures c.well_formed.0.1.0.1 c.if-not-is_sound.false in
    record { result_value = i.0; sound_answer = i.1.0; of_its_words = i.1.1 }
