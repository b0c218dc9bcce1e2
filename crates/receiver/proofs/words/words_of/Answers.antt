use Rattle.receiver.specs.Words.{words_of}
use Rattle.receiver.proofs.words.words_of.Goals as goal

pub returns : goal.returns
unfolding words_of
returns c = (simp (c.wide.ensures.0, c.kept_words-k.ensures.0, c.phase_words-p.ensures.0, c.stage_words-s.ensures), record { phase = c.phase_words-p.ensures.1; kept = c.kept_words-k.ensures.1 })
