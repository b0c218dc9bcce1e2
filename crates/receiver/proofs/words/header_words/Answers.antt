use Rattle.receiver.proofs.words.header_words.Goals as goal

pub returns : goal.returns
returns c = (simp (c.wide.ensures.0, c.wide-2.ensures.0, c.wide-3.ensures.0), (c.wide.ensures.1, c.wide-2.ensures.1, c.wide-3.ensures.1))
