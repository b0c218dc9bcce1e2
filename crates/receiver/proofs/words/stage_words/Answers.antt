use Rattle.receiver.proofs.words.stage_words.Goals as goal

pub returns-in-Low : goal.returns-in-Low
returns-in-Low c = simp c.in-Low.is

pub returns-in-Due : goal.returns-in-Due
returns-in-Due c = simp c.in-Due.is
