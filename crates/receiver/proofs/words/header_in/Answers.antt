use Rattle.receiver.proofs.words.header_in.Goals as goal

pub returns : goal.returns
returns c = simp (c.narrow.ensures, c.narrow-2.ensures, c.narrow-3.ensures)
