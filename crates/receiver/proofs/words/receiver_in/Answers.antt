use Rattle.receiver.specs.Words.{receiver_in}
use Rattle.receiver.proofs.words.receiver_in.Goals as goal

pub returns : goal.returns
unfolding receiver_in
returns c = simp (c.narrow.ensures, c.kept_in-kept.ensures, c.place_in-first.ensures, c.place_in-began.ensures, c.phase_in-phase.ensures, c.stage_in-stage.ensures)
