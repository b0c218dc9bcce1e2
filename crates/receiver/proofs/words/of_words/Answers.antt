use Rattle.receiver.proofs.Worded.{accepted, refused}
use Rattle.receiver.proofs.words.of_words.Goals as goal

pub returns-then-is_fit : goal.returns-then-is_fit
returns-then-is_fit c = accepted c.args.w.now _ _ c.is_fit.ensures c.if-is_fit.true c.receiver_in.ensures

pub returns : goal.returns
returns c = refused c.args.w.now _ c.is_fit.ensures c.if-is_fit.false
