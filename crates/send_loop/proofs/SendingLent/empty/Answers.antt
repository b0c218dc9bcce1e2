-- `Sending::empty`: emptied, the program goes on with what was read behind.
-- Assumes nothing.
use mathlib.Core.Path.{refl}
use Rattle.send_loop.proofs.Whole.{comes}
use Rattle.send_loop.proofs.SendingLent.empty.Goals as goal

pub returns : goal.returns
returns c = λ begun b n m rest more h size w. (record { sound = w.0.sound; room = w.0.room }, comes c.args.self.now _ b b rest more w.1 refl refl refl)
