-- `Sending::open`: what is opened is sound, a TP's record has room, and the setup's record is held.
-- Assumes nothing.
use mathlib.Core.Path.{ap, sym, ◌∙◌}
use native.Mathlib.Omega.{arith}
use Rattle.sender.specs.Answers.{given_by}
use Rattle.sender.proofs.Opens.{opened_is}
use Rattle.send_loop.proofs.Beginning.{begun_held}
use Rattle.send_loop.proofs.Sending.open.Goals as goal

pub returns : goal.returns
returns c =
    let o = c.open.ensures in
    let most = (opened_is _ _ _ _ _ _ (sym o.result_value ∙ ap given_by c.in_ok-sender.was)).0.tp_most in
    (record { sound = c.in_ok-sender.ensures.sound_answer; room = omega arith }, begun_held c.args.bytes.now _ c.requires (omega arith) _ _ c.begin.ensures)
