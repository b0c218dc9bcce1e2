-- `sending::draw` meets its contract: words that are no sender's, or what `sender::draw` gives, in words. Assumes nothing.
use Prim.Native.Nat.{ℕ}
use mathlib.Core.List.{List}
use mathlib.Core.Path.{ap, ◌∙◌}
use Rattle.sender.specs.declared.Sender.{Sender}
use Rattle.sender.specs.Drawing.{drew}
use Rattle.sender.specs.Words.{drawn_in}
use Rattle.sender.proofs.Changed.{draw_changes}
use Rattle.sender.proofs.Passing.{passed}
use Rattle.jenugathi.proofs.Sends.{refuses, writes}
use Rattle.jenugathi.proofs.sending.draw.Goals as goal

pub returns-in_err-t-clause-tp_after : goal.returns-in_err-t-clause-tp_after
returns-in_err-t-clause-tp_after c =
    let a = c.args in
    (refuses a.w.now a.tp.now (λ (s : Sender). drew s a.low.now a.ordinary.now a.tp.now) _ c.in_ok-s.ensures.result_value _ _ _ (passed _ _ c.from_residual-in_err-t.ensures.1) c.in_err-t.ensures.tp_after).0

pub returns : goal.returns
returns c =
    let a = c.args in
    let s = c.in_ok-s.s in
    let t = c.in_ok-t.t in
    let f = c.in_ok-t.ensures.tp_after in
    let own = c.put_drawn.ensures ∙ ap (λ (x : List ℕ). drawn_in x t) c.in_ok-s.ensures.of_its_words ∙ draw_changes s t a.low.now a.ordinary.now a.tp.now _ f in
    let p = writes a.w.now a.tp.now (λ (s : Sender). drew s a.low.now a.ordinary.now a.tp.now) _ c.in_ok-s.ensures.result_value _ _ _ f own in
    record { tp_after = p.0; lasting = p.1 c.in_ok-t.ensures.sound_answer }
