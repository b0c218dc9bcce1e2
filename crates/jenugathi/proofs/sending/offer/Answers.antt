-- `sending::offer` meets its contract: words that are no sender's, or what `sender::offer_ordinary` gives, in words. Assumes nothing.
use Prim.Native.Nat.{ℕ}
use mathlib.Core.List.{List}
use mathlib.Core.Path.{ap, ◌∙◌}
use lib.ListN.{set}
use Rattle.sender.specs.declared.Sender.{Sender}
use Rattle.sender.specs.Offering.{ordinary_offered}
use Rattle.sender.proofs.Changed.{ordinary_changes}
use Rattle.sender.proofs.Passing.{passed}
use Rattle.jenugathi.proofs.Bytes.{ordinary_byte}
use Rattle.jenugathi.proofs.Sends.{refuses, writes}
use Rattle.jenugathi.proofs.sending.offer.Goals as goal

pub returns-in_err-t-clause-ordinary_after : goal.returns-in_err-t-clause-ordinary_after
returns-in_err-t-clause-ordinary_after c =
    let a = c.args in
    (refuses a.w.now a.ordinary.now (λ (s : Sender). ordinary_offered s a.low.now a.ordinary.now a.content a.sp.now) _ c.in_ok-s.ensures.result_value _ _ _ (passed _ _ c.from_residual-in_err-t.ensures.1) (c.in_err-t.ensures.ordinary_after ∙ ordinary_byte _ _ _ a.content _ _ c.byte_of.ensures)).0

pub returns : goal.returns
returns c =
    let a = c.args in
    let s = c.in_ok-s.s in
    let t = c.in_ok-t.t in
    let f = c.in_ok-t.ensures.ordinary_after ∙ ordinary_byte _ _ _ a.content _ _ c.byte_of.ensures in
    let own = c.put_ordinary.ensures ∙ ap (λ (x : List ℕ). set x 8 t.ordinary.len) c.in_ok-s.ensures.of_its_words ∙ ordinary_changes s t a.low.now a.ordinary.now a.content a.sp.now _ f in
    let p = writes a.w.now a.ordinary.now (λ (s : Sender). ordinary_offered s a.low.now a.ordinary.now a.content a.sp.now) _ c.in_ok-s.ensures.result_value _ _ _ f own in
    record { ordinary_after = p.0; lasting = p.1 c.in_ok-t.ensures.sound_answer }
