-- `sending::offer_low` meets its contract: words that are no sender's, or what `sender::offer_low` gives, in words. Assumes nothing.
use Prim.Native.Nat.{ℕ}
use mathlib.Core.List.{List}
use mathlib.Core.Path.{ap, ◌∙◌}
use lib.ListN.{set}
use Rattle.sender.specs.declared.Sender.{Sender}
use Rattle.sender.specs.Offering.{low_offered}
use Rattle.sender.proofs.Changed.{low_changes}
use Rattle.sender.proofs.Passing.{passed}
use Rattle.jenugathi.proofs.Bytes.{low_byte}
use Rattle.jenugathi.proofs.Sends.{refuses, writes}
use Rattle.jenugathi.proofs.sending.offer_low.Goals as goal

pub returns-in_err-t-clause-low_after : goal.returns-in_err-t-clause-low_after
returns-in_err-t-clause-low_after c =
    let a = c.args in
    (refuses a.w.now a.low.now (λ (s : Sender). low_offered s a.low.now a.ordinary.now a.content a.sp.now) _ c.in_ok-s.ensures.result_value _ _ _ (passed _ _ c.from_residual-in_err-t.ensures.1) (c.in_err-t.ensures.low_after ∙ low_byte _ _ _ a.content _ _ c.byte_of.ensures)).0

pub returns : goal.returns
returns c =
    let a = c.args in
    let s = c.in_ok-s.s in
    let t = c.in_ok-t.t in
    let f = c.in_ok-t.ensures.low_after ∙ low_byte _ _ _ a.content _ _ c.byte_of.ensures in
    let own = c.put_low.ensures ∙ ap (λ (x : List ℕ). set x 6 t.low.len) c.in_ok-s.ensures.of_its_words ∙ low_changes s t a.low.now a.ordinary.now a.content a.sp.now _ f in
    let p = writes a.w.now a.low.now (λ (s : Sender). low_offered s a.low.now a.ordinary.now a.content a.sp.now) _ c.in_ok-s.ensures.result_value _ _ _ f own in
    record { low_after = p.0; lasting = p.1 c.in_ok-t.ensures.sound_answer }
