-- `sending::open` meets its contract: what `sender::open` gives, in words. Assumes nothing.
use Rattle.std.specs.Prelude.{Result, ⊤}
use Prim.Native.Nat.{ℕ}
use mathlib.Core.List.{List}
use mathlib.Core.Path.{ap, ◌∙◌}
use Rattle.sender.specs.declared.Refusal.{Refusal}
use Rattle.sender.proofs.Passing.{passed}
use Rattle.jenugathi.specs.Sending.{number_of, told}
use Rattle.jenugathi.proofs.Bytes.{opened_byte}
use Rattle.jenugathi.proofs.Sends.{lasts}
use Rattle.jenugathi.proofs.sending.open.Goals as goal

pub returns-in_err-s-clause-w_after : goal.returns-in_err-s-clause-w_after
returns-in_err-s-clause-w_after c =
    let a = c.args in
    let f = c.in_err-s.ensures.result_value ∙ opened_byte a.tp a.stream _ _ _ _ c.byte_of.ensures in
    ap (λ (x : Result ⊤ Refusal). record { number = number_of x; state = a.w.now }) (passed _ _ c.from_residual.ensures.1) ∙ ap (told a.w.now) f

pub returns : goal.returns
returns c =
    let a = c.args in
    let f = c.in_ok-s.ensures.result_value ∙ opened_byte a.tp a.stream _ _ _ _ c.byte_of.ensures in
    record { w_after = ap (λ (x : List ℕ). record { number = 0; state = x }) c.words_of.ensures ∙ ap (told a.w.now) f; lasting = lasts _ _ c.in_ok-s.ensures.sound_answer c.words_of.ensures }
