-- What the decoder reads. Assumes nothing.
use Rattle.std.proofs.Common.{sym, ap, ◌∙◌}
use Rattle.wire.specs.Reading.{number_of}
use Rattle.chapter11.proofs.Sources.{read_word}
use Rattle.chapter11.proofs.words.number_at.Goals as goal

pub returns-in_err-word : goal.returns-in_err-word
returns-in_err-word c =
    let a = c.args in
    c.from_residual.ensures ∙ sym (ap number_of c.in_err-word.was) ∙ read_word a.sp.now a.i _ _ c.from_three.ensures c.decode.ensures

pub returns : goal.returns
returns c =
    let a = c.args in
    sym (ap number_of c.in_ok-word.was) ∙ read_word a.sp.now a.i _ _ c.from_three.ensures c.decode.ensures
