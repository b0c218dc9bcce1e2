-- `house::whole::read_record` meets its contract: at each return the head and the length say which case holds.
-- Assumes nothing.
use mathlib.Core.Path.{sym}
use Rattle.std.proofs.lemmas.Result.{err_from_is_err_and}
use Rattle.house.proofs.Slicing.{too_short, cut_short, is_bad, is_whole_lem}
use Rattle.house.proofs.whole.read_record.Goals as goal

pub returns-then-s-lt8 : goal.returns-then-s-lt8
returns-then-s-lt8 c = sym (too_short _ _ c.if-s-lt8.true)

pub returns-in_err-said : goal.returns-in_err-said
returns-in_err-said c =
    let p = err_from_is_err_and c.from_residual.result c.from_residual.ensures.1 in
    rw (p.1, p.2) (is_bad _ _ _ c.if-s-lt8.false c.judge.ensures c.in_err-said.was)

pub returns-then-s-length_of : goal.returns-then-s-length_of
returns-then-s-length_of c = cut_short _ _ _ c.if-s-lt8.false c.judge.ensures c.in_ok-said.was c.length_of.ensures c.if-s-length_of.true

pub returns : goal.returns
returns c = is_whole_lem _ _ _ c.if-s-lt8.false c.judge.ensures c.in_ok-said.was c.length_of.ensures c.if-s-length_of.false
