-- `chapter11::reassemble` meets its contract: each refusal is the definition's, in its order, and what is put is the result.
-- Assumes nothing.
use Rattle.std.proofs.Common.{sym, ◌∙◌}
use Rattle.chapter11.proofs.Sources.{too_short, beyond, other_size, no_room_back, reassembled}
use Rattle.chapter11.proofs.reassemble.Goals as goal

pub returns-then-sp-lt24 : goal.returns-then-sp-lt24
returns-then-sp-lt24 c =
    let a = c.args in
    too_short a.sp.now a.out.now c.if-sp-lt24.true

pub returns-in_default : goal.returns-in_default
returns-in_default c =
    let a = c.args in
    beyond a.sp.now a.out.now c.if-sp-lt24.false (sym c.fields_of.ensures ∙ c.in_default.is)

pub returns-then-not-agree : goal.returns-then-not-agree
returns-then-not-agree c =
    let a = c.args in
    other_size a.sp.now a.out.now c.if-sp-lt24.false c.in-Some.fields (sym c.in-Some.is ∙ c.fields_of.ensures) (sym c.agree.ensures ∙ c.if-not-agree.true)

pub returns-then-out-sp : goal.returns-then-out-sp
returns-then-out-sp c =
    let a = c.args in
    no_room_back a.sp.now a.out.now c.if-sp-lt24.false c.in-Some.fields (sym c.in-Some.is ∙ c.fields_of.ensures) (sym c.agree.ensures ∙ c.if-not-agree.false) c.if-out-sp.true

pub returns : goal.returns
returns c =
    let a = c.args in
    reassembled a.sp.now a.out.now c.if-sp-lt24.false c.in-Some.fields (sym c.in-Some.is ∙ c.fields_of.ensures) (sym c.agree.ensures ∙ c.if-not-agree.false) _ c.write_packet.result c.if-out-sp.false c.write_packet.ensures
