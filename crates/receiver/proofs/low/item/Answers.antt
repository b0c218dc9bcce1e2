-- `receiver::low::item` meets its contract: the four ways for an LLEP to be broken, in order.
-- Assumes nothing.
use mathlib.Core.Path.{refl, sym, ◌∙◌}
use native.Mathlib.Omega.{arith}
use Rattle.receiver.proofs.Walking.{item_beyond, item_short, item_whole, read_few}
use Rattle.receiver.proofs.low.item.Goals as goal

pub returns-then-tp-at-lt7 : goal.returns-then-tp-at-lt7
returns-then-tp-at-lt7 c =
    let a = c.args in
    item_short a.tp.now a.at c.if-tp-at-lt7.true

pub closed-requires : goal.closed-requires
closed-requires c =
    let b = c.if-tp-at-lt7.false in
    let e = sym c.read_at.ensures ∙ c.in_ok-header.was in
    (omega arith, read_few _ _ e)

pub returns-in_err-header : goal.returns-in_err-header
returns-in_err-header c =
    let a = c.args in
    rw c.from_residual.ensures (item_beyond a.tp.now a.at _ c.if-tp-at-lt7.false refl (sym c.read_at.ensures ∙ c.in_err-header.was))

pub returns : goal.returns
returns c =
    let a = c.args in
    c.closed.ensures ∙ item_whole a.tp.now a.at _ _ c.if-tp-at-lt7.false refl (sym c.read_at.ensures ∙ c.in_ok-header.was)
