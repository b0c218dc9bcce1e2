-- `receiver::series::opens` meets its contract: the first EP's data are cut by the TP's end, or the call is the same behind them.
-- Assumes nothing.
use mathlib.Core.Path.{refl}
use lib.ListN.{get_or}
use native.Mathlib.Omega.{arith}
use Rattle.receiver.specs.Words.{receiver_in}
use Rattle.receiver.proofs.Serially.{first_of, opened, words_between, words_count, words_plain}
use borrow.Author.Rules.{rules}
use Rattle.receiver.proofs.series.opens.Goals as goal

pub overflow_sub-tp : goal.overflow_sub-tp
overflow_sub-tp c = let f = first_of _ _ _ _ _ c.first_at.ensures c.in_ok-h.was in omega (arith, f.0.stands.six)

pub slice_bounds-copy_at-end : goal.slice_bounds-copy_at-end
slice_bounds-copy_at-end c =
    let n = c.min-n.ensures in
    let f = first_of _ _ _ _ _ c.first_at.ensures c.in_ok-h.was in
    omega (arith, f.0.stands.six)

pub returns : goal.returns
returns c =
    let a = c.args in
    let f = first_of _ _ _ _ _ c.first_at.ensures c.in_ok-h.was in
    opened (receiver_in a.w.now) a.tp.now c.requires.1.0 a.room.now _ c.requires.1.1 (search rules) (λ i. omega (arith, c.type_inv.tp i)) (get_or a.w.now 4 0) (receiver_in a.w.now).walk.began (words_plain a.w.now c.requires.0 c.if-w-ne1.false c.if-w-ne0.false c.requires.2 c.if-w-ne3.false) (words_between a.w.now c.requires.0 c.if-w-ne1.false c.if-w-ne0.false c.requires.2) _ (words_count a.w.now) _ c.past_fill-from.ensures _ f _ c.min-n.ensures c.copy_at.ensures _ (rw (c.of.ensures, c.own.ensures)) _ _ refl refl
