-- `receiver::swift::busy_next` meets its contract: the TP's end cuts the data, or the packet is handed out.
-- Assumes nothing.
use mathlib.Core.Path.{refl, sym, ◌∙◌}
use native.Mathlib.Omega.{arith}
use Rattle.receiver.proofs.Swiftly.{behind_of_lem, kept_cut, kept_in_lem, kept_whole}
use borrow.Author.Rules.{rules}
use Rattle.receiver.proofs.swift.busy_next.Goals as goal

pub overflow_add-kept : goal.overflow_add-kept
overflow_add-kept c =
    let a = c.args in
    let f = kept_in_lem a.r a.tp.now c.requires.0 a.room.now a.room.now a.tp.now c.requires.2 refl _ _ _ _ _ _ c.requires.1 in
    omega (arith, f, c.if-rest-left.true)

pub returns-then-rest-left : goal.returns-then-rest-left
returns-then-rest-left c =
    let a = c.args in
    let b = behind_of_lem _ a.r.stream a.tp.now _ c.begin.ensures c.in_ok-n.was in
    let e = sym c.min.ensures ∙ c.if-min-n.false in
    rw c.nothing.ensures (kept_cut a.r a.tp.now c.requires.0 a.room.now _ _ c.requires.2 (search rules) a.header a.left _ _ _ _ _ _ c.requires.1 (λ i. omega (arith, c.type_inv.tp i)) b e c.counted-count.ensures c.copy_at.ensures c.if-rest-left.true _ refl (c.put.ensures.w_after, c.put.ensures.bytes))

pub overflow_add-find : goal.overflow_add-find
overflow_add-find c =
    let a = c.args in
    let f = kept_in_lem a.r a.tp.now c.requires.0 a.room.now a.room.now a.tp.now c.requires.2 refl _ _ _ _ _ _ c.requires.1 in
    omega (arith, f)

pub returns : goal.returns
returns c =
    let a = c.args in
    let b = behind_of_lem _ a.r.stream a.tp.now _ c.begin.ensures c.in_ok-n.was in
    let e = sym c.min.ensures ∙ c.if-min-n.false in
    kept_whole a.r a.tp.now c.requires.0 a.room.now _ _ c.requires.2 (search rules) a.header a.left _ _ _ _ _ _ c.requires.1 (λ i. omega (arith, c.type_inv.tp i)) b e c.counted-count.ensures c.copy_at-2.ensures c.if-rest-left.false (sym c.hands.ensures ∙ c.if-not-hands.false) (rw c.between.ensures at c.put-2.ensures.w_after)
