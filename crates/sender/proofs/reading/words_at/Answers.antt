-- `reading::words_at` meets its contract: of one run, by `words_run`, or of the whole header. Assumes nothing.
use mathlib.Core.Path.{◌∙◌}
use Prim.Native.Nat.{ℕ, ◌+◌}
use native.Mathlib.Omega.{arith}
use lib.ListN.{length, get_or}
use Rattle.queue.proofs.Runs.{place_in}
use Rattle.sender.proofs.Heads.{head_run, words_run}
use Rattle.sender.proofs.reading.words_at.Goals as goal

pub overflow_sub-buf : goal.overflow_sub-buf
overflow_sub-buf c =
    let l = c.requires.kept.len in
    let r = place_in (length c.args.buf.now) c.args.q.head 0 c.requires.kept.head _ c.place_of-at.ensures (omega (arith, c.requires.le_len)) in
    omega arith

pub overflow_cast-result : goal.overflow_cast-result
overflow_cast-result c = omega (arith, c.head_across-h.ensures.1)

pub returns-then-buf-at-lt6 : goal.returns-then-buf-at-lt6
returns-then-buf-at-lt6 c = let h = c.head_across-h.ensures in let b = c.head_across-h.ensures.1 in (omega arith ∙ h.0, (omega arith, omega arith))

pub returns : goal.returns
returns c =
    let a = c.args in
    let b = c.args.buf.now in
    let at : ℕ = c.place_of-at.result in
    let byte = c.type_inv.buf in
    let x = c.from_three.ensures in
    let y = c.from_three-2.ensures in
    let r = head_run b a.q 0 at c.requires.kept c.requires.le_len c.place_of-at.ensures (omega (arith, c.if-buf-at-lt6.false)) in
    (words_run (get_or b at 0) (get_or b (at + 1) 0) (get_or b (at + 2) 0) (get_or b (at + 3) 0) (get_or b (at + 4) 0) (get_or b (at + 5) 0) _ _ x y ∙ r, (omega (arith, x, byte at, byte (at + 1), byte (at + 2)), omega (arith, y, byte (at + 3), byte (at + 4), byte (at + 5))))
