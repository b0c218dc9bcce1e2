-- `reading::size_at` meets its contract: by four bytes of one run, with the law `size_four`, or by the whole header. Assumes nothing.
use mathlib.Core.Path.{ap, ◌∙◌}
use Prim.Native.Nat.{ℕ, ◌+◌}
use native.Mathlib.Omega.{arith}
use lib.ListN.{length, get_or}
use Rattle.queue.proofs.Runs.{place_in}
use Rattle.sender.specs.Drawing.{size_in}
use Rattle.sender.proofs.Heads.{head_run, size_four}
use Rattle.sender.proofs.reading.size_at.Goals as goal

pub overflow_sub-buf : goal.overflow_sub-buf
overflow_sub-buf c =
    let l = c.requires.kept.len in
    let p = c.requires.i_bound in
    let r = place_in (length c.args.buf.now) c.args.q.head c.args.i c.requires.kept.head _ c.place_of-at.ensures (omega arith) in
    omega arith

pub returns-then-buf-at-lt6 : goal.returns-then-buf-at-lt6
returns-then-buf-at-lt6 c = (c.size_in.ensures.0 ∙ ap size_in c.head_across.ensures.0, c.size_in.ensures.1)

pub returns : goal.returns
returns c =
    let a = c.args in
    let b = c.args.buf.now in
    let at : ℕ = c.place_of-at.result in
    let byte = c.type_inv.buf in
    let x = c.from_four-x.ensures in
    let e = size_four (get_or b at 0) (get_or b (at + 1) 0) (get_or b (at + 2) 0) (get_or b (at + 3) 0) (get_or b (at + 4) 0) (get_or b (at + 5) 0) _ (omega (arith, byte (at + 1))) (omega (arith, byte (at + 2))) (omega (arith, byte (at + 3))) (omega (arith, byte (at + 4))) (omega (arith, byte (at + 5))) x in
    (e ∙ ap size_in (head_run b a.q a.i at c.requires.kept c.requires.i_bound c.place_of-at.ensures (omega (arith, c.if-buf-at-lt6.false))), omega (arith, x, byte (at + 1), byte (at + 2), byte (at + 3), byte (at + 4)))
