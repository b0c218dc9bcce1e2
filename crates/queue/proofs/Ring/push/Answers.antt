-- Refused, or written, in one stride or apart. Assumes nothing.
use mathlib.Core.Path.{◌≡◌, ap, ◌∙◌}
use native.Mathlib.Omega.{arith}
use Prim.Native.Nat.{◌+◌, ◌-◌, ◌≤◌, ◌<◌}
use lib.ListN.{length, take, drop, length-drop}
use lib.Seq.{paste, length-take-le}
use Rattle.queue.proofs.Puts.{push_none, push_done, write_six, write_stride}
use borrow.Author.Rules.{rules}
use Rattle.queue.proofs.Ring.push.Goals as goal
use Rattle.queue.proofs.Ring.push.Goals.{then-free-lt6-via-then-free-lt6, then-free-lt6-via-else-free-lt6+then-free-body}

pub returns-then-free-lt6 : goal.returns-then-free-lt6
returns-then-free-lt6 c =
    let a = c.args in
    let l : length a.h ≡ 6 = search rules in
    let full : length a.buf.now - a.self.len < 6 + length a.body.now =
    elim c.then-free-lt6.branch [ then-free-lt6-via-then-free-lt6 w ↦ omega (arith, w.if-free-lt6) | then-free-lt6-via-else-free-lt6+then-free-body w ↦ omega (arith, w.if-free-lt6, w.if-free-body) ] in
    push_none a.buf.now a.h a.body.now a.self c.requires l full

pub returns-then-cap-tail : goal.returns-then-cap-tail
returns-then-cap-tail c =
    let a = c.args in
    let l : length a.h ≡ 6 = search rules in
    push_done a.buf.now a.h a.body.now a.self c.requires l (omega (arith, c.if-free-lt6.false, c.if-free-body.false)) _ c.write_apart.ensures

pub returns : goal.returns
returns c =
    let a = c.args in
    let l : length a.h ≡ 6 = search rules in
    let p : 6 + length a.body.now ≤ length a.buf.now - a.self.len = omega (arith, c.if-free-lt6.false, c.if-free-body.false) in
    let at = c.place_of-tail.result in
    let four = c.copy_run.ensures ∙ ap (paste a.buf.now at (take 4 a.h)) (length-take-le 4 a.h (omega (arith, l))) in
    let two = c.copy_run-2.ensures ∙ ap (paste c.copy_run.new.dst (at + 4) (take 2 (drop 4 a.h))) (length-take-le 2 (drop 4 a.h) (omega (arith, l, length-drop 4 a.h))) in
    let six = write_six a.buf.now a.h _ _ at l (omega arith) four two in
    push_done a.buf.now a.h a.body.now a.self c.requires l p _ (write_stride a.buf.now a.h a.body.now a.self c.requires l p _ _ _ c.place_of-tail.ensures c.if-cap-tail.false six c.copy_run-3.ensures)
