-- `reading::span_at` meets its contract: fewer than six bytes are one span, others by their header. Assumes nothing.
use mathlib.Core.Path.{◌≡◌, sym, ap, ◌∙◌}
use Prim.Native.Nat.{ℕ, ◌-◌}
use native.Mathlib.Omega.{arith}
use lib.ListN.{length, drop, length-drop}
use Rattle.queue.specs.Ring.{held}
use Rattle.queue.proofs.Puts.{length_held}
use Rattle.sender.specs.Drawing.{span}
use Rattle.sender.proofs.Heads.{span_short}
use Rattle.sender.proofs.reading.span_at.Goals as goal

pub returns-then-left-lt6 : goal.returns-then-left-lt6
returns-then-left-lt6 c =
    let a = c.args in
    let q = held a.buf.now a.q in
    let l : length (drop a.at q) ≡ a.q.len - a.at = length-drop a.at q ∙ ap (λ (z : ℕ). z - a.at) (length_held a.buf.now a.q c.requires.kept) in
    sym l ∙ span_short (drop a.at q) (omega arith)

pub returns : goal.returns
unfolding span
returns c =
    let a = c.args in
    let q = held a.buf.now a.q in
    let l : length (drop a.at q) ≡ a.q.len - a.at = length-drop a.at q ∙ ap (λ (z : ℕ). z - a.at) (length_held a.buf.now a.q c.requires.kept) in
    rw (c.min.ensures, l, c.size_at.ensures.0)
