-- `reading::low_in` meets its contract: each test in turn, by the laws of `Accepted`. Assumes nothing.
use Rattle.std.specs.Prelude.{Some}
use mathlib.Core.Path.{sym, ap, ◌∙◌}
use Prim.Native.Nat.{◌+◌, ◌/◌}
use native.Mathlib.Omega.{arith}
use Rattle.sender.specs.Steps.{found}
use Rattle.sender.proofs.Passing.{found_some}
use Rattle.sender.proofs.Accepted.{the_same, not_some, is_short, is_long, not_first, not_second, is_low}
use Rattle.sender.proofs.reading.low_in.Goals as goal
use Rattle.sender.proofs.reading.low_in.Goals.{then-n-size-via-then-n-size, then-n-size-via-else-n-size+then-payload-size, then-first-w-via-then-first-w, then-first-w-via-else-first-w+then-encode-w}

pub returns-then-n-size : goal.returns-then-n-size
returns-then-n-size c =
    let a = c.args in
    ap found (elim c.then-n-size.branch [
      | then-n-size-via-then-n-size w ↦ is_short a.w.first a.w.second c.requires.1.1.0 c.requires.1.1.1 a.payload a.n (omega (arith, c.requires.0))
      | then-n-size-via-else-n-size+then-payload-size w ↦ is_long a.w.first a.w.second c.requires.1.1.0 c.requires.1.1.1 a.payload a.n (omega arith)
    ])

pub returns-in_err-first : goal.returns-in_err-first
returns-in_err-first c =
    let a = c.args in
    c.from_residual.ensures ∙ ap found (not_first a.w.first a.w.second c.requires.1.1.0 c.requires.1.1.1 a.payload a.n c.requires.1.0 (λ e. not_some _ (sym c.in_err-first.was ∙ c.first_word.ensures ∙ e)))

pub returns-then-first-w : goal.returns-then-first-w
returns-then-first-w c =
    let a = c.args in
    let o = sym c.first_word.ensures ∙ c.in_ok-first.was in
    ap found (elim c.then-first-w.branch [
      | then-first-w-via-then-first-w w ↦ not_first a.w.first a.w.second c.requires.1.1.0 c.requires.1.1.1 a.payload a.n c.requires.1.0 (λ e. w.if-first-w.true (the_same _ _ (sym o ∙ e)))
      | then-first-w-via-else-first-w+then-encode-w w ↦ not_second a.w.first a.w.second c.requires.1.1.0 c.requires.1.1.1 a.payload a.n c.requires.1.0 (λ e. w.if-encode-w.true (w.encode.ensures ∙ e))
    ])

pub returns : goal.returns
returns c =
    let a = c.args in
    found_some (6 + a.w.second / 4096) (omega arith) ∙ ap found (is_low a.w.first a.w.second c.requires.1.1.0 c.requires.1.1.1 a.payload a.n (omega (arith, c.requires.0, c.if-n-size.false)) (omega (arith, c.if-payload-size.false)) (sym c.first_word.ensures ∙ c.in_ok-first.was ∙ ap Some c.if-first-w.false) (sym c.encode.ensures ∙ c.if-encode-w.false))
