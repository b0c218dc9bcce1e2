-- `sender::open` meets its contract: each refusal in turn, or a fresh sender. Assumes nothing.
use mathlib.Core.Path.{sym, ◌∙◌}
use native.Mathlib.Omega.{arith}
use lib.ListN.{length}
use Rattle.wire.proofs.Allowing.{limits}
use Rattle.sender.proofs.Opens.{open_not, open_large, open_done, open_sound}
use Rattle.sender.proofs.open.Goals as goal
use Rattle.sender.proofs.open.Goals.{then-not-is_allowed-via-then-not-is_allowed, then-not-is_allowed-via-else-not-is_allowed+then-not-is_small}

pub returns-then-not-is_allowed-clause-result_value : goal.returns-then-not-is_allowed-clause-result_value
returns-then-not-is_allowed-clause-result_value c =
    let a = c.args in
    let l = length a.low.now in
    let o = length a.ordinary.now in
    elim c.then-not-is_allowed.branch [
      | then-not-is_allowed-via-then-not-is_allowed w ↦ open_not a.tp a.stream a.piece l o (sym c.is_allowed.ensures ∙ w.if-not-is_allowed.true)
      | then-not-is_allowed-via-else-not-is_allowed+then-not-is_small w ↦ open_large a.tp a.stream a.piece l o (sym c.is_allowed.ensures ∙ w.if-not-is_allowed.false) (sym w.is_small.ensures ∙ w.if-not-is_small.true)
    ]

pub overflow_sub-setting : goal.overflow_sub-setting
overflow_sub-setting c =
    let a = c.args in
    omega (arith, (limits a.tp a.stream a.piece (sym c.is_allowed.ensures ∙ c.if-not-is_allowed.false)).tp_least)

pub invariant_of-result : goal.invariant_of-result
invariant_of-result c =
    let a = c.args in
    open_sound a.tp a.stream a.piece (length a.low.now) (length a.ordinary.now) (sym c.is_allowed.ensures ∙ c.if-not-is_allowed.false) (sym c.is_small.ensures ∙ c.if-not-is_small.false)

pub returns : goal.returns
returns c =
    let a = c.args in
    let l = length a.low.now in
    let o = length a.ordinary.now in
    let e = sym c.is_allowed.ensures ∙ c.if-not-is_allowed.false in
    let h = sym c.is_small.ensures ∙ c.if-not-is_small.false in
    record { result_value = open_done a.tp a.stream a.piece l o e h; sound_answer = open_sound a.tp a.stream a.piece l o e h }
