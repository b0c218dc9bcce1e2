-- `console::first` meets its contract: each turn reads on, and the stretch begins at the block's start.
-- Assumes nothing.
use mathlib.Core.Path.{sym, ◌∙◌}
use native.Mathlib.Omega.{arith}
use Rattle.console.proofs.Laws.{stretch_from_start, as_told}
use Rattle.console.proofs.Console.first.Goals as goal

pub loop-unread-smaller : goal.loop-unread-smaller
loop-unread-smaller c =
    let l = c.loop-unread in
    let on = c.in_ok-unread.ensures in
    omega (arith, on.1.1.1.0, stretch_from_start l.block l.unread l.invariant.starts l.invariant.within)

pub loop-unread-preserved : goal.loop-unread-preserved
loop-unread-preserved c =
    let on = c.in_ok-unread.ensures in
    record { starts = on.1.0; within = on.1.1.0; same = omega arith }

pub returns-in-Ok-Some : goal.returns-in-Ok-Some
returns-in-Ok-Some c =
    let on = c.in_ok-unread.ensures in
    let whole = rw c.in-Ok-Some.field-0-is at c.in-Ok-Some.is in
    as_told c.read_on.new.block c.in_ok-unread.unread on.1.0 on.1.1.0 _ _ _ _ c.bytes_of-s.ensures (sym c.read_record.ensures ∙ whole) c.data_of.ensures (sym c.settings.ensures ∙ c.in_ok-settings-in-Ok-Some.was)
