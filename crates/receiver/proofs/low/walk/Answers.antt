-- `receiver::low::walk` meets its contract: the invariant: the walk from here says what the walk from the start says. The measure is what is left of the TP.
-- Assumes nothing.
use mathlib.Core.Path.{sym, ◌∙◌}
use native.Mathlib.Omega.{arith}
use Rattle.receiver.proofs.Walking.{ahead_at, goes_on_at, starts, stops_at}
use Rattle.receiver.proofs.low.walk.Goals as goal

pub loop-lows-init : goal.loop-lows-init
loop-lows-init c = let a = c.args in (c.requires, starts a.tp.now a.start)

pub loop-lows-smaller : goal.loop-lows-smaller
loop-lows-smaller c = let a = c.args in let l = c.loop-lows in omega (arith, ahead_at a.tp.now l.at _ (sym c.single.ensures ∙ c.in-More.is))

pub loop-lows-preserved : goal.loop-lows-preserved
loop-lows-preserved c = let a = c.args in let l = c.loop-lows in ((ahead_at a.tp.now l.at _ (sym c.single.ensures ∙ c.in-More.is)).1, goes_on_at a.tp.now a.start l.at _ (sym c.single.ensures ∙ c.in-More.is) l.invariant.1)

pub returns-in-Stop : goal.returns-in-Stop
returns-in-Stop c = let a = c.args in let l = c.loop-lows in stops_at a.tp.now a.start l.at _ (sym c.single.ensures ∙ c.in-Stop.is) l.invariant.1
