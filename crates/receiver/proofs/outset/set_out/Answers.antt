-- `receiver::outset::set_out` meets its contract: the forecast decides: resume, 12, agree, or 13.
-- Assumes nothing.
use mathlib.Core.Path.{sym, ◌∙◌}
use native.Mathlib.Omega.{arith}
use Rattle.receiver.proofs.SettingOut.{set_agree, set_by, set_else}
use Rattle.receiver.proofs.outset.set_out.Goals as goal

pub forecast-requires : goal.forecast-requires
forecast-requires c = (omega arith, c.requires.1)

pub returns-then-k-n : goal.returns-then-k-n
returns-then-k-n c = let a = c.args in set_agree a.w a.n a.tp.now _ (sym c.forecast.ensures ∙ c.in-At.is) c.if-k-n.true

pub returns-in-Off : goal.returns-in-Off
returns-in-Off c = let a = c.args in rw c.upon-phase.ensures (set_by a.w a.n a.tp.now _ (sym c.forecast.ensures ∙ c.in-Off.is))

pub returns-in-Bad : goal.returns-in-Bad
returns-in-Bad c = let a = c.args in set_by a.w a.n a.tp.now _ (sym c.forecast.ensures ∙ c.in-Bad.is)

pub returns-else-k-n : goal.returns-else-k-n
returns-else-k-n c = let a = c.args in set_else a.w a.n a.tp.now _ (sym c.forecast.ensures ∙ c.in-At.is) c.if-k-n.false
