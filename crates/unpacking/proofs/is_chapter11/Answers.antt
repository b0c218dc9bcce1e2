-- `unpacking::is_chapter11` meets its contract.
-- Assumes nothing.
use mathlib.Core.Path.{ap, sym}
use Rattle.unpacking.specs.Unpacking.{is_chapter11}
use Rattle.unpacking.proofs.is_chapter11.Goals as goal

pub returns-in-Low : goal.returns-in-Low
returns-in-Low c = ap is_chapter11 (sym c.in-Low.is)

pub returns-in-Ordinary : goal.returns-in-Ordinary
returns-in-Ordinary c = ap is_chapter11 (sym c.in-Ordinary.is)
