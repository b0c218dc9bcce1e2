-- `house::head::rule` meets its contract: at each return the tests that led there say which case holds.
-- Assumes nothing.
use mathlib.Core.Path.{sym, ◌∙◌}
use Rattle.house.specs.Records.{ruled}
use Rattle.house.proofs.head.rule.Goals as goal

pub returns-then-not-is_read : goal.returns-then-not-is_read
unfolding ruled
returns-then-not-is_read c = rw (sym c.is_read.ensures ∙ c.if-not-is_read.true)

pub returns-then-not-content_fits : goal.returns-then-not-content_fits
unfolding ruled
returns-then-not-content_fits c = rw (sym c.is_read.ensures ∙ c.if-not-is_read.false, sym c.content_fits.ensures ∙ c.if-not-content_fits.true)

pub returns-then-not-length_fits : goal.returns-then-not-length_fits
unfolding ruled
returns-then-not-length_fits c = rw (sym c.is_read.ensures ∙ c.if-not-is_read.false, sym c.content_fits.ensures ∙ c.if-not-content_fits.false, sym c.length_fits.ensures ∙ c.if-not-length_fits.true)

pub returns : goal.returns
unfolding ruled
returns c = rw (sym c.is_read.ensures ∙ c.if-not-is_read.false, sym c.content_fits.ensures ∙ c.if-not-content_fits.false, sym c.length_fits.ensures ∙ c.if-not-length_fits.false, c.record_of.ensures)
