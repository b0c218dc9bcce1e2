-- `house::head::judge` meets its contract: a script's and a recording's heads are judged by functions of their own.
-- Assumes nothing.
use mathlib.Core.Path.{ap, sym, ◌∙◌}
use Rattle.house.specs.Records.{judged_of}
use Rattle.house.proofs.head.judge.Goals as goal

pub returns-in-Sending : goal.returns-in-Sending
returns-in-Sending c = c.judge_sending.ensures ∙ ap (λ p. judged_of p c.args.s.now) (sym c.in-Sending.is)

pub returns-in-Listing : goal.returns-in-Listing
returns-in-Listing c = c.judge_listing.ensures ∙ ap (λ p. judged_of p c.args.s.now) (sym c.in-Listing.is)
