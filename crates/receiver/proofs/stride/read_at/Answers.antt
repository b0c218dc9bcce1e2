-- `receiver::stride::read_at` meets its contract: two intact words say what any reader of them would.
-- Assumes nothing.
use mathlib.Core.Path.{◌∙◌, ap}
use Rattle.wire.specs.Reading.{header_in}
use Rattle.receiver.proofs.LaneAhead.{intact_header}
use Rattle.receiver.proofs.stride.read_at.Goals as goal

pub returns-in_default : goal.returns-in_default
returns-in_default c = c.read_header.ensures ∙ ap (λ w. header_in w) c.six-word.ensures

pub returns : goal.returns
returns c = intact_header _ _ _ _ c.read_intact.ensures c.in-Some.is c.six-word.ensures
