-- `house::head::judge_listing` meets its contract: four bytes at once are a TP's, or each byte is judged.
-- Assumes nothing.
use native.Mathlib.Omega.{arith}
use Rattle.house.proofs.Slicing.{tp_head}
use Rattle.house.proofs.head.judge_listing.Goals as goal

pub returns-then-length-le32768 : goal.returns-then-length-le32768
returns-then-length-le32768 c = tp_head c.args.s.now (λ i. omega (arith, c.type_inv.s i)) _ _ c.start_of.ensures c.from_four-length.ensures c.if-start_of-eq264135.true c.if-length-le32768.true
