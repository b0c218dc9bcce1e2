-- `house::head::judge_sending` meets its contract: four bytes at once are a draw's or an SP's, or each byte is judged.
-- Assumes nothing.
use native.Mathlib.Omega.{arith}
use Rattle.house.proofs.Slicing.{draw_head, ordinary_head, low_head_lem}
use Rattle.house.proofs.head.judge_sending.Goals as goal

pub returns-then-length-eq0 : goal.returns-then-length-eq0
returns-then-length-eq0 c = draw_head c.args.s.now (λ i. omega (arith, c.type_inv.s i)) _ _ c.start_of-start.ensures c.from_four-length.ensures c.if-start-eq198599.true c.if-length-eq0.true

pub returns-then-start-eq67527 : goal.returns-then-start-eq67527
returns-then-start-eq67527 c = ordinary_head c.args.s.now (λ i. omega (arith, c.type_inv.s i)) _ _ c.start_of-start.ensures c.from_four-length.ensures c.if-start-eq67527.true c.if-length-le32768.true

pub returns-then-start-eq133063 : goal.returns-then-start-eq133063
returns-then-start-eq133063 c = low_head_lem c.args.s.now (λ i. omega (arith, c.type_inv.s i)) _ _ c.start_of-start.ensures c.from_four-length.ensures c.if-start-eq133063.true c.if-length-le32768.true
