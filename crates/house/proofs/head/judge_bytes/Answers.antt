-- `house::head::judge_bytes` meets its contract: the two bytes of the mark decide, and the rest is `rule`'s.
-- Assumes nothing.
use native.Mathlib.Omega.{arith}
use Rattle.house.specs.Records.{judged_of}
use Rattle.house.proofs.Slicing.{other_first, other_second}
use Rattle.house.proofs.head.judge_bytes.Goals as goal
use Rattle.house.proofs.head.judge_bytes.Goals.{then-s-via-then-s, then-s-via-else-s+then-s-ne7}

pub returns-then-s : goal.returns-then-s
returns-then-s c =
    let a = c.args in
    elim c.then-s.branch [
      | then-s-via-then-s w ↦ other_first a.place a.s.now (omega (arith, c.type_inv.s 1)) w.if-s.true
      | then-s-via-else-s+then-s-ne7 w ↦ other_second a.place a.s.now (omega (arith, c.type_inv.s 1)) w.if-s-ne7.true
    ]

pub returns : goal.returns
unfolding judged_of
returns c = rw (c.if-s.false, c.if-s-ne7.false, ← c.from_four-length.ensures, c.rule.ensures)
