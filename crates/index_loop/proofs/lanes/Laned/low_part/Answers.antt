-- `index_loop::lanes::Laned::low_part` meets its contract: it goes on within the TP, by calls.
-- Assumes nothing.
use mathlib.Core.Path.{refl, subst}
use native.Mathlib.Omega.{arith}
use lib.ListN.{length}
use Rattle.index_loop.specs.Lanes.{PartFits}
use Rattle.index_loop.proofs.Hearing.{pauses_none}
use Rattle.index_loop.proofs.Leading.{part_of_none, part_then, ran_low}
use Rattle.index_loop.proofs.Passing.{part_fits}
use Rattle.index_loop.proofs.lanes.Laned.low_part.Goals as goal

pub returns-then-not-present-clause-parted_by : goal.returns-then-not-present-clause-parted_by
returns-then-not-present-clause-parted_by c =
    let a = c.args in
    part_of_none a.self.covered a.self.stamp a.present a.self.tp.now a.out.now a.held c.if-not-present.true

pub loop-init : goal.loop-init
loop-init c = record { four = omega arith; end = c.requires; ran = λ b k l o m d y s. pauses_none; out = refl }

pub returns-in_default : goal.returns-in_default
returns-in_default c =
    let a = c.args in
    let i = c.loop.invariant in
    let w = c.low-noted.ensures in
    let e = c.part_of-part.ensures in
    record {
      part_fits = part_fits a.self.tp.now c.loop.place _ _ i.four i.end w.lows_value e;
      parted_by = part_then _ _ _ _ _ _ _ _ _ _ _ _ i.four i.end i.ran w.lows_value w.at_after e a.present c.if-not-present.false;
    }

pub loop-preserved : goal.loop-preserved
loop-preserved c =
    let i = c.loop.invariant in
    let w = c.low-noted.ensures in
    let e = c.part_of-part.ensures in
    let g = c.in-Within.is in
    let n = length c.args.self.tp.now in
    let f = subst (PartFits n) g (part_fits c.args.self.tp.now c.loop.place _ _ i.four i.end w.lows_value e) in
    record { four = f.0; end = f.1; ran = ran_low _ _ _ _ _ _ _ _ _ _ _ _ i.four i.end i.ran w.lows_value w.at_after e _ g; out = omega (arith, i.out) }
