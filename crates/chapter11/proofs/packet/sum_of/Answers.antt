-- `chapter11::packet::sum_of` meets its contract: after i words the sum is that of the first i.
-- Assumes nothing.
use Rattle.std.proofs.Common.{◌≡◌, refl, ap, ◌∙◌, arith, rules}
use Rattle.chapter11.specs.Packet.{sum_of}
use Rattle.chapter11.proofs.Packets.{next_sum}
use Rattle.chapter11.proofs.packet.sum_of.Goals as goal

pub loop-i-init : goal.loop-i-init
unfolding sum_of
loop-i-init c = (search rules, refl)

pub two_at-sum-requires : goal.two_at-sum-requires
two_at-sum-requires c = omega arith

pub loop-i-preserved : goal.loop-i-preserved
loop-i-preserved c = (search rules, next_sum c.args.header.now c.loop-i.i c.loop-i.sum c.two_at-sum.result _ c.loop-i.invariant.1 c.two_at-sum.ensures refl)

pub returns : goal.returns
returns c =
    let e : c.loop-i.i ≡ 11 = omega arith in
    c.loop-i.invariant.1 ∙ ap (λ n. sum_of n c.args.header.now) e
