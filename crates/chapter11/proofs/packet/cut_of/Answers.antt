-- `chapter11::packet::cut_of` meets its contract.
-- Assumes nothing.
use Rattle.chapter11.proofs.Packets.{is, cut_is}
use Rattle.std.proofs.Common.{arith}
use Rattle.chapter11.proofs.packet.cut_of.Goals as goal

pub bounds-p-14 : goal.bounds-p-14
bounds-p-14 c = omega (arith, (is _ c.requires).long)

pub together-whole-requires : goal.together-whole-requires
together-whole-requires c = (is _ c.requires).long

pub overflow_sub-kept : goal.overflow_sub-kept
overflow_sub-kept c = omega (arith, c.together-whole.ensures, (is _ c.requires).fits)

pub overflow_sub-result-2 : goal.overflow_sub-result-2
overflow_sub-result-2 c = omega (arith, c.together-whole.ensures, c.sum_size-sum.ensures, (is _ c.requires).fits)

pub returns : goal.returns
returns c = cut_is c.args.p.now c.together-whole.result c.sum_size-sum.result c.together-whole.ensures c.sum_size-sum.ensures
