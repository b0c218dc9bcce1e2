-- `chapter11::packet::together` meets its contract.
-- Assumes nothing.
use Rattle.std.proofs.Common.{get_or, arith}
use Rattle.chapter11.proofs.Packets.{sum_size_most}
use Rattle.chapter11.proofs.packet.together.Goals as goal

pub overflow_add-result-2 : goal.overflow_add-result-2
overflow_add-result-2 c =
    let byte = c.shared_slice_known-1.given in
    omega (arith, byte 8, byte 9, byte 10, byte 11)

pub overflow_add-result-3 : goal.overflow_add-result-3
overflow_add-result-3 c =
    let byte = c.shared_slice_known-1.given in
    omega (arith, byte 8, byte 9, byte 10, byte 11, sum_size_most (get_or c.args.p.now 14 0))
