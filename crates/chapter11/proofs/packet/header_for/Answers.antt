-- `chapter11::packet::header_for` meets its contract.
-- Assumes nothing.
use Rattle.std.proofs.Common.{refl}
use Rattle.chapter11.proofs.Sources.{header_is}
use Rattle.chapter11.proofs.packet.header_for.Goals as goal

pub returns : goal.returns
returns c = header_is c.args.p.now _ _ _ _ _ _ _ _ _ _ _ c.requires refl c.put.ensures c.four_of.ensures c.put-2.ensures c.sum_of.ensures c.two_of-sum.ensures c.put-3.ensures
