-- `chapter11::write_packet` meets its contract: five pieces, one after the other, are the packet.
-- Assumes nothing.
use Rattle.chapter11.proofs.Sources.{packet_put}
use Rattle.chapter11.proofs.write_packet.Goals as goal

pub returns : goal.returns
returns c =
    packet_put c.args.fields c.args.sp.now c.args.out.now _ _ _ _ _ _ _ _ _ _ _ _ _ _ c.requires.0 c.requires.1 c.two_of.ensures c.two_of-2.ensures c.four_of.ensures c.four_of-2.ensures c.put-at.ensures c.put-at-2.ensures c.put-at-3.ensures c.put-at-4.ensures c.put.ensures
