-- `chapter11::fields_in` meets its contract.
-- Assumes nothing.
use Rattle.std.proofs.Common.{arith}
use Rattle.chapter11.proofs.Packets.{is}
use Rattle.chapter11.proofs.Sources.{fields_is}
use Rattle.chapter11.proofs.fields_in.Goals as goal

pub four_at-size-requires : goal.four_at-size-requires
four_at-size-requires c = omega (arith, (is _ c.requires.packet_value).long)

pub two_at-requires : goal.two_at-requires
two_at-requires c = omega (arith, (is _ c.requires.packet_value).long)

pub returns : goal.returns
returns c = fields_is c.args.packet.now c.two_at.result c.args.n c.four_at-size.result c.two_at.ensures c.four_at-size.ensures c.requires.n_value
