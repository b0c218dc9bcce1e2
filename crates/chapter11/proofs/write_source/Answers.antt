-- `chapter11::write_source` meets its contract: four pieces, one after the other, are the source packet.
-- Assumes nothing.
use Rattle.std.proofs.Common.{ap, ◌∙◌, arith}
use Rattle.chapter11.specs.Source.{protected}
use Rattle.chapter11.proofs.Packets.{within}
use Rattle.chapter11.proofs.Sources.{source_put}
use Rattle.chapter11.proofs.write_source.Goals as goal

pub fields_in-requires : goal.fields_in-requires
fields_in-requires c = record { packet_value = c.requires.packet_value; n_value = (within _ _ c.requires.packet_value c.requires.cut_value).left }

pub header_for-header-requires : goal.header_for-header-requires
header_for-header-requires c = (within _ _ c.requires.packet_value c.requires.cut_value).long

pub slice_bounds-put-count-2 : goal.slice_bounds-put-count-2
slice_bounds-put-count-2 c = (within _ _ c.requires.packet_value c.requires.cut_value).low

pub slice_bounds-put-start-2 : goal.slice_bounds-put-start-2
slice_bounds-put-start-2 c =
    let i = within _ _ c.requires.packet_value c.requires.cut_value in
    omega (arith, i.low)

pub slice_bounds-put-end-3 : goal.slice_bounds-put-end-3
slice_bounds-put-end-3 c =
    let i = within _ _ c.requires.packet_value c.requires.cut_value in
    omega (arith, i.order, i.high)

pub slice_bounds-put-count-3 : goal.slice_bounds-put-count-3
slice_bounds-put-count-3 c = (within _ _ c.requires.packet_value c.requires.cut_value).high

pub slice_bounds-put-start-3 : goal.slice_bounds-put-start-3
slice_bounds-put-start-3 c = (within _ _ c.requires.packet_value c.requires.cut_value).high

pub returns : goal.returns
returns c =
    source_put c.args.packet.now c.args.out.now c.args.cut c.requires.packet_value c.requires.cut_value c.requires.left_in_bounds _ _ _ _ _ _ _ _ _ _ (c.protect-protected.ensures ∙ ap protected c.fields_in.ensures) c.header_for-header.ensures c.put-at.ensures c.put-at-2.ensures c.put-at-3.ensures c.put.ensures
