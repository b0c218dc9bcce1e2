-- `chapter11::compose` meets its contract: each refusal is the definition's, in its order, and what is put is the result.
-- Assumes nothing.
use Rattle.std.proofs.Common.{sym, ◌∙◌}
use Rattle.chapter11.proofs.Packets.{within}
use Rattle.chapter11.proofs.Sources.{not_packet, no_room, not_fill, composed, zero_is}
use Rattle.chapter11.proofs.compose.Goals as goal

pub returns-then-not-is_packet : goal.returns-then-not-is_packet
returns-then-not-is_packet c =
    let a = c.args in
    not_packet a.packet.now a.out.now (sym c.is_packet.ensures ∙ c.if-not-is_packet.true)

pub cut_of-cut-requires : goal.cut_of-cut-requires
cut_of-cut-requires c = sym c.is_packet.ensures ∙ c.if-not-is_packet.false

pub returns-then-out-cut : goal.returns-then-out-cut
returns-then-out-cut c =
    let a = c.args in
    no_room a.packet.now a.out.now c.cut_of-cut.result (sym c.is_packet.ensures ∙ c.if-not-is_packet.false) c.cut_of-cut.ensures c.if-out-cut.true

pub slice_bounds-is_zero-count : goal.slice_bounds-is_zero-count
slice_bounds-is_zero-count c = (within _ _ (sym c.is_packet.ensures ∙ c.if-not-is_packet.false) c.cut_of-cut.ensures).order

pub slice_bounds-is_zero-start : goal.slice_bounds-is_zero-start
slice_bounds-is_zero-start c = (within _ _ (sym c.is_packet.ensures ∙ c.if-not-is_packet.false) c.cut_of-cut.ensures).order

pub slice_bounds-is_zero-end : goal.slice_bounds-is_zero-end
slice_bounds-is_zero-end c = (within _ _ (sym c.is_packet.ensures ∙ c.if-not-is_packet.false) c.cut_of-cut.ensures).high

pub returns-then-not-is_zero : goal.returns-then-not-is_zero
returns-then-not-is_zero c =
    let a = c.args in
    not_fill a.packet.now a.out.now c.cut_of-cut.result (sym c.is_packet.ensures ∙ c.if-not-is_packet.false) c.cut_of-cut.ensures c.if-out-cut.false (sym (zero_is _ _ c.is_zero.ensures) ∙ c.if-not-is_zero.true)

pub write_source-requires : goal.write_source-requires
write_source-requires c = record { packet_value = sym c.is_packet.ensures ∙ c.if-not-is_packet.false; cut_value = c.cut_of-cut.ensures; left_in_bounds = c.if-out-cut.false }

pub returns : goal.returns
returns c =
    let a = c.args in
    composed a.packet.now a.out.now c.cut_of-cut.result (sym c.is_packet.ensures ∙ c.if-not-is_packet.false) c.cut_of-cut.ensures c.if-out-cut.false _ c.write_source.result (sym (zero_is _ _ c.is_zero.ensures) ∙ c.if-not-is_zero.false) c.write_source.ensures
