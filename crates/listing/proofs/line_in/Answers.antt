-- `listing::line_in` meets its contract: the rest is put over what stands behind the number, or both by way of a text; and nothing
-- has no line.
-- Assumes nothing.
use Rattle.std.proofs.Common.{◌+◌, ◌≤◌, length, sym, ap, ◌∙◌, leb-true}
use Rattle.block.specs.Block.{put}
use Rattle.block.proofs.Laws.{nothing}
use Rattle.listing.specs.Lines.{line_of}
use Rattle.listing.proofs.Laws.{begun_room, begun_line, line_of_lem, rest_some}
use Rattle.listing.proofs.line_in.Goals as goal

pub returns-in-Nothing-clause-at_after : goal.returns-in-Nothing-clause-at_after
returns-in-Nothing-clause-at_after c =
    let a = c.args in
    nothing a.out.now a.held.at ∙ ap (λ f. put a.out.now a.held.at (line_of a.number f)) (sym c.in-Nothing.is)

pub returns-then-not-has_room : goal.returns-then-not-has_room
returns-then-not-has_room c =
    let a = c.args in
    record { kept = c.requires; at_after = c.by_text-end.ensures ∙ ap (put a.out.now a.held.at) (line_of_lem a.number a.find c.in_default.not-Nothing) }

pub rest-end-requires : goal.rest-end-requires
rest-end-requires c =
    let a = c.args in
    let free : a.held.at + 80 ≤ length a.out.now = leb-true _ _ (sym c.has_room.ensures ∙ c.if-not-has_room.false) in
    begun_room a.out.now a.held.at a.number _ _ c.put-begun.ensures.0 free

pub returns : goal.returns
returns c =
    let a = c.args in
    let free : a.held.at + 80 ≤ length a.out.now = leb-true _ _ (sym c.has_room.ensures ∙ c.if-not-has_room.false) in
    let line = begun_line a.out.now a.held.at a.number _ _ c.put-begun.ensures.0 free a.find (rest_some a.find c.in_default.not-Nothing) _ _ c.rest-end.ensures in
    record { kept = c.put-begun.ensures.1; at_after = line ∙ ap (put a.out.now a.held.at) (line_of_lem a.number a.find c.in_default.not-Nothing) }
