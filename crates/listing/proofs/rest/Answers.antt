-- `listing::rest` meets its contract: the find's case picks the word and its numbers.
-- Assumes nothing.
use Rattle.std.proofs.Common.{sym, ap, ◌∙◌}
use Rattle.block.specs.Block.{put}
use Rattle.block.proofs.Laws.{nothing}
use Rattle.listing.specs.Lines.{rest_of}
use Rattle.listing.proofs.rest.Goals as goal

pub returns-in-Nothing : goal.returns-in-Nothing
returns-in-Nothing c =
    let a = c.args in
    nothing a.out.now a.at ∙ ap (λ f. put a.out.now a.at (rest_of f)) (sym c.in-Nothing.is)

pub returns-in-Refused : goal.returns-in-Refused
returns-in-Refused c =
    let a = c.args in
    c.worded.ensures ∙ ap (λ f. put a.out.now a.at (rest_of f)) (sym c.in-Refused.is)

pub returns-in-Notice : goal.returns-in-Notice
returns-in-Notice c =
    let a = c.args in
    c.worded-in-Notice.ensures ∙ ap (λ f. put a.out.now a.at (rest_of f)) (sym c.in-Notice.is)

pub returns-in-Low : goal.returns-in-Low
returns-in-Low c =
    let a = c.args in
    c.worded-in-Low.ensures ∙ ap (λ f. put a.out.now a.at (rest_of f)) (sym c.in-Low.is)

pub returns-in-Ordinary : goal.returns-in-Ordinary
returns-in-Ordinary c =
    let a = c.args in
    c.worded-in-Ordinary.ensures ∙ ap (λ f. put a.out.now a.at (rest_of f)) (sym c.in-Ordinary.is)
