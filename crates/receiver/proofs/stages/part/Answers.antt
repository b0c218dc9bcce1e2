-- `receiver::stages::part` meets its contract: the low-latency part, if there is one.
-- Assumes nothing.
use Rattle.receiver.proofs.Parting.{part_broken, part_due, part_gives, part_lent}
use mathlib.Core.Path.{sym, ◌∙◌}
use Rattle.receiver.proofs.stages.part.Goals as goal

pub due-requires : goal.due-requires
due-requires c =
    let a = c.args in
    let l = c.requires.1 in
    let e = sym c.low_walk.ensures ∙ c.in-End.is in
    (c.requires.0, part_lent a.r a.stamp a.low a.offset a.at a.tp.now l _ e)

pub returns-in-Broken : goal.returns-in-Broken
returns-in-Broken c =
    let a = c.args in
    let l = c.requires.1 in
    let e = sym c.low_walk.ensures ∙ c.in-Broken.is in
    rw (c.drop_rest.ensures, c.of.ensures) (part_broken a.r a.stamp a.low a.offset a.at a.tp.now l _ e)

pub returns-in-End : goal.returns-in-End
returns-in-End c =
    let a = c.args in
    let l = c.requires.1 in
    let e = sym c.low_walk.ensures ∙ c.in-End.is in
    part_due a.r a.stamp a.low a.offset a.at a.tp.now l _ _ e c.due.ensures

pub returns-in-Gives : goal.returns-in-Gives
returns-in-Gives c =
    let a = c.args in
    let l = c.requires.1 in
    let e = sym c.low_walk.ensures ∙ c.in-Gives.is in
    rw (c.step_with.ensures, c.of-in-Gives.ensures, c.low_stage-stage.ensures) (part_gives a.r a.stamp a.low a.offset a.at a.tp.now l _ _ _ _ _ c.requires.0 e)
