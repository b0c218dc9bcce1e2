-- `receiver::lane::lane_of` meets its contract: before a TP, by what is kept.
-- Assumes nothing.
use mathlib.Core.Path.{subst}
use Rattle.std.specs.Prelude.{Option}
use Rattle.receiver.specs.declared.Stage.{Stage}
use Rattle.receiver.specs.declared.walk.Kept.{Kept}
use Rattle.receiver.specs.State.{Fine, Staged}
use Rattle.receiver.proofs.Laned.{laned, walk_is}
use Rattle.receiver.proofs.lane.lane_of.Goals as goal

pub unkept-requires : goal.unkept-requires
unkept-requires c = let r = c.args.r in subst (λ (g : Stage). Staged g r.walk) c.in-Fresh.is c.requires.stage

pub kept_of-requires : goal.kept_of-requires
kept_of-requires c =
    let r = c.args.r in
    (subst (λ (g : Stage). Staged g r.walk) c.in-Fresh.is c.requires.stage, subst (λ (k : Option Kept). Fine r.limit r.walk.phase k) c.in-Some.is c.requires.walk.phase)

pub returns-in-None : goal.returns-in-None
returns-in-None c =
    let r = c.args.r in
    laned r _ c.in-Fresh.is (walk_is r.walk _ c.if-w-ne0.false c.in-None.is) c.unkept.result c.unkept.ensures

pub returns-in-Some : goal.returns-in-Some
returns-in-Some c =
    let r = c.args.r in
    laned r _ c.in-Fresh.is (walk_is r.walk _ c.if-w-ne0.false c.in-Some.is) c.kept_of.result c.kept_of.ensures
