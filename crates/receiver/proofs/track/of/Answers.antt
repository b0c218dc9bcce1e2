-- `receiver::track::of` meets its contract: before a TP, by what is kept. Assumes nothing.
use mathlib.Core.Path.{subst}
use Rattle.receiver.specs.declared.Stage.{Stage}
use Rattle.receiver.specs.State.{Fine, Staged}
use Rattle.receiver.specs.Tracks.{OwnIn}
use Rattle.receiver.proofs.Laned.{walk_is}
use Rattle.receiver.proofs.Tracked.{tracks_kept, tracks_none, tracks_unkept}
use Rattle.receiver.proofs.track.of.Goals as goal

pub returns-in_default : goal.returns-in_default
returns-in_default c = let e = c.plain.ensures in tracks_none c.plain.result c.args.r e.0 e.1

pub returns-then-w-ne0 : goal.returns-then-w-ne0
returns-then-w-ne0 c = let e = c.plain-then-w-ne0.ensures in tracks_none c.plain-then-w-ne0.result c.args.r e.0 e.1

pub unkept-requires : goal.unkept-requires
unkept-requires c =
    subst (λ (g : Stage). Staged g c.args.r.walk) c.in-Fresh.is c.requires.0.stage

pub returns-in-None : goal.returns-in-None
returns-in-None c =
    let r = c.args.r in
    tracks_unkept c.unkept.result r _ c.in-Fresh.is (walk_is r.walk _ c.if-w-ne0.false c.in-None.is) c.unkept.ensures

pub returns-in-Some : goal.returns-in-Some
returns-in-Some c =
    let r = c.args.r in
    let w = c.args.r.walk in
    let fresh = c.in-Fresh.is in
    let k = c.in-Some.is in
    tracks_kept c.kept_of.result r w.phase w.began _ _ _ _ fresh (walk_is w _ c.if-w-ne0.false k) (subst (λ (g : Stage). Staged g w) fresh c.requires.0.stage)
    (subst (Fine r.limit w.phase) k c.requires.0.walk.phase) (subst (OwnIn w.began w.phase) k c.requires.1) c.kept_of.ensures
