-- `receiver::stages::due` meets its contract: behind the low-latency part.
-- Assumes nothing.
use Rattle.receiver.proofs.Parting.{behind_in, due_behind, due_outside}
use Prim.Native.Nat.{◌≤◌}
use native.Mathlib.Omega.{arith}
use lib.ListN.{length}
use mathlib.Core.Path.{sym, ◌∙◌}
use Rattle.receiver.proofs.stages.due.Goals as goal

pub set_about-requires : goal.set_about-requires
set_about-requires c =
    let a = c.args in
    let l = c.requires.1 in
    let e = sym c.place_of.ensures ∙ c.in-Ok.is in
    let p = c.requires.1.walk.at in
    let w = c.requires.1.whole in
    let d : a.at ≤ length a.tp.now = omega arith in
    (behind_in a.offset a.at (length a.tp.now) _ d e, l)

pub returns-in-Err : goal.returns-in-Err
returns-in-Err c =
    let a = c.args in
    let l = c.requires.1 in
    let e = sym c.place_of.ensures ∙ c.in-Err.is in
    rw (c.drop_rest.ensures, c.start.ensures) (due_outside a.r a.stamp a.offset a.at a.tp.now l _ e)

pub returns-in-Ok : goal.returns-in-Ok
returns-in-Ok c =
    let a = c.args in
    let l = c.requires.1 in
    let e = sym c.place_of.ensures ∙ c.in-Ok.is in
    due_behind a.r a.stamp a.offset a.at a.tp.now l _ _ e c.set_about.ensures
