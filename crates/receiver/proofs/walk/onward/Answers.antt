-- `receiver::walk::onward` meets its contract: the invariant: the call that the walk still asks for is the one asked for at first. The measure counts bytes, then events.
-- Assumes nothing.
use mathlib.Core.Path.{refl, ◌∙◌, ◌≡◌}
use native.Mathlib.Omega.{arith}
use lib.ListN.{length}
use Rattle.receiver.proofs.Striding.{both_ends, both_on, stride_ends, stride_on}
use borrow.Author.Rules.{rules}
use Rattle.receiver.proofs.walk.onward.Goals as goal

pub loop-a-init : goal.loop-a-init
loop-a-init c = (refl, c.requires, refl)

pub on-requires : goal.on-requires
on-requires c = let l = c.loop-a in rw l.invariant.0 l.invariant.1

pub advance_in-requires : goal.advance_in-requires
advance_in-requires c =
    let l = c.loop-a in
    let d = c.on in
    let n : length d.new.room ≡ length l.room = search rules in
    rw n (stride_on (length l.room) _ l.w _ l.room _ _ d.ensures _ c.in-More.is).sound

pub loop-a-smaller : goal.loop-a-smaller
loop-a-smaller c =
    let l = c.loop-a in
    let a = c.args in
    let d = c.on in
    let e = c.advance_in in
    let full : length d.new.room ≡ length a.room.now = search rules in
    let s = rw l.invariant.0 at (stride_on (length l.room) a.stamp l.w a.tp.now l.room d.new.room _ d.ensures _ c.in-More.is) in
    (both_on a.stamp a.tp.now l.room d.new.room e.new.room l.w _ _ (length a.room.now) s full (λ i. omega (arith, c.type_inv.tp i)) e.ensures _ c.in-More-advance_in.is).less

pub loop-a-preserved : goal.loop-a-preserved
loop-a-preserved c =
    let l = c.loop-a in
    let a = c.args in
    let d = c.on in
    let e = c.advance_in in
    let full : length d.new.room ≡ length a.room.now = search rules in
    let s = rw l.invariant.0 at (stride_on (length l.room) a.stamp l.w a.tp.now l.room d.new.room _ d.ensures _ c.in-More.is) in
    let o = both_on a.stamp a.tp.now l.room d.new.room e.new.room l.w _ _ (length a.room.now) s full (λ i. omega (arith, c.type_inv.tp i)) e.ensures _ c.in-More-advance_in.is in
    let n : length e.new.room ≡ length a.room.now = search rules in
    (n, o.sound, o.same ∙ l.invariant.2)

pub returns-in-Stop : goal.returns-in-Stop
returns-in-Stop c =
    let l = c.loop-a in
    let a = c.args in
    let d = c.on in
    let s = rw l.invariant.0 at d.ensures in
    stride_ends (length a.room.now) a.stamp l.w a.tp.now l.room d.new.room _ s _ c.in-Stop.is a.start a.room.now l.invariant.2

pub returns-in-Stop-advance_in : goal.returns-in-Stop-advance_in
returns-in-Stop-advance_in c =
    let l = c.loop-a in
    let a = c.args in
    let d = c.on in
    let e = c.advance_in in
    let full : length d.new.room ≡ length a.room.now = search rules in
    let s = rw l.invariant.0 at (stride_on (length l.room) a.stamp l.w a.tp.now l.room d.new.room _ d.ensures _ c.in-More.is) in
    both_ends a.stamp a.tp.now l.room d.new.room e.new.room l.w _ _ (length a.room.now) s full (λ i. omega (arith, c.type_inv.tp i)) e.ensures _ c.in-Stop-advance_in.is a.start a.room.now l.invariant.2
