-- `receiver::track::set_out` meets its contract: each sort of track goes its way.
-- Assumes nothing.
use mathlib.Core.Path.{refl}
use native.Mathlib.Omega.{arith}
use Rattle.receiver.proofs.TrackOut.{idle_at, lost_at_lem, sets_off}
use Rattle.receiver.proofs.track.set_out.Goals as goal

pub returns-then-tp-gt2051 : goal.returns-then-tp-gt2051
returns-then-tp-gt2051 c =
    let a = c.args in
    sets_off a.t a.offset a.here a.tp.now a.room.now a.room.now _ c.out_with.ensures c.requires.0.flips refl

pub returns-then-offset-here : goal.returns-then-offset-here
returns-then-offset-here c =
    let a = c.args in
    sets_off a.t a.offset a.here a.tp.now a.room.now a.room.now _ c.out_with-then-offset-here.ensures c.requires.0.flips refl

pub returns-then-here-tp : goal.returns-then-here-tp
returns-then-here-tp c =
    let a = c.args in
    sets_off a.t a.offset a.here a.tp.now a.room.now a.room.now _ c.out_with-then-here-tp.ensures c.requires.0.flips refl

pub returns-then-t-eq-IDLE : goal.returns-then-t-eq-IDLE
returns-then-t-eq-IDLE c =
    let a = c.args in
    idle_at a.t a.offset a.here a.tp.now a.room.now c.requires.0 c.if-tp-gt2051.false _ c.if-t-eq-IDLE.true c.if-offset-here.false (omega (arith, c.requires.4, c.if-here-tp.false)) c.out_with-then-t-eq-IDLE.ensures

pub returns-then-tp-place : goal.returns-then-tp-place
returns-then-tp-place c =
    let a = c.args in
    sets_off a.t a.offset a.here a.tp.now a.room.now a.room.now _ c.out_with-then-tp-place.ensures c.requires.0.flips refl

pub returns-then-place-here : goal.returns-then-place-here
returns-then-place-here c =
    let a = c.args in
    sets_off a.t a.offset a.here a.tp.now a.room.now a.room.now _ c.out_with-then-place-here.ensures c.requires.0.flips refl

pub returns-then-t-eq-LOST : goal.returns-then-t-eq-LOST
returns-then-t-eq-LOST c =
    let a = c.args in
    lost_at_lem a.t a.offset a.here a.tp.now a.room.now c.requires.0 c.if-tp-gt2051.false _ _ c.if-t-eq-LOST.true refl c.if-place-here.false c.if-tp-place.false c.out_with-then-t-eq-LOST.ensures
