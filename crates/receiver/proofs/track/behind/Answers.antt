-- `receiver::track::behind` meets its contract: the TP ends, or cuts a header or an EP. Assumes nothing.
use Prim.Native.Nat.{◌<◌}
use mathlib.Core.Path.{ap, refl, subst⁻¹}
use native.Mathlib.Omega.{arith}
use lib.ListN.{length}
use Rattle.receiver.specs.declared.track.Track.{Track}
use Rattle.receiver.proofs.TrackAhead.{behind_busy, behind_cut, behind_idle, few_left, part_left}
use Rattle.receiver.proofs.track.behind.Goals as goal

pub overflow_sub-rest : goal.overflow_sub-rest
overflow_sub-rest c =
    (few_left c.args.a c.args.tp.now (length c.args.room.now) c.requires.fact c.if-a-eq-TAIL.true).1

pub returns-then-rest-eq0 : goal.returns-then-rest-eq0
returns-then-rest-eq0 c =
    let e = c.turned.ensures in
    behind_idle c.turned.result c.args.a c.args.stamp c.args.tp.now c.args.room.now (subst⁻¹ (λ (x : Track). x.flips < 256) e c.requires.flips_bound.0) c.if-a-eq-TAIL.true c.if-rest-eq0.true (ap (λ (x : Track). x.sort) e)

pub gather-requires : goal.gather-requires
gather-requires c =
    let d = few_left c.args.a c.args.tp.now (length c.args.room.now) c.requires.fact c.if-a-eq-TAIL.true in
    (omega (arith, d.2), omega arith, omega (arith, d.1))

pub returns-then-a-eq-TAIL : goal.returns-then-a-eq-TAIL
returns-then-a-eq-TAIL c =
    let e = c.cut.ensures in
    behind_cut c.cut.result c.args.a c.args.stamp c.args.tp.now c.args.room.now (omega (arith, e.1, c.requires.flips_bound.0)) c.if-a-eq-TAIL.true _ _ _ refl c.if-rest-eq0.false c.of-began.ensures c.gather.ensures e.0

pub overflow_add-start : goal.overflow_add-start
overflow_add-start c =
    let d = part_left c.args.a c.args.tp.now (length c.args.room.now) c.requires.fact c.if-a-eq-TAIL.false in
    omega (arith, d.1, c.requires.flips_bound.2)

pub overflow_sub-n : goal.overflow_sub-n
overflow_sub-n c =
    (part_left c.args.a c.args.tp.now (length c.args.room.now) c.requires.fact c.if-a-eq-TAIL.false).1

pub slice_bounds-copy_at-count : goal.slice_bounds-copy_at-count
slice_bounds-copy_at-count c =
    (part_left c.args.a c.args.tp.now (length c.args.room.now) c.requires.fact c.if-a-eq-TAIL.false).1

pub slice_bounds-copy_at-start : goal.slice_bounds-copy_at-start
slice_bounds-copy_at-start c =
    (part_left c.args.a c.args.tp.now (length c.args.room.now) c.requires.fact c.if-a-eq-TAIL.false).1

pub overflow_sub-a : goal.overflow_sub-a
overflow_sub-a c =
    let d = part_left c.args.a c.args.tp.now (length c.args.room.now) c.requires.fact c.if-a-eq-TAIL.false in
    omega (arith, d.2)

pub returns : goal.returns
returns c =
    let e = c.busy.ensures in
    let d = part_left c.args.a c.args.tp.now (length c.args.room.now) c.requires.fact c.if-a-eq-TAIL.false in
    behind_busy c.busy.result c.args.a c.args.stamp c.args.tp.now c.args.room.now (omega (arith, e.1, c.requires.flips_bound.1)) d.0 _ c.of-began.ensures e.0 _ c.copy_at.ensures
