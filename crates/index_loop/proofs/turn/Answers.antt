-- `index_loop::turn` meets its contract: a TP's finds, or a gap told.
-- Assumes nothing.
use mathlib.Core.Path.{refl}
use native.Mathlib.Omega.{arith}
use Rattle.index_loop.proofs.Hearing.{does_told}
use Rattle.index_loop.proofs.turn.Goals as goal

pub returns : goal.returns
returns c =
    let a = c.args in
    let g = c.gap.ensures in
    record {
      onward = record { able = g.1; from = omega arith; end = omega arith };
      does = does_told a.said a.task a.gone a.«data».now a.run a.room.now a.out.now _ a.room.now a.out.now c.in_default.not-Packet
          (record { receiver = g.0; room = refl; out = refl; from = refl; number = c.sum.ensures });
    }
