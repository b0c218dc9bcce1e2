-- `receiver::swift::spot_of` meets its contract: by the stage that the words say.
-- Assumes nothing.
use mathlib.Core.Path.{refl}
use native.Mathlib.Omega.{arith}
use Rattle.receiver.proofs.OnWords.{goes_due, goes_first, goes_low, goes_plain}
use Rattle.receiver.proofs.Worded.{fits, streamed}
use Rattle.receiver.proofs.swift.spot_of.Goals as goal

pub overflow_cast-w : goal.overflow_cast-w
overflow_cast-w c = let few = streamed c.args.w.now c.requires.0 in omega (arith, few)

pub first_spot-requires : goal.first_spot-requires
first_spot-requires c = let size = (fits c.args.w.now c.requires.0).able.size in omega (arith, size, c.requires.2)

pub returns-then-w-eq0 : goal.returns-then-w-eq0
returns-then-w-eq0 c = goes_first c.args.w.now c.args.lane c.args.tp.now c.requires.0 c.requires.1 c.requires.2 _ _ c.if-w-eq0.true refl c.first_spot.ensures

pub returns-then-w-eq1 : goal.returns-then-w-eq1
returns-then-w-eq1 c = goes_low c.args.w.now c.args.lane c.args.tp.now c.requires.0 c.requires.1 c.requires.2 c.if-w-eq1.true

pub returns-then-w-eq2 : goal.returns-then-w-eq2
returns-then-w-eq2 c = goes_due c.args.w.now c.args.lane c.args.tp.now c.requires.0 c.requires.1 c.requires.2 c.if-w-eq2.true

pub returns : goal.returns
returns c = goes_plain c.args.w.now c.args.lane c.args.tp.now c.requires.0 c.requires.1 c.requires.2 _ c.if-w-eq0.false c.if-w-eq1.false c.if-w-eq2.false c.plain_spot.ensures
