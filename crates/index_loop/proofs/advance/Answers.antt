-- `index_loop::advance` meets its contract: each block's records are taken, and reading goes on.
-- Assumes nothing.
use mathlib.Core.Path.{◌≡◌, refl, sym, ◌∙◌}
use native.Mathlib.Omega.{arith}
use Rattle.index_loop.specs.Advancing.{begun, takes}
use Rattle.index_loop.proofs.Advances.{goes, settled}
use Rattle.index_loop.specs.declared.Stop.TheVariants.{More}
use Rattle.index_loop.proofs.advance.Goals as goal
use Rattle.index_loop.proofs.advance.Goals.{in-More, in_default}

pub loop-init : goal.loop-init
loop-init c = record { walked = c.requires; block = refl; room = refl; out = refl; taken = begun }

pub returns-then-not-matches-clause-advanced : goal.returns-then-not-matches-clause-advanced
returns-then-not-matches-clause-advanced c =
    let h = settled _ _ _ _ _ _ _ _ _ _ _ (takes c.loop.invariant.taken c.turns-ahead.ensures.taken) c.go_on-next.ensures.goes_on in
    record { last = h.0; taken = h.1.0; stop = h.1.1 }

pub loop-preserved : goal.loop-preserved
loop-preserved c =
    let i = c.loop.invariant in
    let g = c.go_on-next.ensures in
    let more : c.go_on-next.result.stop ≡ More = elim c.match-matches.branch [ in-More w ↦ w.in-More.is | in_default w ↦ let e = sym w.matches-is ∙ c.if-not-matches.false in cc ] in
    record {
      walked = record { able = c.turns-ahead.ensures.ahead.able; lies = g.lies };
      block = omega (arith, i.block);
      room = omega (arith, i.room);
      out = omega (arith, i.out);
      taken = goes _ _ _ _ _ _ _ _ _ _ _ (takes i.taken c.turns-ahead.ensures.taken) g.goes_on more;
    }
