-- `receiver::walk::advance` meets its contract: which clause of the turn's definition the phase chooses.
-- Assumes nothing.
use Rattle.receiver.proofs.Advancing.{advance_by_lem, advance_lost, counts, fine_by}
use native.Mathlib.Omega.{arith}
use Rattle.receiver.proofs.walk.advance.Goals as goal

pub header-requires : goal.header-requires
header-requires c =
    let a = c.args in
    let g = fine_by a.cap a.stamp a.w a.tp.now _ c.in-Head.is c.requires in
    record { have_bound = (g.0, g.1, c.requires.at); roomy = g.2 }

pub admit-requires : goal.admit-requires
admit-requires c = fine_by c.args.cap c.args.stamp c.args.w c.args.tp.now _ c.in-Judged.is c.requires

pub body-requires : goal.body-requires
body-requires c =
    let a = c.args in
    let g = fine_by a.cap a.stamp a.w a.tp.now _ c.in-Body.is c.requires in
    (c.requires.at, counts a.cap _ a.w.kept (omega arith) g)

pub returns-in-Lost : goal.returns-in-Lost
returns-in-Lost c = let a = c.args in rw c.stop.ensures (advance_lost a.cap a.stamp a.w a.tp.now c.in-Lost.is)

pub returns-in-Head : goal.returns-in-Head
returns-in-Head c = let a = c.args in rw (c.header.ensures, c.begun-first.ensures) (advance_by_lem a.cap a.stamp a.w a.tp.now _ c.in-Head.is)

pub returns-in-Judged : goal.returns-in-Judged
returns-in-Judged c = let a = c.args in rw c.admit.ensures (advance_by_lem a.cap a.stamp a.w a.tp.now _ c.in-Judged.is)

pub returns-in-Body : goal.returns-in-Body
returns-in-Body c = let a = c.args in rw c.body.ensures (advance_by_lem a.cap a.stamp a.w a.tp.now _ c.in-Body.is)
