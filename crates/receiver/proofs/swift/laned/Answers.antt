-- `receiver::swift::laned` meets its contract: before ordinary bytes, among them, and behind what is met.
-- Assumes nothing.
use mathlib.Core.Path.{refl, subst, sym}
use Prim.Native.Nat.{ℕ}
use Rattle.receiver.specs.Lanes.{Tidy}
use Rattle.receiver.proofs.OnWords.{laned_behind, laned_tidy, laned_told}
use Rattle.receiver.proofs.swift.laned.Goals as goal

pub due-first-requires : goal.due-first-requires
due-first-requires c = subst (λ (n : ℕ). Tidy n c.args.lane) (sym c.requires.3) c.requires.1.1

pub met_in-requires : goal.met_in-requires
met_in-requires c = let a = c.args in
    laned_tidy a.w.now _ c.count_in-count.result a.lane a.tp.now a.room.now _ _ c.requires.0 c.requires.2 c.requires.3 c.before-2.result c.before-2.ensures _ c.in-On.is c.due-first.result c.ahead-met.result c.due-first.ensures c.ahead-met.ensures

pub returns-in-Told : goal.returns-in-Told
returns-in-Told c = let a = c.args in
    laned_told a.w.now _ c.count_in-count.result a.lane a.tp.now a.room.now a.room.now a.room.now c.requires.0 c.requires.2 c.requires.3 c.before-2.result c.before-2.ensures _ c.in-Told.is

pub returns-in-On : goal.returns-in-On
returns-in-On c = let a = c.args in
    laned_behind a.w.now _ c.count_in-count.result a.lane a.tp.now a.room.now _ _ c.requires.0 c.requires.2 c.requires.3 c.before-2.result c.before-2.ensures _ c.in-On.is c.due-first.result c.ahead-met.result c.due-first.ensures c.ahead-met.ensures c.met_in.result _ _ refl c.met_in.ensures
