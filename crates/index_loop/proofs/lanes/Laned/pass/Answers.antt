-- `index_loop::lanes::Laned::pass` meets its contract: a TP whose header says its flag and offset is of the receiver's length, and its first
-- call is the payload's.
-- Assumes nothing.
use mathlib.Core.Path.{sym, ◌∙◌}
use native.Mathlib.Omega.{arith}
use Rattle.index_loop.proofs.Leading.{dropped_left, says_left}
use Rattle.index_loop.proofs.Passing.{says, says_lends}
use Rattle.index_loop.proofs.lanes.Laned.pass.Goals as goal

pub payload-requires-clause-in_bounds : goal.payload-requires-clause-in_bounds
payload-requires-clause-in_bounds c =
    let w = says c.args.base c.args.self.tp.now _ _ (sym c.top.ensures ∙ c.in-Says.is) in
    (omega (arith, w.0, c.requires.able.size), w.1)

pub returns-in-Dropped-clause-passed_by : goal.returns-in-Dropped-clause-passed_by
returns-in-Dropped-clause-passed_by c =
    let a = c.args in
    let p = c.requires in
    dropped_left a.self.covered a.self.stamp a.lane a.base a.self.tp.now a.room.now a.out.now a.at p.able.size p.room_len p.tidy _ (sym c.top.ensures ∙ c.in-Dropped.is)

pub returns-in-Says-clause-passed_by : goal.returns-in-Says-clause-passed_by
returns-in-Says-clause-passed_by c =
    let a = c.args in
    let p = c.requires in
    let e = sym c.top.ensures ∙ c.in-Says.is in
    let r = c.payload in
    says_left a.self.covered a.self.stamp a.lane a.base a.self.tp.now a.room.now a.out.now a.at p.able.size p.room_len p.tidy _ _ r.result.left _ _ r.result.at e
    (says_lends a.base a.self.tp.now a.room.now _ _ p.able p.room_len e) r.ensures.leaves_by
