-- `receiver::entry::begin` meets its contract: each stage is a clause of the call's definition.
-- Assumes nothing.
use Rattle.receiver.proofs.TakingUp.{due_begins, first_begins, first_lent, low_begins, plain_begins}
use Rattle.receiver.proofs.entry.begin.Goals as goal

pub first-requires : goal.first-requires
first-requires c =
    let a = c.args in
    (c.requires.0, first_lent a.r a.t a.tp.now c.requires.0 c.requires.1 c.in-Fresh.is)

pub returns-in-Fresh : goal.returns-in-Fresh
returns-in-Fresh c =
    let a = c.args in
    first_begins a.r a.t a.tp.now _ c.in-Fresh.is c.first.ensures

pub returns-in-Low : goal.returns-in-Low
returns-in-Low c =
    let a = c.args in
    low_begins a.r a.t a.tp.now _ c.requires.0 c.requires.1 c.in-Low.is

pub returns-in-Due : goal.returns-in-Due
returns-in-Due c =
    let a = c.args in
    due_begins a.r a.t a.tp.now _ c.requires.0 c.requires.1 c.in-Due.is

pub returns-in-Plain : goal.returns-in-Plain
returns-in-Plain c =
    let a = c.args in
    plain_begins a.r a.t a.tp.now c.requires.0 c.in-Plain.is
