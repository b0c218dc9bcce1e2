-- `receiver::swift::plain_spot` meets its contract.
-- Assumes nothing.
use borrow.Author.Tests.{eq-eqb, ne_eqb}
use Rattle.receiver.proofs.swift.plain_spot.Goals as goal

pub returns-then-at-len : goal.returns-then-at-len
returns-then-at-len c = rw (c.in-Lost.is, ne_eqb _ _ c.if-at-len.true)

pub returns-else-at-len : goal.returns-else-at-len
returns-else-at-len c = rw (c.in-Lost.is, eq-eqb _ _ c.if-at-len.false)

pub returns-in-Idle : goal.returns-in-Idle
returns-in-Idle c = rw c.in-Idle.is
