-- `receiver::swift::lane_in` meets its contract: each test that passes is a fact.
-- Assumes nothing.
use Rattle.receiver.proofs.OnWords.{words_cut, words_idle, words_lost}
use Rattle.receiver.proofs.swift.lane_in.Goals as goal

pub returns-then-w-eq0 : goal.returns-then-w-eq0
returns-then-w-eq0 c = words_lost c.args.w.now c.if-w-ne0.false c.if-w-eq0.true

pub returns-then-w-eq0-2 : goal.returns-then-w-eq0-2
returns-then-w-eq0-2 c = words_idle c.args.w.now c.requires c.if-w-ne0.false c.if-w-ne1.false c.if-w-eq0-2.true

pub returns : goal.returns
returns c = words_cut c.args.w.now c.requires c.if-w-ne0.false c.if-w-ne1.false c.if-w-eq0-2.false
