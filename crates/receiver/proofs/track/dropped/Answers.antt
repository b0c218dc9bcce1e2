-- `receiver::track::dropped` meets its contract: what the TP's word says, out of step.
-- Assumes nothing.
use native.Mathlib.Omega.{arith}
use Rattle.receiver.proofs.TrackOver.{beyond_told, broken_told, none_begins, offset_small, outside_told, undropped, word_over}
use Rattle.receiver.proofs.track.dropped.Goals as goal

pub returns-then-tp-r : goal.returns-then-tp-r
returns-then-tp-r c = undropped c.args.r c.args.tp.now

pub overflow_cast-tp : goal.overflow_cast-tp
overflow_cast-tp c = omega (arith, c.type_inv.tp 0)

pub returns-then-tp-r-2 : goal.returns-then-tp-r-2
returns-then-tp-r-2 c = undropped c.args.r c.args.tp.now

pub returns-then-w-eq-NO_START : goal.returns-then-w-eq-NO_START
returns-then-w-eq-NO_START c = word_over c.args.r c.args.tp.now c.requires c.if-tp-r.false c.if-tp-r-2.false _ c.tp_word-w.ensures c.if-w-eq-NO_START.true

pub returns-in_default : goal.returns-in_default
returns-in_default c = beyond_told c.args.r c.args.tp.now c.requires c.if-tp-r.false c.if-tp-r-2.false _ c.tp_word-w.ensures _ c.read_tp_word.ensures c.in_default.is

pub returns-then-is_none : goal.returns-then-is_none
returns-then-is_none c = broken_told c.args.r c.args.tp.now c.requires c.if-tp-r.false c.if-tp-r-2.false _ c.tp_word-w.ensures _ c.read_tp_word.ensures _ _ c.in-Some.is c.if-low.true _ c.item.ensures c.if-is_none.ensures

pub returns-then-low : goal.returns-then-low
returns-then-low c = undropped c.args.r c.args.tp.now

pub returns-then-offset-eq2047 : goal.returns-then-offset-eq2047
returns-then-offset-eq2047 c = none_begins c.args.r c.args.tp.now c.requires c.if-tp-r.false c.if-tp-r-2.false _ c.tp_word-w.ensures _ c.read_tp_word.ensures _ _ c.in-Some.is c.if-low.false c.if-offset-eq2047.true

pub overflow_add-offset : goal.overflow_add-offset
overflow_add-offset c = omega (arith, offset_small c.args.r c.args.tp.now c.requires c.if-tp-r.false c.if-tp-r-2.false _ c.tp_word-w.ensures _ c.read_tp_word.ensures _ _ c.in-Some.is)

pub returns-then-tp-offset : goal.returns-then-tp-offset
returns-then-tp-offset c = outside_told c.args.r c.args.tp.now c.requires c.if-tp-r.false c.if-tp-r-2.false _ c.tp_word-w.ensures _ c.read_tp_word.ensures _ _ c.in-Some.is c.if-low.false c.if-offset-eq2047.false c.if-tp-offset.true

pub returns : goal.returns
returns c = undropped c.args.r c.args.tp.now
