-- `receiver::open` meets its contract: each refusal is one of the definition's tests, and what is opened is fresh.
-- Assumes nothing.
use native.Mathlib.Omega.{arith}
use borrow.Author.Tests.{le-ltb, lt-ltb}
use Rattle.receiver.proofs.open.Goals as goal

pub returns-then-tp-lt16 : goal.returns-then-tp-lt16
returns-then-tp-lt16 c = record { same = simp (lt-ltb _ _ c.if-tp-lt16.true); able = omega arith }

pub returns-then-tp-gt2051 : goal.returns-then-tp-gt2051
returns-then-tp-gt2051 c = record { same = simp (le-ltb _ _ c.if-tp-lt16.false, lt-ltb _ _ c.if-tp-gt2051.true); able = omega arith }

pub returns-then-stream-gt15 : goal.returns-then-stream-gt15
returns-then-stream-gt15 c = record { same = simp (le-ltb _ _ c.if-tp-lt16.false, le-ltb _ _ c.if-tp-gt2051.false, lt-ltb _ _ c.if-stream-gt15.true); able = omega arith }

pub returns-then-room-gt131072 : goal.returns-then-room-gt131072
returns-then-room-gt131072 c = record { same = simp (le-ltb _ _ c.if-tp-lt16.false, le-ltb _ _ c.if-tp-gt2051.false, le-ltb _ _ c.if-stream-gt15.false, lt-ltb _ _ c.if-room-gt131072.true); able = omega arith }

pub returns : goal.returns
returns c =
    let e = c.fresh.ensures.0 in
    record {
      same = simp (e, le-ltb _ _ c.if-tp-lt16.false, le-ltb _ _ c.if-tp-gt2051.false, le-ltb _ _ c.if-stream-gt15.false, le-ltb _ _ c.if-room-gt131072.false);
      able = c.fresh.ensures.1;
    }
