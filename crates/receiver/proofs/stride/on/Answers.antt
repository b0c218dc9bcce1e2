-- `receiver::stride::on` meets its contract: by what is kept.
-- Assumes nothing.
use lib.ListN.{length}
use Rattle.receiver.proofs.Striding.{kept_in_lem, on_free, on_joined, stays}
use Rattle.receiver.proofs.stride.on.Goals as goal

pub returns-in_default : goal.returns-in_default
returns-in_default c =
    let a = c.args in stays (length a.room.now) a.stamp a.tp.now a.w a.room.now c.requires

pub returns-then-have-ne0 : goal.returns-then-have-ne0
returns-then-have-ne0 c =
    let a = c.args in stays (length a.room.now) a.stamp a.tp.now a.w a.room.now c.requires

pub returns-then-k-gt4294967295 : goal.returns-then-k-gt4294967295
returns-then-k-gt4294967295 c =
    let a = c.args in stays (length a.room.now) a.stamp a.tp.now a.w a.room.now c.requires

pub past_middles-j-requires : goal.past_middles-j-requires
past_middles-j-requires c =
    let a = c.args in (c.requires.at, kept_in_lem (length a.room.now) a.stamp a.tp.now a.w _ _ c.requires c.in-Head.is c.if-have-ne0.false _ _ _ _ c.in-Some.is)

pub returns-in-None : goal.returns-in-None
returns-in-None c =
    let a = c.args in on_free (length a.room.now) a.stamp a.tp.now a.w _ _ c.requires c.in-Head.is c.if-have-ne0.false _ a.room.now _ c.in-None.is c.free.ensures

pub returns-else-k-gt4294967295 : goal.returns-else-k-gt4294967295
returns-else-k-gt4294967295 c =
    let a = c.args in on_joined (length a.room.now) a.stamp a.tp.now a.w _ _ c.requires c.in-Head.is c.if-have-ne0.false _ _ _ _ a.room.now _ _ _ c.in-Some.is c.if-k-gt4294967295.false c.past_middles-j.ensures
