-- `receiver::series::next` meets its contract: what the series comes to, by the receiver whose words these are.
-- Assumes nothing.
use Rattle.receiver.specs.Words.{receiver_in}
use Rattle.receiver.proofs.Serially.{chain_as, serially, words_by}
use borrow.Author.Rules.{rules}
use Rattle.receiver.proofs.series.next.Goals as goal

pub chain_of-requires : goal.chain_of-requires
chain_of-requires c =
    let a = c.args in
    (c.requires, words_by a.w.now a.tp.now a.room.now c.requires c.if-tp-w.false c.if-room-w.false)

pub returns : goal.returns
returns c =
    let a = c.args in
    let l = words_by a.w.now a.tp.now a.room.now c.requires c.if-tp-w.false c.if-room-w.false in
    let d = chain_as _ (receiver_in a.w.now) a.tp.now a.room.now _ _ c.chain_of.ensures c.in_ok-chain.was in
    serially a.w.now a.tp.now a.room.now c.requires _ _ _ l (search rules) (search rules) _ _ _ _ _ _ _ _ _ d _ c.course_of-course.ensures _ c.receiver_in-r.ensures _ c.behind.ensures
