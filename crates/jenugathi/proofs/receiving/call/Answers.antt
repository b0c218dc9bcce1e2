-- `jenugathi::receiving::call` meets its contract: on the words, or by value.
-- Assumes nothing.
use Rattle.jenugathi.proofs.Receives.{able_still, by_value, swiftly}
use Rattle.jenugathi.proofs.receiving.call.Goals as goal

pub next-q-requires : goal.next-q-requires
next-q-requires c =
    let a = c.args in
    able_still a.w.now a.tp.now a.room.now c.requires _ _ _ _ c.next.ensures c.in-None.is c.receiver_in.ensures

pub returns-in-Some : goal.returns-in-Some
returns-in-Some c =
    let a = c.args in
    swiftly a.w.now a.tp.now a.room.now c.requires _ _ _ _ _ _ c.next.ensures c.in-Some.is c.find_words.ensures c.number_of.ensures

pub returns-in-None : goal.returns-in-None
returns-in-None c =
    let a = c.args in
    by_value a.w.now a.tp.now a.room.now c.requires _ _ _ _ _ _ _ _ _ c.next.ensures c.in-None.is c.receiver_in.ensures c.next-q.ensures c.words_of.ensures c.find_words-in-None.ensures c.number_of-in-None.ensures
