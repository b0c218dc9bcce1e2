-- `receiving::c7_receiver_open` meets its contract: a stream beyond 15, or what `receiver::open` gives, in words. Assumes nothing.
use lib.ListN.{length}
use Rattle.jenugathi.proofs.Receives.{beyond, not_opened, opens}
use Rattle.jenugathi.proofs.receiving.c7_receiver_open.Goals as goal

pub returns-then-stream-gt15 : goal.returns-then-stream-gt15
returns-then-stream-gt15 c = beyond c.args.w.now c.args.tp c.args.stream (length c.args.room.now) c.if-stream-gt15.true

pub returns-in-None : goal.returns-in-None
returns-in-None c = not_opened c.args.w.now _ _ _ _ c.open.ensures c.in-None.is

pub returns-in-Some : goal.returns-in-Some
returns-in-Some c = opens c.args.w.now _ _ _ _ c.open.ensures _ _ c.in-Some.is c.words_of.ensures.0
