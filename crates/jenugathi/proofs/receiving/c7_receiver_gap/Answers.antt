-- `receiving::c7_receiver_gap` meets its contract: words of no receiver, or those of the receiver that was told. Assumes nothing.
use Rattle.jenugathi.proofs.Receives.{able_of, gapped, not_gapped}
use Rattle.jenugathi.proofs.receiving.c7_receiver_gap.Goals as goal

pub gap-requires : goal.gap-requires
gap-requires c = able_of _ _ c.in-Some.is c.of_words.ensures.1

pub returns-in-None : goal.returns-in-None
returns-in-None c = not_gapped c.args.w.now _ c.of_words.ensures.0 c.in-None.is

pub returns-in-Some : goal.returns-in-Some
returns-in-Some c = gapped c.args.w.now _ c.of_words.ensures.0 _ _ _ c.in-Some.is c.gap.ensures.0 c.words_of.ensures.0
