-- R-13 holds: any TPs may be missing, told of at each place where some are. Assumes nothing.
use mathlib.Core.Path.{◌≡◌, refl}
use Rattle.receiver.specs.declared.Receiver.{Receiver}
use Rattle.receiver.specs.Call.{gap_of}
use Rattle.sender.specs.Run.{tps}
use Rattle.downlink.specs.Demand.{carries, did, RightOf, Longest, AsQueue, Unchanged, Themselves}
use Rattle.downlink.specs.Gaps.{heard_of, through, WithGaps, Demand13}
use Rattle.downlink.proofs.Through.{through_drawn}
use Rattle.downlink.proofs.Demanded.{right, longest_is_roomy, as_queue_is_roomy, themselves}

pub demand13 : Demand13
demand13 l roomy arrived told calls hears =
    right l roomy arrived told calls hears (through arrived 0 (carries (tps (did l)))) (λ a b h. refl) (through_drawn arrived 0 (carries (tps (did l))))

pub demand13_longest : WithGaps Longest RightOf
demand13_longest l e = demand13 l (longest_is_roomy l e)

pub demand13_as_queue : WithGaps AsQueue RightOf
demand13_as_queue l h = demand13 l (as_queue_is_roomy l h)

pub demand13_unchanged : WithGaps Unchanged Themselves
demand13_unchanged l (roomy, same) arrived told calls hears =
    themselves l same arrived (through arrived 0 (carries (tps (did l)))) (heard_of arrived told 0 l.got) calls (demand13 l roomy arrived told calls hears)

-- a gap told several times at one place is one
pub told_again : (r : Receiver) → gap_of (gap_of r) ≡ gap_of r
told_again r = refl
